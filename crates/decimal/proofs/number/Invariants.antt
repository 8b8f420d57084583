-- `decimal::number` meets its contract. The invariant: the number so far, followed by what is left, is that of the text,
-- and it fits. Assumes nothing.
use Rattle.std.proofs.Common.{◌≡◌, ◌^◌, ◌<◌, drop}
use Rattle.decimal.specs.Decimal.{followed_by, decimal}
use Rattle.decimal.proofs.number.Given as goal

abbrev pub invariant-loop-b : goal.invariant-loop-b
invariant-loop-b l = (followed_by l.number (drop l.b-index l.text) ≡ decimal l.text) × (l.number < 2 ^ 64)
