-- `rows::digits` meets its contract. The invariant: the digits counted and those of the rest are the number's. Assumes nothing.
use Prim.Native.Nat.{◌+◌, ◌≤◌}
use Rattle.rows.specs.Rows.{decimal}
use lib.ListN.{length}
use mathlib.Core.Path.{◌≡◌}
use Rattle.rows.proofs.digits.Given as goal

abbrev pub invariant-loop-rest : goal.invariant-loop-rest
invariant-loop-rest l = (l.rest ≤ l.x) × (length (decimal l.x) ≤ 20) × (l.count + length (decimal l.rest) ≡ length (decimal l.x))

abbrev pub decreases-loop-rest : goal.decreases-loop-rest
decreases-loop-rest l = l.rest
