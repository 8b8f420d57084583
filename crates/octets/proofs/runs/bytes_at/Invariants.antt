-- `octets::runs::bytes_at` meets its contract. The invariant: the bytes before the place i are those of the rest. Assumes nothing.
use Rattle.std.proofs.Common.{◌≡◌, ℕ, ◌<◌, length, get_or}
use Rattle.octets.proofs.runs.bytes_at.Given as goal

abbrev pub invariant-loop-i : goal.invariant-loop-i
invariant-loop-i g l = (length l.byte-items ≡ g.row.N) × ((k : ℕ) → k < l.i → get_or l.byte-items k 0 ≡ get_or l.rest k 0)
