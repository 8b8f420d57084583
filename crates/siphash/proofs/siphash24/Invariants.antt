-- `siphash::siphash24` meets its contract. The invariant: the state has taken in the words so far. Assumes nothing.
use Rattle.std.proofs.Common.{◌≡◌}
use Rattle.siphash.specs.SipHash.{absorbed}
use Rattle.siphash.proofs.siphash24.Given as goal

abbrev pub invariant-loop-word : goal.invariant-loop-word
invariant-loop-word l = l.s ≡ absorbed l.word-index l.fn.message l.initial.s
