-- `siphash::last_word` meets its contract.
-- Assumes nothing.
use Rattle.siphash.proofs.WordLaws.{last_is}
use Rattle.siphash.specs.SipHash.{last_word}
use Rattle.std.proofs.Common.{rules}
use Rattle.siphash.proofs.last_word.Goals as goal

pub returns : goal.returns
unfolding last_word
returns c = search (rules, last_is)
