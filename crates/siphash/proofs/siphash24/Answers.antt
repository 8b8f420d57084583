-- `siphash::siphash24` meets its contract. The invariant: the state has taken in the words so far. Assumes nothing.
use Rattle.std.proofs.Common.{rules, arith}
use Rattle.siphash.proofs.WordLaws.{absorb_one, hash_is}
use Rattle.siphash.specs.SipHash.{absorbed}
use Rattle.siphash.proofs.siphash24.Goals as goal

pub loop-word-init : goal.loop-word-init
unfolding absorbed
loop-word-init c = search rules

pub loop-word-preserved : goal.loop-word-preserved
loop-word-preserved c =
    absorb_one c.args.message.now c.as_chunks.result.0.now c.loop-word.word-index c.le64.result c.initialize-s.result c.loop-word.s c.compress-s.result
    c.as_chunks.ensures.front (omega arith) c.loop-word.invariant c.le64.ensures c.compress-s.ensures

pub returns : goal.returns
returns c = search (rules, hash_is)
