-- `siphash::siphash24_32` meets its contract, named step by step as `siphash24_20` is.
-- Assumes nothing.
use Rattle.siphash.proofs.FixedLaws.{given_32}
use Rattle.siphash.specs.SipHash.{key_of}
use Rattle.siphash.proofs.siphash24_32.Goals as goal

pub returns : goal.returns
returns c =
    given_32 (key_of c.args.k0 c.args.k1) c.args.w0 c.args.w1 c.args.w2 c.args.w3 c.finalize.result
    c.initialize.result c.compress.result c.compress-s.result c.compress-2.result c.compress-3.result c.compress-4.result
    c.ranges.w0.fits c.ranges.w1.fits c.ranges.w2.fits c.ranges.w3.fits
    c.initialize.ensures c.compress.ensures c.compress-s.ensures c.compress-2.ensures c.compress-3.ensures c.compress-4.ensures
    c.finalize.ensures
