-- `siphash::siphash24_20` meets its contract: its steps are those of the definition. They are named one by one, since a search that
-- doesn't find them, as in a wrong program, takes very long.
-- Assumes nothing.
use Rattle.std.proofs.Common.{◌+◌, refl}
use Rattle.siphash.proofs.FixedLaws.{given_20}
use Rattle.siphash.specs.SipHash.{key_of}
use Rattle.siphash.proofs.siphash24_20.Goals as goal

pub returns : goal.returns
returns c =
    given_20 (key_of c.args.k0 c.args.k1) c.args.w0 c.args.w1 c.args.last (c.args.last + 0x1400000000000000) c.finalize.result
    c.initialize.result c.compress.result c.compress-s.result c.compress-2.result
    c.ranges.w0.fits c.ranges.w1.fits c.ranges.last.fits
    c.initialize.ensures c.compress.ensures c.compress-s.ensures refl c.compress-2.ensures c.finalize.ensures
