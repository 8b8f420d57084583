-- `siphash::round` meets its contract. Its operations are those of the definition. Assumes nothing.
use Rattle.siphash.proofs.RotateLaws.{round_is}
use Rattle.std.proofs.Common.{arith}
use Rattle.siphash.proofs.round.Goals as goal

pub returns : goal.returns
returns c =
    round_is c.args.s (omega arith) (omega arith) _ _ _ _ _ _ c.rotate_left.type_inv c.rotate_left-2.type_inv
    c.rotate_left.ensures c.rotate_left-2.ensures c.rotate_left-b0.ensures c.rotate_left-3.ensures c.rotate_left-4.ensures c.rotate_left-c2.ensures
