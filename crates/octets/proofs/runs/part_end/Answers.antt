-- `octets::runs::part_end` meets its contract. Assumes nothing.
use Prim.Native.Nat.{◌+◌}
use native.Mathlib.Omega.{arith}
use Rattle.octets.proofs.ReadLaws.{part_past, part_inside}
use Rattle.octets.proofs.runs.part_end.Goals as goal

pub returns-then-s-end : goal.returns-then-s-end
returns-then-s-end c =
    part_past c.args.s.now (c.args.at + c.args.skip) _ _ (omega arith) (omega (arith, c.in_ok-start.ensures.1))
    c.if-s-end.true

pub returns : goal.returns
returns c =
    part_inside c.args.s.now (c.args.at + c.args.skip) _ _ (omega arith) (omega (arith, c.in_ok-start.ensures.1))
    c.if-s-end.false
