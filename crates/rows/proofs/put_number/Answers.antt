-- `rows::put_number` meets its contract. The invariant: the digits behind those of the rest are put. Assumes nothing.
use Prim.Native.Nat.{◌+◌}
use Rattle.rows.proofs.NumberLaws.{fill_none, fill_more, fill_all}
use native.Mathlib.Omega.{arith}
use Rattle.rows.proofs.put_number.Goals as goal

pub loop-rest-init : goal.loop-rest-init
loop-rest-init c =
    let a = c.args in fill_none a.buffer.now a.at a.x (a.at + c.digits.result) (omega arith) (omega arith)

pub loop-rest-preserved : goal.loop-rest-preserved
loop-rest-preserved c = fill_more c.args.x (omega arith) c.loop-rest.invariant (omega arith)

pub returns : goal.returns
returns c =
    let a = c.args in
    fill_all a.x (omega arith) c.loop-rest.invariant (a.at + c.digits.result) a.after (omega arith) (omega arith) (omega arith) (omega arith)
