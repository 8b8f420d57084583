-- `rows::digits` meets its contract. The invariant: the digits counted and those of the rest are the number's. Assumes nothing.
use Rattle.rows.proofs.DigitLaws.{length_below, length_one, length_two, length_three, length_four, length_four_more}
use borrow.Author.Rules.{rules}
use native.Mathlib.Omega.{arith}
use Rattle.rows.proofs.digits.Goals as goal

pub loop-rest-init : goal.loop-rest-init
loop-rest-init c = (search rules, length_below c.args.x 19 (omega arith), omega arith)

pub loop-rest-preserved : goal.loop-rest-preserved
loop-rest-preserved c =
    let more = length_four_more c.loop-rest.rest (omega arith) (omega arith) in (omega arith, omega arith, omega arith)

pub returns-then-rest-lt10 : goal.returns-then-rest-lt10
returns-then-rest-lt10 c = let long = length_one c.loop-rest.rest (omega arith) in (omega arith, omega arith)

pub returns-then-rest-lt100 : goal.returns-then-rest-lt100
returns-then-rest-lt100 c = let long = length_two c.loop-rest.rest (omega arith) (omega arith) in (omega arith, omega arith)

pub returns-then-rest-lt1000 : goal.returns-then-rest-lt1000
returns-then-rest-lt1000 c = let long = length_three c.loop-rest.rest (omega arith) (omega arith) in (omega arith, omega arith)

pub returns : goal.returns
returns c = let long = length_four c.loop-rest.rest (omega arith) (omega arith) in (omega arith, omega arith)
