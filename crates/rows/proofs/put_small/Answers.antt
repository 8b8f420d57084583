-- `rows::put_small` meets its contract. A number of one digit, two, three. Assumes nothing.
use Rattle.rows.proofs.NumberLaws.{small_one, small_two, small_three}
use borrow.Author.Rules.{rules}
use Rattle.rows.proofs.put_small.Goals as goal

pub returns-then-x-lt10 : goal.returns-then-x-lt10
returns-then-x-lt10 c = search (rules, small_one)

pub returns-then-x-lt100 : goal.returns-then-x-lt100
returns-then-x-lt100 c = search (rules, small_two)

pub returns : goal.returns
returns c = search (rules, small_three)
