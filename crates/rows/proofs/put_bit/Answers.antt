-- `rows::put_bit` meets its contract. A bit is a number of one digit. Assumes nothing.
use Rattle.rows.proofs.NumberLaws.{bit_put}
use borrow.Author.Rules.{rules}
use Rattle.rows.proofs.put_bit.Goals as goal

pub returns : goal.returns
returns c = search (rules, bit_put)
