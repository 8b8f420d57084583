-- `rows::put_row` meets its contract. The numbers one after the other are the line, and the longest has room. Assumes nothing.
use Rattle.rows.proofs.RowLaws.{row_put}
use borrow.Author.Rules.{rules}
use Rattle.rows.proofs.put_row.Goals as goal

pub returns : goal.returns
returns c = search (rules, row_put)
