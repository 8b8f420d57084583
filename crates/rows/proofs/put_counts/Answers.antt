-- `rows::put_counts` meets its contract. Four numbers one after the other are the end of a line. Assumes nothing.
use Rattle.rows.proofs.RowLaws.{counts_put}
use borrow.Author.Rules.{rules}
use Rattle.rows.proofs.put_counts.Goals as goal

pub returns : goal.returns
returns c = search (rules, counts_put)
