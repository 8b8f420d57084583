-- `rows::put_short` meets its contract. The word, and the number behind it. Assumes nothing.
use Rattle.rows.proofs.RowLaws.{short_put}
use borrow.Author.Rules.{rules}
use Rattle.rows.proofs.put_short.Goals as goal

pub returns : goal.returns
returns c = search (rules, short_put)
