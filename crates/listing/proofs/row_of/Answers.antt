-- `listing::row_of` meets its contract. Assumes nothing.
use Rattle.std.proofs.Common.{rules}
use Rattle.listing.proofs.ListLaws.{count_fits, row_is}
use Rattle.listing.proofs.row_of.Goals as goal

pub returns : goal.returns
returns c =
    let a = c.args in
    row_is a.number a.kind a.answer a.ledger.rolling a.ledger.stages _ _ _ _ (search rules) (search rules) (search rules) c.count_at.ensures c.count_at-2.ensures c.count_at-3.ensures c.count_at-4.ensures

pub overflow_cast-result : goal.overflow_cast-result
overflow_cast-result c = search (rules, count_fits)

pub overflow_cast-result-2 : goal.overflow_cast-result-2
overflow_cast-result-2 c = search (rules, count_fits)

pub overflow_cast-result-3 : goal.overflow_cast-result-3
overflow_cast-result-3 c = search (rules, count_fits)

pub overflow_cast-result-4 : goal.overflow_cast-result-4
overflow_cast-result-4 c = search (rules, count_fits)
