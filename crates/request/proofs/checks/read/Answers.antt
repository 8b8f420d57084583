-- `request::checks::read` meets its contract. Checks 3 and 4, then the rest. Assumes nothing.
use borrow.Author.Rules.{rules}
use Rattle.std.proofs.lemmas.Result.{err_from_is_err_and}
use Rattle.request.proofs.RestLaws.{refuse_head, long_enough, short_enough, rest_of}
use Rattle.request.proofs.checks.read.Goals as goal

pub returns-in_err-check_head : goal.returns-in_err-check_head
returns-in_err-check_head c =
    let p = err_from_is_err_and c.from_residual.result c.from_residual.ensures.1 in
    rw (p.1, p.2) (search (rules, refuse_head, c.in_err-check_head.ensures))

pub read_rest-requires : goal.read_rest-requires
read_rest-requires c =
    let told = c.in_ok-check_head.ensures in
    (search (rules, long_enough, told), search (rules, short_enough, told))

pub returns : goal.returns
returns c = search (rules, rest_of, c.in_ok-check_head.ensures)
