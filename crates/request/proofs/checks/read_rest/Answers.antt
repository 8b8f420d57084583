-- `request::checks::read_rest` meets its contract. Checks 5 to 7, then the OPT. Assumes nothing.
use borrow.Author.Rules.{rules}
use Rattle.std.proofs.lemmas.Result.{err_from_is_err_and}
use Rattle.request.proofs.RestLaws.{refuse_5, opt_ordered, opt_within, refuse_fault, no_opt_lem, with_opt_lem}
use Rattle.request.proofs.checks.read_rest.Goals as goal

pub returns-then-qdcount-gt1 : goal.returns-then-qdcount-gt1
returns-then-qdcount-gt1 c = search (rules, refuse_5)

pub returns-in_err-walk : goal.returns-in_err-walk
returns-in_err-walk c =
    let p = err_from_is_err_and c.from_residual.result c.from_residual.ensures.1 in
    rw (p.1, p.2) (search (rules, refuse_fault, c.in_err-walk.ensures))

pub read_opt-requires : goal.read_opt-requires
read_opt-requires c =
    let walked = rw c.in-Some.is at c.in_ok-walk.ensures in
    (search (rules, opt_ordered, walked), search (rules, opt_within, walked), search rules)

pub returns-in-None : goal.returns-in-None
returns-in-None c = let walked = rw c.in-None.is at c.in_ok-walk.ensures in search (rules, no_opt_lem, walked)

pub returns-in-Some : goal.returns-in-Some
returns-in-Some c = let walked = rw c.in-Some.is at c.in_ok-walk.ensures in search (rules, with_opt_lem, walked)
