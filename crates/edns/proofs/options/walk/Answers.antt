-- `edns::options::walk` meets its contract. What is found from here on is what is found in all. Assumes nothing.
use borrow.Author.Rules.{rules}
use Rattle.std.proofs.lemmas.Result.{err_from_is_err_and}
use Rattle.edns.proofs.OptionLaws.{found_all, found_end, found_past, found_less, found_next, found_first, found_first_past}
use Rattle.edns.proofs.options.walk.Goals as goal

pub loop-at-init : goal.loop-at-init
loop-at-init c = search (rules, found_all)

pub returns-in_err-next : goal.returns-in_err-next
returns-in_err-next c =
    let p = err_from_is_err_and c.from_residual.result c.from_residual.ensures.1 in
    rw p.1 (search (rules, found_past, c.in_err-next.ensures.value))

pub returns-then-not-is_rest_whole : goal.returns-then-not-is_rest_whole
returns-then-not-is_rest_whole c = search (rules, found_first_past, c.in_ok-next.ensures.value)

pub returns-then-next-eq10 : goal.returns-then-next-eq10
returns-then-next-eq10 c = search (rules, found_first, c.in_ok-next.ensures.value)

pub loop-at-smaller : goal.loop-at-smaller
loop-at-smaller c = search (rules, found_less, c.in_ok-next.ensures.value)

pub loop-at-preserved : goal.loop-at-preserved
loop-at-preserved c = search (rules, found_next, c.in_ok-next.ensures.value)

pub returns : goal.returns
returns c = search (rules, found_end)
