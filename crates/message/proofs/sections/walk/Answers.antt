-- `message::sections::walk` meets its contract. One law for each answer. Assumes nothing.
use borrow.Author.Rules.{rules}
use Rattle.std.proofs.lemmas.Result.{err_from_is_err_and}
use Rattle.message.proofs.MessageLaws.{outline_short, outline_no_questions, outline_scanned}
use Rattle.message.proofs.sections.walk.Goals as goal

pub returns-then-message-lt12 : goal.returns-then-message-lt12
returns-then-message-lt12 c = search (rules, outline_short)

pub returns-in_err-at : goal.returns-in_err-at
returns-in_err-at c =
    let p = err_from_is_err_and c.from_residual.result c.from_residual.ensures.1 in
    rw (p.1, p.2) (search (rules, outline_no_questions, c.in_err-at.ensures.value))

pub returns : goal.returns
returns c = search (rules, outline_scanned, c.in_ok-at.ensures.value)
