-- `message::sections::questions_end` meets its contract. The questions that are left end where all do. Assumes nothing.
use borrow.Author.Rules.{rules}
use Rattle.message.proofs.MessageLaws.{questions_end_lem, questions_cut, questions_next}
use Rattle.message.proofs.sections.questions_end.Goals as goal

pub loop-init : goal.loop-init
loop-init c = search rules

pub loop-preserved : goal.loop-preserved
loop-preserved c = search (rules, questions_next, c.in_ok-at.ensures)

pub returns-in_err-at : goal.returns-in_err-at
returns-in_err-at c = search (rules, questions_cut, c.in_err-at.ensures)

pub returns : goal.returns
returns c = search (rules, questions_end_lem)
