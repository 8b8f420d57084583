-- `message::records::question_end` meets its contract. One law for each answer. Assumes nothing.
use borrow.Author.Rules.{rules}
use Rattle.message.proofs.NameLaws.{name_fits}
use Rattle.message.proofs.RecordLaws.{question_no_name, question_cut, question_whole}
use Rattle.message.proofs.records.question_end.Goals as goal

pub returns-in_err-end : goal.returns-in_err-end
returns-in_err-end c = search (rules, question_no_name, c.in_err-end.ensures)

pub overflow_add-stop : goal.overflow_add-stop
overflow_add-stop c = search (rules, name_fits, c.in_ok-end.ensures, c.well_formed.0.1)

pub returns-then-message-stop : goal.returns-then-message-stop
returns-then-message-stop c = search (rules, question_cut, c.in_ok-end.ensures)

pub returns : goal.returns
returns c = search (rules, question_whole, c.in_ok-end.ensures)
