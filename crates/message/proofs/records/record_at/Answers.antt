-- `message::records::record_at` meets its contract. One law for each answer. Assumes nothing.
use borrow.Author.Rules.{rules}
use Rattle.message.proofs.NameLaws.{name_inside}
use Rattle.message.proofs.RecordLaws.{record_no_name, record_past, record_whole}
use Rattle.message.proofs.records.record_at.Goals as goal

pub returns-in_err-end : goal.returns-in_err-end
returns-in_err-end c = search (rules, record_no_name, c.in_err-end.ensures)

pub returns-in_err-stop : goal.returns-in_err-stop
returns-in_err-stop c = search (rules, record_past, c.in_ok-end.ensures, c.in_err-stop.ensures)

pub bounds-message-at : goal.bounds-message-at
bounds-message-at c = search (rules, name_inside, c.in_ok-end.ensures)

pub returns : goal.returns
returns c = search (rules, record_whole, c.in_ok-end.ensures, c.in_ok-stop.ensures)
