-- `message::sections::walk_records` meets its contract. The records that are left give, with the OPT so far, what all do. Assumes nothing.
use borrow.Author.Rules.{rules}
use Rattle.message.proofs.ScanLaws.{scan_end, scan_over, scan_cut, scan_other, scan_opt}
use Rattle.message.proofs.sections.walk_records.Goals as goal

pub returns-in_default : goal.returns-in_default
returns-in_default c = let read = rw c.in_default.is at c.record_at.ensures in search (rules, scan_cut, read)

pub loop-behind-preserved-then-next-eq41 : goal.loop-behind-preserved-then-next-eq41
loop-behind-preserved-then-next-eq41 c = let read = rw c.in-Some.is at c.record_at.ensures in search (rules, scan_opt, read)

pub loop-behind-preserved : goal.loop-behind-preserved
loop-behind-preserved c = let read = rw c.in-Some.is at c.record_at.ensures in search (rules, scan_other, read)

pub returns-then-at-message : goal.returns-then-at-message
returns-then-at-message c = search (rules, scan_over)

pub returns : goal.returns
returns c = rw c.told.ensures (search (rules, scan_end))
