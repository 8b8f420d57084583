-- `listing::Lister::list` meets its contract: after i records the lines of i records stand in the output. Assumes nothing.
use Rattle.listing.proofs.ListLaws.{Sofar}
use Rattle.listing.proofs.Lister.list.Given as goal

abbrev pub invariant-loop-record : goal.invariant-loop-record
invariant-loop-record l = Sofar l.fn.self l.block l.fn.output l.output l.self l.end l.record-index
