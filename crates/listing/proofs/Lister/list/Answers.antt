-- `listing::Lister::list` meets its contract: after i records the lines of i records stand in the output. Assumes nothing.
use Rattle.std.proofs.Common.{rules}
use Rattle.listing.proofs.ListLaws.{none_yet, one_more, all_listed}
use Rattle.listing.proofs.Lister.list.Goals as goal

pub loop-record-init : goal.loop-record-init
loop-record-init c = search (rules, none_yet)

pub loop-record-preserved : goal.loop-record-preserved
loop-record-preserved c =
    one_more _ _ _ _ _ _ _ _ _ _ _ _ c.as_chunks.ensures.front c.as_chunks.ensures.front_len c.min-records.ensures c.loop-record-test.true c.loop-record.invariant c.list_record-end.ensures

pub returns : goal.returns
returns c =
    all_listed _ _ _ _ _ _ _ _ _ c.as_chunks.ensures.front c.as_chunks.ensures.front_len c.min-records.ensures c.loop-record.auto.record-index-end c.loop-record-test.false c.loop-record.invariant
