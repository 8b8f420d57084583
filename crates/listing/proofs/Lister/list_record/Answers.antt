-- `listing::Lister::list_record` meets its contract. Assumes nothing.
use Rattle.std.proofs.Common.{rules}
use Rattle.listing.proofs.ListLaws.{put_is}
use Rattle.listing.proofs.Lister.list_record.Goals as goal

pub returns : goal.returns
returns c = search (rules, put_is)
