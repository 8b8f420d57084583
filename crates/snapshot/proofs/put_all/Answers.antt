-- `snapshot::put_all` meets its contract. Assumes nothing.
use Rattle.std.proofs.Common.{rules}
use Rattle.snapshot.proofs.WriteLaws.{snapshot_put}
use Rattle.snapshot.proofs.put_all.Goals as goal

pub returns : goal.returns
returns c = search (rules, snapshot_put)
