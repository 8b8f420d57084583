-- `snapshot::put_front` meets its contract. Assumes nothing.
use Rattle.std.proofs.Common.{rules}
use Rattle.snapshot.proofs.WriteLaws.{front_put}
use Rattle.snapshot.proofs.put_front.Goals as goal

pub returns : goal.returns
returns c = search (rules, front_put)
