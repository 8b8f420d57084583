-- `snapshot::put_stages` meets its contract. Assumes nothing.
use Rattle.std.proofs.Common.{rules}
use Rattle.snapshot.proofs.WriteLaws.{stages_put}
use Rattle.snapshot.proofs.put_stages.Goals as goal

pub returns : goal.returns
returns c = search (rules, stages_put)
