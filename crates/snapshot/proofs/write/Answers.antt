-- `snapshot::write` meets its contract. Assumes nothing.
use Rattle.snapshot.proofs.WriteLaws.{kept}
use Rattle.snapshot.proofs.write.Goals as goal

pub returns : goal.returns
returns c = kept _ _ _ c.if-lent-ne-SIZE.false c.put_all.ensures
