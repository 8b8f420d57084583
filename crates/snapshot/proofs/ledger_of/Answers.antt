-- `snapshot::ledger_of` meets its contract. Each secret and each number is that of a part. Assumes nothing.
use Rattle.secret.proofs.SecretLaws.{secret_part}
use Rattle.snapshot.specs.Snapshot.{ledger_of}
use Rattle.snapshot.proofs.ledger_of.Goals as goal

pub returns : goal.returns
unfolding ledger_of
returns c =
    let s = c.args.s.now in
    rw (
      secret_part 36 s _ _ c.bytes_at.ensures c.read.ensures,
      secret_part 52 s _ _ c.bytes_at-2.ensures c.read-2.ensures,
      c.stages_of.ensures,
      c.word_at.ensures,
      c.word_at-2.ensures,
    )
