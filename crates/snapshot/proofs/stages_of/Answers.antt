-- `snapshot::stages_of` meets its contract. Each number is that of a part. Assumes nothing.
use Rattle.octets.proofs.ReadLaws.{word_is}
use Rattle.snapshot.specs.Snapshot.{stages_of}
use Rattle.snapshot.proofs.stages_of.Goals as goal

pub returns : goal.returns
unfolding stages_of
returns c =
    let s = c.args.s.now in
    rw (
      word_is 4 s 4 _ _ c.bytes_at.ensures c.le32.ensures,
      word_is 4 s 8 _ _ c.bytes_at-2.ensures c.le32-2.ensures,
      word_is 4 s 12 _ _ c.bytes_at-3.ensures c.le32-3.ensures,
      word_is 4 s 16 _ _ c.bytes_at-4.ensures c.le32-4.ensures,
    )
