-- `octets::runs::put` meets its contract. A part of the buffer is copied over, if it is there. Assumes nothing.
use Rattle.octets.proofs.RunLaws.{written_not, written_whole}
use Rattle.std.proofs.lemmas.Slice.{put_mid-paste}
use lib.ListN.{length}
use mathlib.Core.Path.{refl, ◌∙◌}
use native.Mathlib.Omega.{arith}
use Rattle.octets.proofs.runs.put.Goals as goal
use Rattle.octets.proofs.runs.put.Goals.{then-buffer-at-via-then-buffer-at, then-buffer-at-via-else-buffer-at+then-buffer-at-2}

pub returns-then-buffer-at : goal.returns-then-buffer-at
returns-then-buffer-at c =
    let a = c.args in
    written_not a.buffer.now a.at a.run.now
    (elim c.then-buffer-at.branch [
      | then-buffer-at-via-then-buffer-at w ↦ omega arith
      | then-buffer-at-via-else-buffer-at+then-buffer-at-2 w ↦ omega arith
    ])

pub returns : goal.returns
returns c =
    let a = c.args in
    let whole = written_whole a.buffer.now a.at a.run.now (omega arith) in
    (whole.0, put_mid-paste a.at _ a.buffer.now _ a.run.now (length a.run.now) c.copy_from_slice.ensures.after (omega arith) refl ∙ whole.1)
