-- Where a name ends: RFC 1035, sections 3.1 and 4.1.4, and document 01, "Reading a request". A message is a list of bytes, read by places from 0 on; a byte
-- past the end reads as 0. Assumes nothing.
use Rattle.std.specs.Prelude.{ℕ, zero, suc, ◌+◌, Bool, cond, ◌&&◌, List, eqb, leb, length, get_or}
use Rattle.std.proofs.Math.Option.{Option, none, some}

-- a part of the message may end here: not past its end
abbrev pub within : List ℕ → ℕ → Option ℕ
within s end = cond (leb end (length s)) (some end) none

-- a label starts here: a length byte of 1 to 63
abbrev pub is_label : List ℕ → ℕ → Bool
is_label s at = leb 1 (get_or s at 0) && leb (get_or s at 0) 63

-- behind the labels that start here. Each has two bytes or more, so that as many turns as the message has bytes are enough
unfoldable pub past_labels : ℕ → List ℕ → ℕ → ℕ
past_labels zero s at = at
past_labels (suc turns) s at = cond (is_label s at) (past_labels turns s (at + 1 + get_or s at 0)) at

-- with turns enough
unfoldable pub labels_end : List ℕ → ℕ → ℕ
labels_end s at = past_labels (length s) s at

-- what ends a name: a zero byte, or a pointer, 192 to 255 and one more byte, which is not followed. 64 to 191 is malformed
unfoldable pub terminator : List ℕ → ℕ → Option ℕ
terminator s at = cond (eqb (get_or s at 0) 0) (within s (at + 1)) (cond (leb 192 (get_or s at 0)) (within s (at + 2)) none)

-- where the name that starts here ends; none if it is malformed or runs past the end
unfoldable pub name_end : List ℕ → ℕ → Option ℕ
name_end s at = terminator s (labels_end s at)
