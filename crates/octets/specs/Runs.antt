-- Runs of bytes: a part read, whether two are equal, and one written at a place of a buffer. No paper: these are this project's own words for what the rules
-- of document 01 compare and write. Assumes nothing.
use Rattle.std.specs.Prelude.{ℕ, zero, suc, ◌+◌, ◌≡◌, Bool, true, false, cond, ◌&&◌, List, [], ◌∷◌, ◌++◌, eqb, leb, length, take, drop, get_or, Option, Some, None}
use Rattle.octets.specs.Numbers.{be16_at}

-- so many bytes from a place on. A byte past the end counts as 0
unfoldable pub bytes_at : ℕ → List ℕ → ℕ → List ℕ
bytes_at zero s at = []
bytes_at (suc n) s at = get_or s at 0 ∷ bytes_at n s (suc at)

-- where the part ends that stands behind the two bytes of its length, from a place on, if the run has all of it
unfoldable pub part_end : List ℕ → ℕ → Option ℕ
part_end s at =
    let end = at + 2 + be16_at s at in
    cond (leb end (length s)) (Some end) None

-- whether two runs have the same bytes, and as many
unfoldable pub same_run : List ℕ → List ℕ → Bool
same_run [] [] = true
same_run [] (y ∷ ys) = false
same_run (x ∷ xs) [] = false
same_run (x ∷ xs) (y ∷ ys) = eqb x y && same_run xs ys

-- whether a run, from a place on, lies within a buffer
unfoldable pub fits : List ℕ → ℕ → List ℕ → Bool
fits buffer at run = leb (at + length run) (length buffer)

-- the buffer with a run in it from a place on, and every other byte as it was; the whole as it was if the run does not fit
unfoldable pub written : List ℕ → ℕ → List ℕ → List ℕ
written buffer at run = cond (fits buffer at run) (take at buffer ++ run ++ drop (at + length run) buffer) buffer

-- these bytes stand from `at` up to `end`
pub record Stands (s : List ℕ) (at end : ℕ) (part : List ℕ) : Type 0 where
  pub here : drop at s ≡ part ++ drop end s
  pub ends : end ≡ at + length part

-- bytes of which P holds do
pub record Standing (P : List ℕ → Type 0) (s : List ℕ) (at end : ℕ) : Type 0 where
  pub part : List ℕ
  pub stands : Stands s at end part
  pub holds : P part
