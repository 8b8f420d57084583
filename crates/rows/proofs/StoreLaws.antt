-- Bytes stored one by one are a run written. Assumes nothing.
use mathlib.Core.Path.{◌≡◌, sym, ap, ◌∙◌}
use mathlib.Core.List.{List, [], ◌∷◌, ◌++◌}
use Prim.Native.Nat.{ℕ, suc, ◌+◌, ◌≤◌, ◌<◌}
use native.Mathlib.Omega.{arith}
use borrow.Author.Tests.{le-leb}
use lib.ListN.{length, take, drop, set, length-append, length-drop}
use lib.Seq.{sets, sets-eq, append_snoc, set-append_left, take-set-lt, take-suc-set, length-take-le}
use Rattle.octets.specs.Runs.{fits, written}
use Rattle.octets.proofs.RunLaws.{length_written, written_next, written_whole}
use Rattle.std.proofs.lemmas.Slice.{put_mid-paste}
use borrow.Rule.Slice.PartMut.{put_mid}
use lib.Seq.{paste}
use Rattle.rows.specs.Steps.{Put}

module _ (buffer : List ℕ) (at : ℕ) where
  -- a run that fits, written out
  whole : (run : List ℕ) → at + length run ≤ length buffer → take at buffer ++ run ++ drop (at + length run) buffer ≡ written buffer at run
  unfolding fits written
  whole run within = rw (le-leb (at + length run) (length buffer) within)

  -- from the first byte on
  pub stored : (run : List ℕ) → at + length run ≤ length buffer → sets buffer at run ≡ written buffer at run
  stored run within = sets-eq run buffer at within ∙ whole run within

-- a byte behind a run
pub byte_behind : (buffer : List ℕ) (at : ℕ) (run : List ℕ) (b : ℕ) → at + length run < length buffer
    → set (written buffer at run) (at + length run) b ≡ written buffer at (run ++ (b ∷ []))
byte_behind buffer at run b within =
    stored (written buffer at run) (at + length run) (b ∷ []) (omega (arith, length_written buffer at run)) ∙ written_next buffer at run (b ∷ []) (omega arith)

-- a byte in front of a run
pub byte_before : (buffer : List ℕ) (at : ℕ) (run : List ℕ) (b : ℕ) → suc at + length run ≤ length buffer
    → set (written buffer (suc at) run) at b ≡ written buffer at (b ∷ run)
byte_before buffer at run b within =
    let rest = drop (suc at + length run) buffer in
    let front = take (suc at) buffer in
    let long : length front ≡ suc at = length-take-le (suc at) buffer (omega arith) in
    let here : at < length front = omega arith in
    let there : at < length (front ++ run) = omega (arith, length-append front run) in
    let first : set front at b ≡ take at buffer ++ (b ∷ []) = sym (take-set-lt (suc at) buffer at b (omega arith)) ∙ take-suc-set buffer at b (omega arith) in
    let end : suc at + length run ≡ at + length (b ∷ run) = omega arith in
    sym (ap (λ (l : List ℕ). set l at b) (whole buffer (suc at) run within))
    ∙ set-append_left (front ++ run) rest at b there
    ∙ ap (λ (l : List ℕ). l ++ rest) (set-append_left front run at b here ∙ ap (λ (l : List ℕ). l ++ run) first ∙ append_snoc (take at buffer) b run)
    ∙ ap (λ (k : ℕ). take at buffer ++ (b ∷ run) ++ drop k buffer) end
    ∙ whole buffer at (b ∷ run) (omega arith)

-- bytes copied over a part
pub copied : (n at k : ℕ) (buffer run new : List ℕ) → k ≡ n → at + n ≤ length buffer → length new ≡ length (take k (drop at buffer)) → new ≡ run
    → (end : ℕ) → end ≡ at + n → Put n buffer at run end (put_mid at k buffer new)
copied n at k buffer run new is within long e end end_is =
    let all : n ≡ length run =
    sym (ap length (sym e) ∙ long ∙ ap (λ (m : ℕ). length (take m (drop at buffer))) is ∙ length-take-le n (drop at buffer) (omega (arith, length-drop at buffer))) in
    record {
      ends = omega arith;
      within = omega arith;
      holds = put_mid-paste at k buffer new run n e (sym is) all ∙ ap (paste buffer at run) all ∙ (written_whole buffer at run (omega arith)).1;
    }
