-- A number read byte by byte from a place of a run is the number of the part there. Stated once over the count of bytes. Assumes nothing.
use mathlib.Core.Path.{◌≡◌, refl, sym, ap, ap₂, ◌∙◌}
use mathlib.Core.List.{List, [], ◌∷◌}
use Rattle.std.specs.Prelude.{Option, Some, None}
use borrow.Author.Tests.{le-leb, lt-leb, leb-true, leb-false}
use lib.Dec.{leb}
use mathlib.Core.Bool.{Bool, true, false, cond}
use Prim.Native.Nat.{ℕ, zero, suc, ◌+◌, ◌-◌, ◌*◌, ◌^◌, ◌≤◌, ◌<◌}
use native.Mathlib.Nat.{add-suc, add-zero}
use native.Mathlib.Decide.{dec_lt}
use native.Mathlib.Numerals.{towards_suc}
use native.Mathlib.Omega.{arith}
use lib.ListN.{length, take, drop, get_or, replicate, length-take, length-drop, length-replicate, drop_of_length-le, get_or-eq_default}
use lib.Seq.{drop-cons, take_all, length-take-le, get_or-take, get_or-drop}
use Rattle.std.proofs.lemmas.List.{get_or-replicate}
use Rattle.octets.proofs.NumberLaws.{le_again}
use Rattle.octets.specs.Runs.{bytes_at, part_end}
use Rattle.octets.specs.Numbers.{le_number, le_bytes, be_number, be16_at, be32_at, be64_at}

-- ---- the bytes from a place on, with zeros past the end

each_is : (n : ℕ) (xs s : List ℕ) (at : ℕ) → length xs ≡ n → ((k : ℕ) → k < n → get_or xs k 0 ≡ get_or s (at + k) 0) → xs ≡ bytes_at n s at
unfolding bytes_at
each_is zero [] s at long each = refl
each_is zero (x ∷ xs) s at long each = absurd (omega arith)
each_is (suc n) [] s at long each = absurd (omega arith)
each_is (suc n) (x ∷ xs) s at long each =
    ap₂ (λ (b : ℕ) (bs : List ℕ). b ∷ bs)
    (each 0 (omega arith) ∙ ap (λ (i : ℕ). get_or s i 0) (add-zero at))
    (each_is n xs s (suc at) (omega arith) (λ k below. each (suc k) (omega arith) ∙ ap (λ (i : ℕ). get_or s i 0) (omega arith)))

-- the whole run ends before the place
pub bytes_none : (n : ℕ) (s : List ℕ) (at : ℕ) → length s < at → replicate n 0 ≡ bytes_at n s at
bytes_none n s at past =
    each_is n (replicate n 0) s at (length-replicate n 0)
    (λ k below. get_or-replicate n k 0 0 below ∙ sym (get_or-eq_default s 0 (omega arith)))

-- the rest of the run from there on
module _ (n : ℕ) (s : List ℕ) (at : ℕ) (rest : List ℕ) (is : rest ≡ drop at s) where
  rest_at : (k : ℕ) → get_or rest k 0 ≡ get_or s (at + k) 0
  rest_at k = ap (λ (l : List ℕ). get_or l k 0) is ∙ get_or-drop at s k 0

  pub bytes_first : (bytes : List ℕ) → n ≤ length rest → bytes ≡ take n rest → bytes ≡ bytes_at n s at
  bytes_first bytes enough same =
      same
      ∙ each_is n (take n rest) s at (length-take-le n rest enough)
      (λ k below. get_or-take n rest k 0 below ∙ rest_at k)

  pub bytes_each : (bytes : List ℕ) → length bytes ≡ n → ((k : ℕ) → k < n → get_or bytes k 0 ≡ get_or rest k 0) → bytes ≡ bytes_at n s at
  bytes_each bytes long each = each_is n bytes s at long (λ k below. each k below ∙ rest_at k)

-- what the library calls the rest is it
pub rest_is : (s rest : List ℕ) (at : ℕ) → rest ≡ take (length s - at) (drop at s) → rest ≡ drop at s
rest_is s rest at is = is ∙ take_all (length s - at) (drop at s) (omega (arith, length-drop at s))

-- within the run they are a part of it
pub bytes_there : (n : ℕ) (s : List ℕ) (at : ℕ) → at + n ≤ length s → bytes_at n s at ≡ take n (drop at s)
bytes_there n s at within = sym (bytes_first n s at (drop at s) refl (take n (drop at s)) (omega (arith, length-drop at s)) refl)

-- ---- their number

-- those past the end add nothing
past_none : (n : ℕ) (s : List ℕ) (at : ℕ) → length s ≤ at → le_number (bytes_at n s at) ≡ 0
unfolding bytes_at le_number
past_none zero s at past = refl
past_none (suc n) s at past = ap₂ (λ (b k : ℕ). b + 256 * k) (get_or-eq_default s 0 past) (past_none n s (suc at) (omega arith))

pub le_part : (n : ℕ) (s : List ℕ) (at : ℕ) → le_number (bytes_at n s at) ≡ le_number (take n (drop at s))
unfolding bytes_at le_number
le_part zero s at = refl
le_part (suc n) s at = go (dec_lt at (length s)) (le_part n s (suc at))
  where
    go : Dec (at < length s) → le_number (bytes_at n s (suc at)) ≡ le_number (take n (drop (suc at) s)) → get_or s at 0 + 256 * le_number (bytes_at n s (suc at)) ≡ le_number (take (suc n) (drop at s))
    go (yes here) rest = ap (λ (k : ℕ). get_or s at 0 + 256 * k) rest ∙ ap (λ (l : List ℕ). le_number (take (suc n) l)) (sym (drop-cons s at 0 here))
    go (no there) rest =
        let past : length s ≤ at = omega arith in
        past_none (suc n) s at past ∙ ap (λ (l : List ℕ). le_number (take (suc n) l)) (sym (drop_of_length-le s past))

-- what is read of them, little-endian
pub word_is : (n : ℕ) (s : List ℕ) (at : ℕ) (bytes : List ℕ) (x : ℕ) → bytes ≡ bytes_at n s at → x ≡ le_number bytes → x ≡ le_number (take n (drop at s))
word_is n s at bytes x are is = is ∙ ap le_number are ∙ le_part n s at

-- and big-endian
pub be16_part : (s : List ℕ) (at : ℕ) → be_number (bytes_at 2 s at) ≡ be16_at s at
unfolding bytes_at
be16_part s at = simp towards_suc

pub be32_part : (s : List ℕ) (at : ℕ) → be_number (bytes_at 4 s at) ≡ be32_at s at
unfolding bytes_at
be32_part s at = simp towards_suc

pub be64_part : (s : List ℕ) (at : ℕ) → be_number (bytes_at 8 s at) ≡ be64_at s at
unfolding bytes_at
be64_part s at = simp towards_suc

-- ---- the same read one by one

-- the k bytes of s from at + j on, with zeros past its end
abbrev pub bytes_from : ℕ → ℕ → ℕ → List ℕ → List ℕ
bytes_from zero j at s = []
bytes_from (suc k) j at s = get_or s (at + j) 0 ∷ bytes_from k (suc j) at s

-- within s these bytes are a part of it
pub part_from : (k j at : ℕ) (s : List ℕ) → at + j + k ≤ length s → bytes_from k j at s ≡ take k (drop (at + j) s)
part_from zero j at s within = refl
part_from (suc k) j at s within =
    let here : at + j < length s = omega arith in
    let rest : bytes_from k (suc j) at s ≡ take k (drop (at + suc j) s) = part_from k (suc j) at s (omega (arith, add-suc at j)) in
    ap (λ (l : List ℕ). get_or s (at + j) 0 ∷ l) (rest ∙ ap (λ (i : ℕ). take k (drop i s)) (add-suc at j))
    ∙ ap (take (suc k)) (sym (drop-cons s (at + j) 0 here))

past_end : (k j at : ℕ) (s : List ℕ) → length s ≤ at + j → le_number (bytes_from k j at s) ≡ 0
unfolding le_number
past_end zero j at s past = refl
past_end (suc k) j at s past =
    ap₂ (λ (b n : ℕ). b + 256 * n) (get_or-eq_default s 0 past) (past_end k (suc j) at s (omega (arith, add-suc at j)))

-- little-endian, the zeros past the end add nothing
pub le_from : (k j at : ℕ) (s : List ℕ) → le_number (bytes_from k j at s) ≡ le_number (take k (drop (at + j) s))
unfolding le_number
le_from zero j at s = refl
le_from (suc k) j at s = go (dec_lt (at + j) (length s)) (le_from k (suc j) at s)
  where
    go : Dec (at + j < length s) → le_number (bytes_from k (suc j) at s) ≡ le_number (take k (drop (at + suc j) s)) → le_number (bytes_from (suc k) j at s) ≡ le_number (take (suc k) (drop (at + j) s))
    go (yes here) rest =
        ap (λ (n : ℕ). get_or s (at + j) 0 + 256 * n) (rest ∙ ap (λ (i : ℕ). le_number (take k (drop i s))) (add-suc at j))
        ∙ ap (λ (l : List ℕ). le_number (take (suc k) l)) (sym (drop-cons s (at + j) 0 here))
    go (no there) rest =
        let past : length s ≤ at + j = omega arith in
        past_end (suc k) j at s past
        ∙ ap (λ (l : List ℕ). le_number (take (suc k) l)) (sym (drop_of_length-le s past))

-- a word of the eight bytes from a place on
pub le64_at : (at : ℕ) (s : List ℕ) (word : ℕ)
    → word ≡ le_number (get_or s at 0 ∷ get_or s (at + 1) 0 ∷ get_or s (at + 2) 0 ∷ get_or s (at + 3) 0 ∷ get_or s (at + 4) 0 ∷ get_or s (at + 5) 0 ∷ get_or s (at + 6) 0 ∷ get_or s (at + 7) 0 ∷ [])
    → word ≡ le_number (take 8 (drop at s))
le64_at at s word read = read ∙ rw add-zero at (le_from 8 0 at s)

-- big-endian, within the run
be_from : (k at : ℕ) (s : List ℕ) → at + k ≤ length s → be_number (bytes_from k 0 at s) ≡ be_number (take k (drop at s))
be_from k at s within = ap be_number (part_from k 0 at s (omega arith)) ∙ ap (λ (i : ℕ). be_number (take k (drop i s))) (add-zero at)

pub be16_at_lem : (at : ℕ) (s : List ℕ) → at + 2 ≤ length s → be16_at s at ≡ be_number (take 2 (drop at s))
be16_at_lem at s within = rw (add-zero at) at (be_from 2 at s within)

pub be32_at_lem : (at : ℕ) (s : List ℕ) → at + 4 ≤ length s → be32_at s at ≡ be_number (take 4 (drop at s))
be32_at_lem at s within = rw (add-zero at) at (be_from 4 at s within)

pub be64_at_lem : (at : ℕ) (s : List ℕ) → at + 8 ≤ length s → be64_at s at ≡ be_number (take 8 (drop at s))
be64_at_lem at s within = rw (add-zero at) at (be_from 8 at s within)

-- a part of a run of bytes is written back from its number
part_bytes : (k at : ℕ) (s : List ℕ) → ((i : ℕ) → get_or s i 0 < 256) → (i : ℕ) → get_or (take k (drop at s)) i 0 < 256
part_bytes k at s bytes i =
    elim (dec_lt i k) [
      | yes within ↦ rw (get_or-take k (drop at s) i 0 within, get_or-drop) (bytes (at + i))
      | no past ↦
          let short : length (take k (drop at s)) ≤ i = omega (arith, length-take k (drop at s)) in
          rw (get_or-eq_default (take k (drop at s)) 0 short) (omega arith)
    ]

pub part_again : (k at : ℕ) (s : List ℕ) → at + k ≤ length s → ((i : ℕ) → get_or s i 0 < 256)
    → le_bytes k (le_number (take k (drop at s))) ≡ take k (drop at s)
part_again k at s within bytes =
    let part = take k (drop at s) in
    let long : length part ≡ k = length-take-le k (drop at s) (omega (arith, length-drop at s)) in
    ap (λ (n : ℕ). le_bytes n (le_number part)) (sym long) ∙ le_again part (part_bytes k at s bytes)

-- ---- the number of eight bytes has 64 bits

module _ (s : List ℕ) (bytes : (i : ℕ) → get_or s i 0 < 256) (at : ℕ) where
  pub be64_fits : be64_at s at < 2 ^ 64
  unfolding be_number
  be64_fits = omega (arith, bytes at, bytes (at + 1), bytes (at + 2), bytes (at + 3), bytes (at + 4), bytes (at + 5), bytes (at + 6), bytes (at + 7))

  le64_from : le_number (bytes_from 8 0 at s) < 2 ^ 64
  unfolding le_number
  le64_from =
      omega (arith, bytes (at + 0), bytes (at + 1), bytes (at + 2), bytes (at + 3), bytes (at + 4), bytes (at + 5), bytes (at + 6), bytes (at + 7))

  pub le64_fits : le_number (take 8 (drop at s)) < 2 ^ 64
  le64_fits = rw (le_from 8 0 at s, add-zero at) at le64_from

-- ---- a place and the number of two bytes, added one by one

pub behind_16 : (s : List ℕ) (place at next : ℕ) → next ≡ at + 1 → place + get_or s next 0 + get_or s at 0 * 256 ≡ place + be16_at s at
unfolding be_number
behind_16 s place at next e = rw e (omega arith)

-- ---- where a part ends

-- the two bytes of its length, added to the place behind them
module _ (s : List ℕ) (at place start : ℕ) (is : place ≡ at) (behind : start ≡ at + 2) where
  end_is : start + get_or s place 0 * 256 + get_or s (place + 1) 0 ≡ at + 2 + be16_at s at
  end_is = rw (is, behind) (omega (arith, behind_16 s (at + 2) at (at + 1) refl))

  pub part_past : length s < start + get_or s place 0 * 256 + get_or s (place + 1) 0 → None ≡ part_end s at
  unfolding part_end
  part_past past = rw (lt-leb (at + 2 + be16_at s at) (length s) (omega (arith, end_is))) refl

  pub part_inside : start + get_or s place 0 * 256 + get_or s (place + 1) 0 ≤ length s
      → Some (start + get_or s place 0 * 256 + get_or s (place + 1) 0) ≡ part_end s at
  unfolding part_end
  part_inside inside = rw (le-leb (at + 2 + be16_at s at) (length s) (omega (arith, end_is))) (ap Some end_is)

-- what the answer tells
module _ (s : List ℕ) (at : ℕ) where
  pub part_told : (end : ℕ) → Some end ≡ part_end s at → (end ≡ at + 2 + be16_at s at) × (end ≤ length s)
  unfolding part_end
  part_told end is = go (leb (at + 2 + be16_at s at) (length s)) refl is
    where
      go : (b : Bool) → leb (at + 2 + be16_at s at) (length s) ≡ b → Some end ≡ cond b (Some (at + 2 + be16_at s at)) None
          → (end ≡ at + 2 + be16_at s at) × (end ≤ length s)
      go true e h = let same : end ≡ at + 2 + be16_at s at = cc in (same, omega (arith, same, leb-true _ _ e))
      go false e h = cc

  pub part_begins : (end : ℕ) → Some end ≡ part_end s at → at + 2 ≤ length s
  part_begins end is = let told = part_told end is in omega (arith, told.0, told.1)

  pub part_lacks : None ≡ part_end s at → length s < at + 2 + be16_at s at
  unfolding part_end
  part_lacks is = go (leb (at + 2 + be16_at s at) (length s)) refl is
    where
      go : (b : Bool) → leb (at + 2 + be16_at s at) (length s) ≡ b → ◌≡◌ {A = Option ℕ} None (cond b (Some (at + 2 + be16_at s at)) None)
          → length s < at + 2 + be16_at s at
      go true e h = cc
      go false e h = leb-false _ _ e
