-- Laws of decimal numbers, a turn of the loop that reads one. Assumes nothing.
use Prim.Native.Nat.{ℕ, ◌+◌, ◌-◌, ◌*◌, ◌^◌, ◌<◌, ◌≤◌}
use Rattle.std.specs.Int.{IsInRange, IsOutOfRange}
use Rattle.std.proofs.Common.{inl, inr}
use mathlib.Core.Path.{◌≡◌, refl, sym}
use mathlib.Core.Bool.{Bool, true, false, cond}
use mathlib.Core.List.{List, [], ◌∷◌}
use mathlib.Core.Option.{Option, none, some}
use native.Mathlib.Numerals.{add-one}
use native.Mathlib.Omega.{arith}
use borrow.Author.Tests.{lt-ltb, le-ltb, le-leb, lt-leb, ltb-false}
use lib.Dec.{ltb}
use lib.ListN.{length, drop, get_or, drop_of_length-le}
use lib.Seq.{drop-cons}
use Rattle.std.specs.Prelude.{Result, Ok, Err, OkIff}
use Rattle.std.specs.Result.{result_ok}
use Rattle.decimal.specs.Decimal.{is_digit, followed_by, decimal, below, told}

digit : (b : ℕ) → IsInRange 48 57 b → is_digit b ≡ true
digit b (low, high) = rw (le-leb 48 b low, le-leb b 57 high)

no_digit : (b : ℕ) → IsOutOfRange 48 57 b → is_digit b ≡ false
no_digit b (inl low) = rw (lt-leb 48 b low)
no_digit b (inr high) = rw (le-leb 48 b (omega arith), lt-leb b 57 high)

-- more digits make no number smaller
too_great : (limit n : ℕ) (s : List ℕ) → limit ≤ n → below limit (followed_by n s) ≡ none
unfolding followed_by below
too_great limit n [] h = rw (le-ltb n limit h)
too_great limit n (b ∷ s) h = go (is_digit b) (too_great limit (n * 10 + (b - 48)) s (omega arith))
  where
    go : (t : Bool) → below limit (followed_by (n * 10 + (b - 48)) s) ≡ none → below limit (cond t (followed_by (n * 10 + (b - 48)) s) none) ≡ none
    go true e = e
    go false e = refl

-- a text of no bytes is no number
pub none_empty : (limit : ℕ) (s : List ℕ) → length s ≡ 0 → none ≡ below limit (decimal s)
unfolding decimal below
none_empty limit [] h = refl
none_empty limit (b ∷ s) h = absurd (omega arith)

pub begins : (s : List ℕ) → (length s ≡ 0 → ⊥) → followed_by 0 s ≡ decimal s
unfolding decimal
begins [] h = absurd (h refl)
begins (b ∷ s) h = refl

-- ---- a turn of the loop: the number so far, and the digits from i on

module _ (limit : ℕ) (s : List ℕ) (n i : ℕ) (so_far : followed_by n (drop i s) ≡ decimal s) where
  from : i < length s → drop i s ≡ get_or s i 0 ∷ drop (i + 1) s
  from h = rw (add-one, drop-cons s i 0)

  pub stop : i < length s → IsOutOfRange 48 57 (get_or s i 0) → none ≡ below limit (decimal s)
  unfolding followed_by below
  stop h out = rw (← so_far, from h, no_digit (get_or s i 0) out)

  pub on : i < length s → IsInRange 48 57 (get_or s i 0) → followed_by (n * 10 + (get_or s i 0 - 48)) (drop (i + 1) s) ≡ decimal s
  unfolding followed_by
  on h within = rw (from h, digit (get_or s i 0) within) at so_far

  pub end : length s ≤ i → n < limit → some n ≡ below limit (decimal s)
  unfolding followed_by below
  end past fits = rw (← so_far, drop_of_length-le s past, lt-ltb n limit fits)

  -- the next number is too great
  pub stop_great : i < length s → IsInRange 48 57 (get_or s i 0) → limit ≤ n * 10 + (get_or s i 0 - 48) → none ≡ below limit (decimal s)
  stop_great h within great = rw (← on h within) (sym (too_great limit (n * 10 + (get_or s i 0 - 48)) (drop (i + 1) s) great))

-- ---- a smaller limit

narrower : (n : Option ℕ) → below 256 (below (2 ^ 64) n) ≡ below 256 n
unfolding below
narrower none = refl
narrower (some n) = go (ltb n (2 ^ 64)) refl
  where
    go : (t : Bool) → ltb n (2 ^ 64) ≡ t → below 256 (cond t (some n) none) ≡ below 256 (some n)
    go true e = refl
    go false e = let past : 2 ^ 64 ≤ n = ltb-false n (2 ^ 64) e in rw (le-ltb n 256 (omega arith))

pub byte_none : (x : Option ℕ) → none ≡ below (2 ^ 64) x → none ≡ below 256 x
unfolding below
byte_none x known = rw (← narrower x, ← known) refl

-- the cast to a byte, of a number that fits 64 bits
pub byte_some : {E : Type 0} (x : Option ℕ) (n : ℕ) (r : Result ℕ E) → some n ≡ below (2 ^ 64) x → OkIff r (n < 256) n → told (result_ok r) ≡ below 256 x
unfolding below
byte_some x n (Ok m) known (small, same) = rw (← narrower x, ← known, lt-ltb n 256 small, same) refl
byte_some x n (Err _) known great = rw (← narrower x, ← known, le-ltb n 256 (omega (arith, great))) refl

-- what each return of `number` and each turn of its loop cites
pub ruleset turns = (none_empty, begins, stop, stop_great, on, end)

-- what the returns of `byte` cite
pub ruleset bytes = (byte_none, byte_some)
