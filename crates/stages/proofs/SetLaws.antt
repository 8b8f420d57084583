-- Sets of member numbers as words: what the operations on words do to them. Assumes nothing.
use Prim.Native.Nat.{ℕ, zero, suc, ◌+◌, ◌-◌, ◌/◌, ◌%◌, ◌^◌, ◌<◌, ◌≤◌}
use mathlib.Core.Path.{◌≡◌, refl, sym, ap, ap₂, ◌∙◌}
use mathlib.Core.Bool.{Bool, true, false, not, cond, ◌&&◌, ◌||◌}
use native.Mathlib.Nat.{pow-suc, div-eq_of_lt, lt_of_lt_of_le, not-suc-le-zero}
use native.Mathlib.Omega.{arith}
use borrow.Author.Tests.{eqb-true, eqb-false, eq-eqb, ne_eqb, lt-ltb, le-ltb, ltb-true, ltb-false}
use lib.Bits.{bit_and, bit_or, and_shr, or_shr, and_mod, or_mod, or_lt}
use lib.Count.{ones, ones_step}
use lib.Dec.{eqb, ltb, eqb-zero-suc, eqb-suc-zero, eqb-suc-suc, leb-suc-suc}
use lib.Pow.{pow_pos, pow_mono, pow-lt, ones_lt, shr-shr}
use Rattle.stages.proofs.BelowLaws.{any_same, count_same, any_first, count_first}
use Rattle.stages.specs.Sets.{member_limit, is_in, with_member, numbers_below, any_below, count_below}

-- ---- a number in a set, digit by digit

digit : (n : ℕ) → n % 2 ≡ cond (eqb (n % 2) 1) 1 0
digit n = pick (eqb (n % 2) 1) refl
  where
    pick : (t : Bool) → eqb (n % 2) 1 ≡ t → n % 2 ≡ cond t 1 0
    pick true e = eqb-true (n % 2) 1 e
    pick false e = omega (arith, eqb-false)

digit_in : (t : Bool) → eqb (cond t 1 0) 1 ≡ t
digit_in true = refl
digit_in false = refl

in_zero : (w : ℕ) → is_in w 0 ≡ eqb (w % 2) 1
unfolding is_in
in_zero w = let all : w / 1 ≡ w = omega arith in rw all

in_suc : (w m : ℕ) → is_in w (suc m) ≡ is_in (w / 2) m
unfolding is_in
in_suc w m = let next : 1 + m ≡ suc m = omega arith in rw (← next, ← shr-shr w 1 m)

-- ---- none, one, the first ones, the others

pub in_none : (m : ℕ) → is_in 0 m ≡ false
in_none zero = in_zero 0
in_none (suc m) = in_suc 0 m ∙ in_none m

pub in_one : (m k : ℕ) → is_in (2 ^ m) k ≡ eqb m k
in_one zero zero = in_zero 1
in_one zero (suc k) = in_suc 1 k ∙ in_none k ∙ sym (eqb-zero-suc k)
in_one (suc m) zero =
    let even : 2 ^ suc m % 2 ≡ 0 = omega (arith, pow-suc 2 m) in
    in_zero (2 ^ suc m) ∙ rw (even, eqb-suc-zero)
in_one (suc m) (suc k) =
    let half : 2 ^ suc m / 2 ≡ 2 ^ m = omega (arith, pow-suc 2 m) in
    in_suc (2 ^ suc m) k ∙ rw half (in_one m k) ∙ sym (eqb-suc-suc m k)

pub in_first : (n k : ℕ) → is_in (2 ^ n - 1) k ≡ ltb k n
in_first zero k = in_none k ∙ sym (le-ltb k 0 (omega arith))
in_first (suc n) zero =
    let odd : (2 ^ suc n - 1) % 2 ≡ 1 = omega (arith, pow-suc 2 n, pow_pos n) in
    in_zero (2 ^ suc n - 1) ∙ rw odd (sym (lt-ltb 0 (suc n) (omega arith)))
in_first (suc n) (suc k) =
    let half : (2 ^ suc n - 1) / 2 ≡ 2 ^ n - 1 = omega (arith, pow-suc 2 n, pow_pos n) in
    in_suc (2 ^ suc n - 1) k ∙ rw (half, leb-suc-suc (suc k) n) (in_first n k)

other_digit : (v w : ℕ) → v % 2 + w % 2 ≡ 1 → eqb (v % 2) 1 ≡ not (eqb (w % 2) 1)
other_digit v w e = pick (eqb (w % 2) 1) refl
  where
    pick : (t : Bool) → eqb (w % 2) 1 ≡ t → eqb (v % 2) 1 ≡ not t
    pick true is = ne_eqb (v % 2) 1 (λ same. omega (arith, eqb-true))
    pick false is = eq-eqb (v % 2) 1 (omega (arith, eqb-false))

pub in_others : (n w m : ℕ) → w < 2 ^ n → m < n → is_in (2 ^ n - 1 - w) m ≡ not (is_in w m)
in_others zero w m fits h = absurd (not-suc-le-zero h)
in_others (suc n) w zero fits h =
    in_zero (2 ^ suc n - 1 - w) ∙ other_digit (2 ^ suc n - 1 - w) w (omega (arith, pow-suc 2 n)) ∙ ap not (sym (in_zero w))
in_others (suc n) w (suc m) fits h =
    let half : (2 ^ suc n - 1 - w) / 2 ≡ 2 ^ n - 1 - w / 2 = omega (arith, pow-suc 2 n) in
    in_suc (2 ^ suc n - 1 - w) m ∙ rw (half, in_suc w m) (in_others n (w / 2) m (omega (arith, pow-suc 2 n)) (omega arith))

-- a set of n numbers has none from n on
pub in_past : (n w m : ℕ) → w < 2 ^ n → n ≤ m → is_in w m ≡ false
unfolding is_in
in_past n w m fits h = rw (div-eq_of_lt (lt_of_lt_of_le fits (pow_mono h)))

-- ---- two sets

module _ (op : ℕ → ℕ → ℕ) (test : Bool → Bool → Bool)
    (high : (a b k : ℕ) → op a b / 2 ^ k ≡ op (a / 2 ^ k) (b / 2 ^ k)) (low : (a b k : ℕ) → op a b % 2 ^ k ≡ op (a % 2 ^ k) (b % 2 ^ k))
    (each : (s t : Bool) → op (cond s 1 0) (cond t 1 0) ≡ cond (test s t) 1 0) where
  in_op : (v w m : ℕ) → is_in (op v w) m ≡ test (is_in v m) (is_in w m)
  unfolding is_in
  in_op v w m =
      ap (λ (x : ℕ). eqb (x % 2) 1) (high v w m)
      ∙ ap (λ (x : ℕ). eqb x 1) (low (v / 2 ^ m) (w / 2 ^ m) 1 ∙ ap₂ op (digit (v / 2 ^ m)) (digit (w / 2 ^ m)) ∙ each (is_in v m) (is_in w m))
      ∙ digit_in (test (is_in v m) (is_in w m))

and_each : (s t : Bool) → bit_and (cond s 1 0) (cond t 1 0) ≡ cond (s && t) 1 0
and_each true true = refl
and_each true false = refl
and_each false t = refl

or_each : (s t : Bool) → bit_or (cond s 1 0) (cond t 1 0) ≡ cond (s || t) 1 0
or_each true true = refl
or_each true false = refl
or_each false t = refl

pub in_both : (v w m : ℕ) → is_in (bit_and v w) m ≡ (is_in v m && is_in w m)
in_both = in_op bit_and ◌&&◌ and_shr and_mod and_each

pub in_either : (v w m : ℕ) → is_in (bit_or v w) m ≡ (is_in v m || is_in w m)
in_either = in_op bit_or ◌||◌ or_shr or_mod or_each

-- ---- a set's numbers, asked of the word

any_step : (w : ℕ) → not (eqb w 0) ≡ (eqb (w % 2) 1 || not (eqb (w / 2) 0))
any_step w = pick (eqb (w % 2) 1) refl (eqb (w / 2) 0) refl
  where
    pick : (s : Bool) → eqb (w % 2) 1 ≡ s → (t : Bool) → eqb (w / 2) 0 ≡ t → not (eqb w 0) ≡ (s || not t)
    pick true p t q = rw (ne_eqb w 0 (λ e. omega (arith, eqb-true)))
    pick false p true q = rw (eq-eqb w 0 (omega (arith, eqb-true, eqb-false)))
    pick false p false q = rw (ne_eqb w 0 (λ e. omega (arith, eqb-false)))

-- half the word has the numbers but 0, each one lower
halved : (w n m : ℕ) → m < n → is_in (w / 2) m ≡ is_in w (suc m)
halved w n m h = sym (in_suc w m)

pub any_in : (n w : ℕ) → w < 2 ^ n → not (eqb w 0) ≡ any_below n (is_in w)
unfolding any_below
any_in zero w fits = let none : w ≡ 0 = omega arith in rw none
any_in (suc n) w fits =
    any_step w
    ∙ ap₂ ◌||◌ (sym (in_zero w)) (any_in n (w / 2) (omega (arith, pow-suc 2 n)) ∙ any_same n (is_in (w / 2)) (λ m. is_in w (suc m)) (halved w n))
    ∙ sym (any_first n (is_in w))

pub ones_in : (n w : ℕ) → w < 2 ^ n → ones w ≡ count_below n (is_in w)
unfolding ones count_below
ones_in zero w fits = let none : w ≡ 0 = omega arith in rw none
ones_in (suc n) w fits =
    ones_step w
    ∙ ap₂ ◌+◌ (digit w ∙ ap (λ (t : Bool). cond t 1 0) (sym (in_zero w)))
    (ones_in n (w / 2) (omega (arith, pow-suc 2 n)) ∙ count_same n (is_in (w / 2)) (λ m. is_in w (suc m)) (halved w n))
    ∙ sym (count_first n (is_in w))

-- ---- a member more, and the first n, as many as there can be

pub in_with : (w m k : ℕ) → m < member_limit → is_in (with_member w m) k ≡ (is_in w k || eqb m k)
unfolding with_member
in_with w m k below = rw (lt-ltb m member_limit below) (in_either w (2 ^ m) k ∙ ap (λ (t : Bool). is_in w k || t) (in_one m k))

pub in_below : (n k : ℕ) → n ≤ member_limit → is_in (numbers_below n) k ≡ ltb k n
unfolding numbers_below
in_below n k most = pick (ltb n member_limit) refl
  where
    pick : (t : Bool) → ltb n member_limit ≡ t → is_in (cond t (2 ^ n - 1) (2 ^ member_limit - 1)) k ≡ ltb k n
    pick true e = in_first n k
    pick false e = let all : n ≡ member_limit = omega (arith, ltb-false) in rw all (in_first member_limit k)

-- both have no more bits than there are members
pub with_fits : (w m : ℕ) → w < 2 ^ member_limit → with_member w m < 2 ^ member_limit
unfolding with_member
with_fits w m fits = pick (ltb m member_limit) refl
  where
    pick : (t : Bool) → ltb m member_limit ≡ t → cond t (bit_or w (2 ^ m)) w < 2 ^ member_limit
    pick true e = or_lt member_limit w (2 ^ m) fits (pow-lt (ltb-true m member_limit e))
    pick false e = fits

pub below_fits : (n : ℕ) → numbers_below n < 2 ^ member_limit
unfolding numbers_below
below_fits n = pick (ltb n member_limit) refl
  where
    pick : (t : Bool) → ltb n member_limit ≡ t → cond t (2 ^ n - 1) (2 ^ member_limit - 1) < 2 ^ member_limit
    pick true e = let below : 2 ^ n < 2 ^ member_limit = pow-lt (ltb-true n member_limit e) in omega arith
    pick false e = ones_lt member_limit
