-- What `any_below` and `count_below` say of a test: of each number, and of two tests that agree. Assumes nothing.
use Prim.Native.Nat.{ℕ, zero, suc, ◌+◌, ◌<◌, ◌≤◌}
use mathlib.Core.Path.{◌≡◌, refl, sym, ap, ap₂, ◌∙◌}
use mathlib.Core.Bool.{Bool, true, false, cond, ◌||◌, or-true}
use native.Mathlib.Nat.{not-suc-le-zero}
use native.Mathlib.Omega.{arith}
use borrow.Author.Tests.{eqb-true, eqb-false}
use lib.Dec.{eqb}
use Rattle.stages.specs.Sets.{any_below, count_below}

-- ---- of each number

pub any_some : (n : ℕ) (test : ℕ → Bool) (m : ℕ) → m < n → test m ≡ true → any_below n test ≡ true
unfolding any_below
any_some zero test m h is = absurd (not-suc-le-zero h)
any_some (suc n) test m h is = pick (any_some n test m) (eqb m n) refl
  where
    pick : (m < n → test m ≡ true → any_below n test ≡ true) → (t : Bool) → eqb m n ≡ t → (test n || any_below n test) ≡ true
    pick rest true e = let last : m ≡ n = eqb-true m n e in rw (← last, is)
    pick rest false e = rw (rest (omega (arith, eqb-false)) is) (or-true (test n))

pub any_none : (n : ℕ) (test : ℕ → Bool) → any_below n test ≡ false → (m : ℕ) → m < n → test m ≡ false
any_none n test none m h = pick (test m) refl
  where
    pick : (t : Bool) → test m ≡ t → t ≡ false
    pick true is = sym (any_some n test m h is) ∙ none
    pick false is = refl

pub none_any : (n : ℕ) (test : ℕ → Bool) → ((m : ℕ) → m < n → test m ≡ false) → any_below n test ≡ false
unfolding any_below
none_any zero test none = refl
none_any (suc n) test none = rw (none n (omega arith)) (none_any n test (λ m h. none m (omega arith)))

-- ---- tests that agree

pub any_same : (n : ℕ) (one other : ℕ → Bool) → ((m : ℕ) → m < n → one m ≡ other m) → any_below n one ≡ any_below n other
unfolding any_below
any_same zero one other same = refl
any_same (suc n) one other same = ap₂ ◌||◌ (same n (omega arith)) (any_same n one other (λ m h. same m (omega arith)))

pub count_same : (n : ℕ) (one other : ℕ → Bool) → ((m : ℕ) → m < n → one m ≡ other m) → count_below n one ≡ count_below n other
unfolding count_below
count_same zero one other same = refl
count_same (suc n) one other same =
    ap₂ (λ (t : Bool) (k : ℕ). cond t 1 0 + k) (same n (omega arith)) (count_same n one other (λ m h. same m (omega arith)))

-- ---- the number 0 apart from the others

or_swap : (a b c : Bool) → (a || (b || c)) ≡ (b || (a || c))
or_swap true b c = sym (or-true b)
or_swap false b c = refl

pub any_first : (n : ℕ) (test : ℕ → Bool) → any_below (suc n) test ≡ (test 0 || any_below n (λ m. test (suc m)))
unfolding any_below
any_first zero test = refl
any_first (suc n) test = ap (λ (t : Bool). test (suc n) || t) (any_first n test) ∙ or_swap (test (suc n)) (test 0) (any_below n (λ m. test (suc m)))

pub count_first : (n : ℕ) (test : ℕ → Bool) → count_below (suc n) test ≡ cond (test 0) 1 0 + count_below n (λ m. test (suc m))
unfolding count_below
count_first zero test = refl
count_first (suc n) test = ap (λ (k : ℕ). cond (test (suc n)) 1 0 + k) (count_first n test) ∙ omega arith

-- no more than there are
pub count_most : (n : ℕ) (test : ℕ → Bool) → count_below n test ≤ n
unfolding count_below
count_most zero test = omega arith
count_most (suc n) test = go (count_most n test) (test n)
  where
    go : count_below n test ≤ n → (b : Bool) → cond b 1 0 + count_below n test ≤ suc n
    go ih true = omega arith
    go ih false = omega arith
