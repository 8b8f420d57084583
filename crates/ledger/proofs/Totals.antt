-- How far all members together are: the sum of their stages, beside three for each member. Assumes nothing.
use Prim.Native.Nat.{ℕ, zero, suc, ◌+◌, ◌*◌, ◌≤◌, ◌<◌, min}
use mathlib.Core.Path.{◌≡◌, refl, sym, ◌∙◌}
use mathlib.Core.Bool.{Bool, true, false, not, cond, ◌&&◌, ◌||◌, false≢true}
use native.Mathlib.Omega.{arith}
use native.Mathlib.Nat.{not-suc-le-zero}
use lib.Dec.{eqb, ltb}
use borrow.Author.Tests.{ltb-true, ltb-false, lt-ltb, le-ltb, eqb-true, eqb-false, ne_eqb, not-true, not-false}
use Rattle.stages.specs.Sets.{any_below, count_below}
use Rattle.octets.proofs.RefusalLaws.{or_l, or_r}
use Rattle.ledger.proofs.Move.{put}

-- the sum of the stages of the members below n
unfoldable pub total : ℕ → (ℕ → Bool) → (ℕ → ℕ) → ℕ
total zero present stage = 0
total (suc n) present stage = cond (present n) (stage n) 0 + total n present stage

nothing : (c : Bool) → ◌≡◌ {A = ℕ} (cond c 0 0) 0
nothing true = refl
nothing false = refl

-- of one member: at most three, three where it is at 3, less where it is not
one_within : (present : Bool) (stage : ℕ) → stage ≤ 3 → cond present stage 0 ≤ 3 * cond present 1 0
one_within true stage low = omega arith
one_within false stage low = omega arith

one_full : (present : Bool) (stage : ℕ) → present && not (eqb stage 3) ≡ false → cond present stage 0 ≡ 3 * cond present 1 0
one_full true stage e = omega (arith, eqb-true stage 3 (not-false (eqb stage 3) e))
one_full false stage e = omega arith

one_short : (present : Bool) (stage : ℕ) → stage ≤ 3 → present && not (eqb stage 3) ≡ true → cond present stage 0 < 3 * cond present 1 0
one_short true stage low e = let d : ¬ (stage ≡ 3) = eqb-false stage 3 (not-true (eqb stage 3) e) in omega arith
one_short false stage low e = absurd (false≢true e)

module _ (present : ℕ → Bool) where
  -- nobody has taken a step
  pub total_zero : (n : ℕ) → total n present (λ k. 0) ≡ 0
  unfolding total
  total_zero zero = refl
  total_zero (suc n) = omega (arith, nothing (present n), total_zero n)

  module _ (stage : ℕ → ℕ) where
    -- a number past n does not count
    total_same : (n m x : ℕ) → n ≤ m → total n present (put stage m x) ≡ total n present stage
    unfolding total
    total_same zero m x far = refl
    total_same (suc n) m x far = rw (ne_eqb m n (λ q. omega arith), total_same n m x (omega arith))

    -- a member's step makes it one more
    pub one_more : (n m : ℕ) → present m ≡ true → m < n → total n present (put stage m (suc (stage m))) ≡ suc (total n present stage)
    unfolding total
    one_more zero m here low = absurd (not-suc-le-zero low)
    one_more (suc n) m here low = go (one_more n m here) (eqb m n) refl
      where
        go : (m < n → total n present (put stage m (suc (stage m))) ≡ suc (total n present stage)) → (c : Bool) → eqb m n ≡ c
            → total (suc n) present (put stage m (suc (stage m))) ≡ suc (total (suc n) present stage)
        go ih true q =
            let p : m ≡ n = eqb-true m n q in
            rw (q, ← p, here) (omega (arith, total_same m m (suc (stage m)) (omega arith)))
        go ih false q =
            let d : ¬ (m ≡ n) = eqb-false m n q in
            rw q (omega (arith, ih (omega arith)))

    -- some member is not at 3
    unfoldable pub unfinished : ℕ → Bool
    unfinished n = any_below n (λ k. present k && not (eqb (stage k) 3))

    module _ (at_most : (k : ℕ) → stage k ≤ 3) where
      within : (n : ℕ) → total n present stage ≤ 3 * count_below n present
      unfolding total count_below
      within zero = omega arith
      within (suc n) = omega (arith, one_within (present n) (stage n) (at_most n), within n)

      full : (n : ℕ) → unfinished n ≡ false → total n present stage ≡ 3 * count_below n present
      unfolding total count_below any_below unfinished
      full zero e = refl
      full (suc n) e =
          let here = one_full (present n) (stage n) (or_l (present n && not (eqb (stage n) 3)) (unfinished n) e) in
          omega (arith, full n (or_r (present n && not (eqb (stage n) 3)) (unfinished n) e))

      short : (n : ℕ) → unfinished n ≡ true → total n present stage < 3 * count_below n present
      unfolding total count_below any_below unfinished
      short zero e = absurd (false≢true e)
      short (suc n) e = go (short n) (present n && not (eqb (stage n) 3)) refl e
        where
          go : (unfinished n ≡ true → total n present stage < 3 * count_below n present) → (c : Bool) → present n && not (eqb (stage n) 3) ≡ c
              → c || unfinished n ≡ true → total (suc n) present stage < 3 * count_below (suc n) present
          go ih true q e = omega (arith, one_short (present n) (stage n) (at_most n) q, within n)
          go ih false q e = omega (arith, one_within (present n) (stage n) (at_most n), ih e)

      -- exactly then it is less than three for each member
      pub left : (n : ℕ) → unfinished n ≡ ltb (total n present stage) (3 * count_below n present)
      left n = go (unfinished n) refl
        where
          go : (c : Bool) → unfinished n ≡ c → unfinished n ≡ ltb (total n present stage) (3 * count_below n present)
          go true q = q ∙ sym (lt-ltb (total n present stage) (3 * count_below n present) (short n q))
          go false q = q ∙ sym (le-ltb (total n present stage) (3 * count_below n present) (omega (arith, full n q)))

-- ---- how many members there are

-- the numbers below k
pub count_numbers : (n k : ℕ) → count_below n (λ m. ltb m k) ≡ min n k
unfolding count_below
count_numbers zero k = omega arith
count_numbers (suc n) k = go (count_numbers n k) (ltb n k) refl
  where
    go : count_below n (λ m. ltb m k) ≡ min n k → (c : Bool) → ltb n k ≡ c → count_below (suc n) (λ m. ltb m k) ≡ min (suc n) k
    go ih true q = rw q (omega (arith, ltb-true n k q))
    go ih false q = rw q (omega (arith, ltb-false n k q))
