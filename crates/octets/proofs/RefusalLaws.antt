-- A table of refusals in words: the first row that applies, and that none does. Stated over the number that it gives, and over any kind of answer. Assumes nothing.
use Prim.Native.Nat.{ℕ, zero, suc, ◌≤◌}
use mathlib.Core.Path.{◌≡◌, refl, sym, ap, subst, ◌∙◌}
use mathlib.Core.Bool.{Bool, true, false, not, cond, ◌&&◌, ◌||◌, true≢false, false≢true}
use mathlib.Core.List.{List, [], ◌∷◌, ◌++◌}
use mathlib.Core.Option.{Option, none, some}
use native.Mathlib.Omega.{arith}
use lib.Dec.{eqb}
use Rattle.octets.proofs.EachLaws.{Each}
use Rattle.octets.specs.Refusals.{Row, first, answered, is_none, FirstIs, this, later, NoneApplies, no_row, not_this}

-- every number is one from 1 on, so that none is taken for "no refusal"
abbrev pub Numbered : List Row → Type 0
Numbered [] = Unit {0}
Numbered (r ∷ rows) = ((k : ℕ) × (r.number ≡ suc k)) × Numbered rows

-- ---- tests joined

pub or_l : (a b : Bool) → a || b ≡ false → a ≡ false
or_l true b e = e
or_l false b e = refl

pub or_r : (a b : Bool) → a || b ≡ false → b ≡ false
or_r true b e = absurd (true≢false e)
or_r false b e = e

pub both_true : (a b : Bool) → (a && b) ≡ true → (a ≡ true) × (b ≡ true)
both_true true b h = (refl, h)
both_true false b h = absurd (false≢true h)

-- ---- the number that a table gives

pub first_number : {rows : List Row} {n : ℕ} → FirstIs rows n → first rows ≡ n
first_number (this r rows t) = rw t
first_number (later r rows n t rest) = rw t (first_number rest)

pub none_number : {rows : List Row} → NoneApplies rows → first rows ≡ 0
none_number no_row = refl
none_number (not_this r rows t rest) = rw t (none_number rest)

-- and back, a number other than 0 is that of the first row that applies
-- at most the greatest number that stands in it
pub first_most : (n : ℕ) (rows : List Row) → Each (λ (r : Row). r.number ≤ n) rows → first rows ≤ n
first_most n [] are = omega arith
first_most n (r ∷ rows) are = pick r.applies (first_most n rows are.1)
  where
    pick : (b : Bool) → first rows ≤ n → cond b r.number (first rows) ≤ n
    pick true rest = are.0
    pick false rest = rest

pub number_first : (rows : List Row) (n : ℕ) → first rows ≡ suc n → FirstIs rows (suc n)
number_first [] n e = absurd (omega (arith, e))
number_first (r ∷ rows) n e = pick (number_first rows n) r.applies refl e
  where
    pick : (first rows ≡ suc n → FirstIs rows (suc n)) → (b : Bool) → r.applies ≡ b → cond b r.number (first rows) ≡ suc n → FirstIs (r ∷ rows) (suc n)
    pick ih true t e = subst (FirstIs (r ∷ rows)) e (this r rows t)
    pick ih false t e = later r rows (suc n) t (ih e)

-- an answer that is the number of the first row that applies, and 0 if none does, is that number
pub told : (answer : ℕ) (rows : List Row) → ((n : ℕ) → FirstIs rows n → answer ≡ n) → (NoneApplies rows → answer ≡ 0) → answer ≡ first rows
told answer [] refused accepted = accepted no_row
told answer (r ∷ rows) refused accepted = pick (told answer rows) r.applies refl
  where
    pick : (((n : ℕ) → FirstIs rows n → answer ≡ n) → (NoneApplies rows → answer ≡ 0) → answer ≡ first rows) → (b : Bool) → r.applies ≡ b
        → answer ≡ cond b r.number (first rows)
    pick ih true t = refused r.number (this r rows t)
    pick ih false t = ih (λ n is. refused n (later r rows n t is)) (λ none. accepted (not_this r rows t none))

-- ---- a row by its number

-- whether the row of a number applies
abbrev pub look : ℕ → List Row → Bool
look n [] = false
look n (r ∷ rows) = cond (eqb r.number n) r.applies (look n rows)

pub clear : (n : ℕ) {rows : List Row} → NoneApplies rows → look n rows ≡ false
clear n no_row = refl
clear n (not_this r rows t rest) = pick (clear n rest) (eqb r.number n)
  where
    pick : look n rows ≡ false → (b : Bool) → cond b r.applies (look n rows) ≡ false
    pick ih true = t
    pick ih false = ih

-- no row has the number 0: a test that computes
abbrev pub numbered : List Row → Bool
numbered [] = true
numbered (r ∷ rows) = not (eqb r.number 0) && numbered rows

from_one : (n : ℕ) → not (eqb n 0) ≡ true → (k : ℕ) × (n ≡ suc k)
from_one zero e = absurd (false≢true e)
from_one (suc k) e = (k, refl)

pub all_numbered : (rows : List Row) → numbered rows ≡ true → Numbered rows
all_numbered [] e = tt
all_numbered (r ∷ rows) e = pick (not (eqb r.number 0)) (from_one r.number) (all_numbered rows) e
  where
    pick : (b : Bool) → (b ≡ true → (k : ℕ) × (r.number ≡ suc k)) → (numbered rows ≡ true → Numbered rows) → b && numbered rows ≡ true → Numbered (r ∷ rows)
    pick true one rest e = (one refl, rest e)
    pick false one rest e = absurd (false≢true e)

-- ---- what is answered by a table

module _ {A : Type 0} (refused : ℕ → A) (found : A) where
  pub is_first : (rows : List Row) → Numbered rows → (n : ℕ) → FirstIs rows n → answered refused (first rows) found ≡ refused n
  is_first _ ns _ (this r rows t) = rw (t, ns.0.1)
  is_first _ ns _ (later r rows n t rest) = rw t (is_first rows ns.1 n rest)

  pub none_is : (rows : List Row) → NoneApplies rows → answered refused (first rows) found ≡ found
  none_is rows passes = ap (λ (n : ℕ). answered refused n found) (none_number passes)

  pub is_none_lem : (rows : List Row) → Numbered rows → ((n : ℕ) → answered refused (first rows) found ≡ refused n → ⊥) → NoneApplies rows
  is_none_lem [] ns never = no_row
  is_none_lem (r ∷ rows) ns never = pick (is_none_lem rows ns.1) r.applies refl never
    where
      pick : (((n : ℕ) → answered refused (first rows) found ≡ refused n → ⊥) → NoneApplies rows) → (b : Bool) → r.applies ≡ b
          → ((n : ℕ) → answered refused (cond b r.number (first rows)) found ≡ refused n → ⊥) → NoneApplies (r ∷ rows)
      pick ih true t never = absurd (never r.number (rw ns.0.1))
      pick ih false t never = not_this r rows t (ih never)

  -- a refusal tells its number, and what was found is none
  module _ (number : A → ℕ) (told : (n : ℕ) → number (refused n) ≡ n) (passes : (n : ℕ) → found ≡ refused n → ⊥) where
    pub first_is : (rows : List Row) → Numbered rows → (n : ℕ) → answered refused (first rows) found ≡ refused n → FirstIs rows n
    first_is [] ns n e = absurd (passes n e)
    first_is (r ∷ rows) ns n e = pick (first_is rows ns.1 n) r.applies refl e
      where
        pick : (answered refused (first rows) found ≡ refused n → FirstIs rows n) → (b : Bool) → r.applies ≡ b
            → answered refused (cond b r.number (first rows)) found ≡ refused n → FirstIs (r ∷ rows) n
        pick ih true t e =
            let is : refused r.number ≡ answered refused r.number found = rw ns.0.1 in
            subst (FirstIs (r ∷ rows)) (sym (told r.number) ∙ ap number (is ∙ e) ∙ told n) (this r rows t)
        pick ih false t e = later r rows n t (ih e)

zero≢suc : {n : ℕ} → 0 ≡ suc n → ⊥
zero≢suc e = omega (arith, e)

-- the parts of a table of which no row applies
pub this_not : (r : Row) (rows : List Row) → NoneApplies (r ∷ rows) → r.applies ≡ false
this_not _ _ (not_this r rows t rest) = t

pub none_behind : (r : Row) (rows : List Row) → NoneApplies (r ∷ rows) → NoneApplies rows
none_behind _ _ (not_this r rows t rest) = rest

-- ---- a table behind another

-- a row of the first applies: it is told, whatever stands behind
pub first_front : (a b : List Row) (n : ℕ) → first a ≡ suc n → first (a ++ b) ≡ suc n
first_front [] b n e = absurd (zero≢suc e)
first_front (r ∷ a) b n e = pick (first_front a b n) r.applies e
  where
    pick : (first a ≡ suc n → first (a ++ b) ≡ suc n) → (t : Bool) → cond t r.number (first a) ≡ suc n → cond t r.number (first (a ++ b)) ≡ suc n
    pick ih true e = e
    pick ih false e = ih e

-- 0 is told only where no row applies
pub zero_none : (rows : List Row) → Numbered rows → first rows ≡ 0 → NoneApplies rows
zero_none [] ns e = no_row
zero_none (r ∷ rows) ns e = pick (zero_none rows ns.1) r.applies refl e
  where
    pick : (first rows ≡ 0 → NoneApplies rows) → (b : Bool) → r.applies ≡ b → cond b r.number (first rows) ≡ 0 → NoneApplies (r ∷ rows)
    pick ih true t e = absurd (zero≢suc (sym e ∙ ns.0.1))
    pick ih false t e = not_this r rows t (ih e)

-- no row of the first applies: the second decides
pub first_behind : (a b : List Row) → NoneApplies a → first (a ++ b) ≡ first b
first_behind _ b no_row = refl
first_behind _ b (not_this r rows t rest) = rw t (first_behind rows b rest)

-- what a row says is there
pub is_some : {A : Type 0} (x : Option A) → is_none x ≡ false → (a : A) × (x ≡ some a)
is_some none e = absurd (true≢false e)
is_some (some a) e = (a, refl)
