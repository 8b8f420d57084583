-- A table of refusals, as document 01 has them ("Answer numbers for a request", "The rollover ledger"): rows of a number and a test, in the order of the
-- checks. Numbers are the paper's and no positions. It stands here because every crate that refuses stands on octets. Assumes nothing.
use Rattle.std.specs.Prelude.{ℕ, zero, suc, ◌≡◌, Bool, true, false, cond, List, [], ◌∷◌}
use Rattle.std.proofs.Math.Option.{Option, none, some}

-- a row: the refusal's number, and whether it applies
pub record Row : Type 0 where
  pub number : ℕ
  pub applies : Bool

infix 68 ◌when◌
-- a row as it is written in a table
abbrev pub ◌when◌ : ℕ → Bool → Row
n when b = record { number = n; applies = b }

-- the number of the first row that applies, 0 if none does
abbrev pub first : List Row → ℕ
first [] = 0
first (r ∷ rows) = cond r.applies r.number (first rows)

-- what is answered: the refusal of that number, or what was found if it is 0
abbrev pub answered : {A : Type 0} → (ℕ → A) → ℕ → A → A
answered refused zero found = found
answered refused (suc n) found = refused (suc n)

-- a test for a row: what should be there is not
abbrev pub is_none : {A : Type 0} → Option A → Bool
is_none none = true
is_none (some x) = false

-- ---- the same in words, for claims

-- of these rows, the first that applies has this number
pub data FirstIs : List Row → ℕ → Type 0 where
  this : (r : Row) (rows : List Row) → r.applies ≡ true → FirstIs (r ∷ rows) r.number
  later : (r : Row) (rows : List Row) (n : ℕ) → r.applies ≡ false → FirstIs rows n → FirstIs (r ∷ rows) n

-- none of them applies
pub data NoneApplies : List Row → Type 0 where
  no_row : NoneApplies []
  not_this : (r : Row) (rows : List Row) → r.applies ≡ false → NoneApplies rows → NoneApplies (r ∷ rows)
