-- What a decimal number says. No paper: these are this project's own words for the text that its programs read. Assumes nothing.
use Rattle.std.specs.Prelude
use Rattle.std.specs.Prelude.{ℕ, ◌+◌, ◌-◌, ◌*◌, Bool, true, false, cond, ◌&&◌, List, [], ◌∷◌, leb, ltb, Some, None}
use Rattle.std.proofs.Math.Option.{Option, none, some}

-- a decimal digit, as ASCII
abbrev pub is_digit : ℕ → Bool
is_digit b = leb 48 b && leb b 57

-- a number and the digits behind it, if digits is what they are
unfoldable pub followed_by : ℕ → List ℕ → Option ℕ
followed_by n [] = some n
followed_by n (b ∷ s) = cond (is_digit b) (followed_by (n * 10 + (b - 48)) s) none

-- the number of a text: one digit or more
unfoldable pub decimal : List ℕ → Option ℕ
decimal [] = none
decimal (b ∷ s) = followed_by 0 (b ∷ s)

-- a number that is not too great
unfoldable pub below : ℕ → Option ℕ → Option ℕ
below limit none = none
below limit (some n) = cond (ltb n limit) (some n) none

-- what an answer tells
abbrev pub told : Prelude.Option ℕ → Option ℕ
told (Some n) = some n
told None = none
