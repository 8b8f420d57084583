-- A set of member numbers as a word: bit m of it is the member m. This project's own words. Assumes nothing.
use Rattle.std.specs.Prelude.{ℕ, zero, suc, ◌+◌, ◌-◌, ◌/◌, ◌%◌, ◌^◌, ◌<◌, ◌≡◌, Bool, false, cond, ◌||◌, eqb, ltb}
use Rattle.std.specs.Int.Bits.{bit_or}

-- member numbers are below this one: document 01, "START gives a member count of 1 to 32"
abbrev pub member_limit : ℕ
member_limit = 32

-- whether a number is in a set
unfoldable pub is_in : ℕ → ℕ → Bool
is_in set m = eqb (set / 2 ^ m % 2) 1

-- the set with a member more; a number that can be no member's changes nothing
unfoldable pub with_member : ℕ → ℕ → ℕ
with_member set m = cond (ltb m member_limit) (bit_or set (2 ^ m)) set

-- the set of the members below a number
unfoldable pub numbers_below : ℕ → ℕ
numbers_below n = cond (ltb n member_limit) (2 ^ n - 1) (2 ^ member_limit - 1)

-- whether some number below n passes a test
unfoldable pub any_below : ℕ → (ℕ → Bool) → Bool
any_below zero test = false
any_below (suc n) test = test n || any_below n test

-- how many numbers below n do
unfoldable pub count_below : ℕ → (ℕ → Bool) → ℕ
count_below zero test = 0
count_below (suc n) test = cond (test n) 1 0 + count_below n test

-- a word is the set of the members that pass a test
abbrev pub SetOf : ℕ → (ℕ → Bool) → Type 0
SetOf set test = (m : ℕ) → m < member_limit → is_in set m ≡ test m
