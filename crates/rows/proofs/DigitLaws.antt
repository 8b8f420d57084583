-- Laws of a number in decimal: its last digit apart, and how many digits it has. Assumes nothing.
use mathlib.Core.Path.{◌≡◌, sym, ap, ◌∙◌}
use mathlib.Core.Bool.{Bool, true, false, cond}
use mathlib.Core.List.{List, [], ◌∷◌, ◌++◌}
use Prim.Native.Nat.{ℕ, zero, suc, ◌+◌, ◌/◌, ◌%◌, ◌^◌, ◌≤◌, ◌<◌}
use native.Mathlib.Decide.{dec_lt}
use native.Mathlib.Omega.{arith}
use borrow.Author.Tests.{lt-ltb, le-ltb}
use lib.ListN.{length, length-append}
use Rattle.rows.specs.Rows.{decimal_in, decimal}

one_digit : (n x : ℕ) → x < 10 → decimal_in (suc n) x ≡ (48 + x) ∷ []
unfolding decimal_in
one_digit n x below = rw (lt-ltb x 10 below)

last_digit : (n x : ℕ) → 10 ≤ x → decimal_in (suc n) x ≡ decimal_in n (x / 10) ++ ((48 + x % 10) ∷ [])
unfolding decimal_in
last_digit n x above = rw (le-ltb x 10 above)

-- a tenth has a digit fewer
tenth : (n x : ℕ) → x < 10 ^ suc n → x / 10 < 10 ^ n
tenth n x below = omega arith

-- where a number fits, more room changes nothing
more_room : (n x : ℕ) → x < 10 ^ suc n → decimal_in (suc n) x ≡ decimal_in (suc (suc n)) x
more_room zero x below = let small : x < 10 = omega arith in one_digit 0 x small ∙ sym (one_digit 1 x small)
more_room (suc n) x below =
    let rest = more_room n (x / 10) (tenth (suc n) x below) in
    elim (dec_lt x 10) [
      | yes small ↦ one_digit (suc n) x small ∙ sym (one_digit (suc (suc n)) x small)
      | no big ↦
          let above : 10 ≤ x = omega arith in
          last_digit (suc n) x above
          ∙ ap (λ (l : List ℕ). l ++ ((48 + x % 10) ∷ [])) rest
          ∙ sym (last_digit (suc (suc n)) x above)
    ]

length_in_lem : (n k x : ℕ) → x < 10 ^ suc k → length (decimal_in n x) ≤ suc k
unfolding decimal_in
length_in_lem zero k x below = omega arith
length_in_lem (suc n) zero x below = rw (one_digit n x (omega arith)) (omega arith)
length_in_lem (suc n) (suc k) x below =
    let rest = length_in_lem n k (x / 10) (tenth (suc k) x below) in
    elim (dec_lt x 10) [
      | yes small ↦ rw (one_digit n x small) (omega arith)
      | no big ↦
          let above : 10 ≤ x = omega arith in
          rw (last_digit n x above, length-append (decimal_in n (x / 10)) ((48 + x % 10) ∷ [])) (omega arith)
    ]

-- ---- twenty digits, of a number that they hold

module _ (x : ℕ) where
  pub decimal_one : x < 10 → decimal x ≡ (48 + x) ∷ []
  decimal_one below = one_digit 19 x below

  pub length_one : x < 10 → length (decimal x) ≡ 1
  length_one below = ap length (decimal_one below)

  pub length_some : 0 < length (decimal x)
  length_some =
      elim (dec_lt x 10) [
        | yes small ↦ rw (decimal_one small) (omega arith)
        | no big ↦
            let above : 10 ≤ x = omega arith in
            rw (last_digit 19 x above, length-append (decimal_in 19 (x / 10)) ((48 + x % 10) ∷ [])) (omega arith)
      ]

  -- a number below 10 ^ (k + 1) has at most k + 1 digits
  pub length_below : (k : ℕ) → x < 10 ^ suc k → length (decimal x) ≤ suc k
  length_below k below = length_in_lem 20 k x below

  module _ (above : 10 ≤ x) (fits : x < 10 ^ 20) where
    pub decimal_more : decimal x ≡ decimal (x / 10) ++ ((48 + x % 10) ∷ [])
    decimal_more = last_digit 19 x above ∙ ap (λ (l : List ℕ). l ++ ((48 + x % 10) ∷ [])) (more_room 18 (x / 10) (tenth 19 x fits))

    pub length_more : length (decimal x) ≡ length (decimal (x / 10)) + 1
    length_more = ap length decimal_more ∙ length-append (decimal (x / 10)) ((48 + x % 10) ∷ [])

-- a bit is a number of one digit
pub bit_below : (bit : Bool) → cond bit 1 0 < 10
bit_below true = omega arith
bit_below false = omega arith

-- numbers of two digits, three, four
pub decimal_two : (x : ℕ) → 10 ≤ x → x < 100 → decimal x ≡ (48 + x / 10) ∷ (48 + x % 10) ∷ []
decimal_two x above below = decimal_more x above (omega arith) ∙ rw (decimal_one (x / 10) (omega arith))

pub decimal_three : (x : ℕ) → 100 ≤ x → x < 1000 → decimal x ≡ (48 + x / 100) ∷ (48 + x / 10 % 10) ∷ (48 + x % 10) ∷ []
decimal_three x above below =
    let hundreds : x / 10 / 10 ≡ x / 100 = omega arith in
    decimal_more x (omega arith) (omega arith) ∙ rw (decimal_two (x / 10) (omega arith) (omega arith), hundreds)

pub length_two : (x : ℕ) → 10 ≤ x → x < 100 → length (decimal x) ≡ 2
length_two x above below = ap length (decimal_two x above below)

pub length_three : (x : ℕ) → 100 ≤ x → x < 1000 → length (decimal x) ≡ 3
length_three x above below = ap length (decimal_three x above below)

pub length_four : (x : ℕ) → 1000 ≤ x → x < 10000 → length (decimal x) ≡ 4
length_four x above below = length_more x (omega arith) (omega arith) ∙ ap (λ (k : ℕ). k + 1) (length_three (x / 10) (omega arith) (omega arith))

-- four digits at a time
pub length_four_more : (x : ℕ) → 10000 ≤ x → x < 10 ^ 20 → length (decimal x) ≡ length (decimal (x / 10000)) + 4
length_four_more x above fits =
    let a = length_more x (omega arith) fits in
    let b = length_more (x / 10) (omega arith) (omega arith) in
    let c = length_more (x / 10 / 10) (omega arith) (omega arith) in
    let d = length_more (x / 10 / 10 / 10) (omega arith) (omega arith) in
    let all : x / 10 / 10 / 10 / 10 ≡ x / 10000 = omega arith in
    omega (arith, ap (λ (y : ℕ). length (decimal y)) all)
