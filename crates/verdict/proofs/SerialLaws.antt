-- Ages in serial arithmetic. Assumes nothing.
use Rattle.std.proofs.Common.{◌≡◌, ℕ, ◌+◌, ◌-◌, ◌%◌, ◌^◌, ◌<◌, ◌≤◌, Bool, true, false, ltb, ℤ, pos, negsuc, refl, ap, ◌∙◌, arith, ltb-false, ltb-true, le-ltb, lt-ltb}
use lib.IntN.{sub_ℕ}
use Rattle.verdict.specs.Claims.{Apart, AgeIsSerial}
use Rattle.verdict.specs.Serial.{difference, age}

-- ---- by the difference

module _ (clock timestamp d : ℕ) (is : difference clock timestamp ≡ d) where
  pub age_low : d < 2 ^ 31 → age clock timestamp ≡ pos d
  unfolding age
  age_low low = rw (is, lt-ltb d (2 ^ 31) low)

  pub age_high : 2 ^ 31 ≤ d → age clock timestamp ≡ negsuc (2 ^ 32 - 1 - d)
  unfolding age
  age_high high =
      let below : d < 2 ^ 32 = omega (arith, is) in
      rw (is, le-ltb d (2 ^ 31) high, lt-ltb d (2 ^ 32) below) (ap negsuc (omega arith))

-- ---- the claim

module _ (clock timestamp : ℕ) (small : clock < 2 ^ 32) (small' : timestamp < 2 ^ 32) where
  age_apart : Apart clock timestamp (age clock timestamp)
  age_apart = go (difference clock timestamp) refl
    where
      go : (d : ℕ) → difference clock timestamp ≡ d → Apart clock timestamp (age clock timestamp)
      go d is = by (ltb d (2 ^ 31)) refl
        where
          by : (b : Bool) → ltb d (2 ^ 31) ≡ b → Apart clock timestamp (age clock timestamp)
          by true q = let low : d < 2 ^ 31 = ltb-true d (2 ^ 31) q in rw (age_low clock timestamp d is low) (low, omega (arith, is))
          by false q = let high : 2 ^ 31 ≤ d = ltb-false d (2 ^ 31) q in rw (age_high clock timestamp d is high) (omega arith, omega (arith, is))

  pub apart_age : (a : ℤ) → Apart clock timestamp a → age clock timestamp ≡ a
  apart_age (pos n) h =
      let low : n < 2 ^ 31 = h.0 in
      let is : difference clock timestamp ≡ n = omega (arith, low, h.1) in
      age_low clock timestamp n is low
  apart_age (negsuc n) h =
      let low : n < 2 ^ 31 = h.0 in
      let is : difference clock timestamp ≡ 2 ^ 32 - 1 - n = omega (arith, low, h.1) in
      age_high clock timestamp (2 ^ 32 - 1 - n) is (omega arith) ∙ ap negsuc (omega arith)

pub age_is_serial : AgeIsSerial
age_is_serial clock timestamp small small' a = (λ e. rw (← e) (age_apart clock timestamp small small'), apart_age clock timestamp small small' a)

-- the age is the difference of two times that are not far apart, each taken modulo 2 ^ 32
pub age_of_times : (made checked : ℕ) → made ≤ checked + 300 → checked ≤ made + 3600 → age (checked % 2 ^ 32) (made % 2 ^ 32) ≡ sub_ℕ checked made
age_of_times made checked early late = apart_age (checked % 2 ^ 32) (made % 2 ^ 32) (omega arith) (omega arith) (sub_ℕ checked made) (by (ltb checked made) refl)
  where
    by : (b : Bool) → ltb checked made ≡ b → Apart (checked % 2 ^ 32) (made % 2 ^ 32) (sub_ℕ checked made)
    by true q = let before' : checked < made = ltb-true checked made q in rw q (omega arith, omega arith)
    by false q = let after : made ≤ checked = ltb-false checked made q in rw q (omega arith, omega arith)
