-- A time that is good, as the word of a verdict: docs/PORT.md names this law, and no answer cites it today, since the judge is crate
-- cookie's. Assumes nothing.
use Rattle.std.proofs.Common.{◌≡◌, ℕ, ◌+◌, ◌-◌, ◌*◌, ◌%◌, ◌^◌, ◌≤◌, arith, w32, Fits, le-leb}
use native.Mathlib.Decide.{dec_lt}
use Rattle.verdict.specs.Findings.{is_timely, by_time}
use Rattle.verdict.specs.Serial.{difference, age}
use Rattle.verdict.specs.declared.Which.{Which}
use Rattle.verdict.proofs.SerialLaws.{age_low, age_high}
use Rattle.dnscookie.specs.Words.{which_number, finding_word}

module _ (clock stamp d e : ℕ) (small : Fits w32 clock) (small' : Fits w32 stamp) (ok : Fits w32 d)
    (wraps : (d + stamp) % 2 ^ 32 ≡ clock) (next : e ≡ (d + 300) % 2 ^ 32) where
  is_difference : difference clock stamp ≡ d
  is_difference = omega (arith, small.fits, small'.fits, ok.fits)

  pub is_timely_lem : (good : ℕ) → e ≤ 3900 → (w : Which) → good ≡ which_number w → good + d * 4294967296 ≡ finding_word (by_time (age clock stamp) w)
  unfolding by_time is_timely
  is_timely_lem good near w is =
      elim (dec_lt d (2 ^ 31)) [
        | yes low ↦ rw (age_low clock stamp d is_difference low, le-leb d 3600 (omega (arith, ok.fits))) (omega (arith, is))
        | no high ↦
            rw (age_high clock stamp d is_difference (omega arith), le-leb (2 ^ 32 - 1 - d) 299 (omega (arith, ok.fits))) (omega (arith, is, ok.fits))
      ]
