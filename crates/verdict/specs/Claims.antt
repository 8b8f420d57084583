-- The claim that an age is that of serial arithmetic (RFC 1982, 32 bits). Assumes nothing.
use Rattle.std.specs.Prelude.{◌≡◌, ℕ, suc, ◌+◌, ◌%◌, ◌^◌, ◌<◌, ℤ, pos, negsuc}
use Rattle.verdict.specs.Serial.{age}

-- n seconds after the timestamp it is the clock, or n + 1 seconds after the clock it is the timestamp; time goes round at 2 ^ 32
abbrev pub Apart : ℕ → ℕ → ℤ → Type 0
Apart clock timestamp (pos n) = (n < 2 ^ 31) × ((timestamp + n) % 2 ^ 32 ≡ clock)
Apart clock timestamp (negsuc n) = (n < 2 ^ 31) × ((clock + suc n) % 2 ^ 32 ≡ timestamp)

-- the claim, both ways: an age is so, and what is so is the age
abbrev pub AgeIsSerial : Type 0
AgeIsSerial =
    (clock timestamp : ℕ) → clock < 2 ^ 32 → timestamp < 2 ^ 32 → (a : ℤ)
    → (age clock timestamp ≡ a → Apart clock timestamp a) × (Apart clock timestamp a → age clock timestamp ≡ a)
