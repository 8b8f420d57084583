-- The age of a timestamp in serial arithmetic: RFC 1982 with 32 bits, as document 01, "The verdict", step 3, puts it. Assumes nothing.
use Rattle.std.specs.Prelude.{ℕ, ◌+◌, ◌-◌, ◌%◌, ◌^◌, cond, ℤ, pos, nat_lt}
use Rattle.std.proofs.Math.IntN.{sub_ℕ}

-- clock less timestamp modulo 2 ^ 32
abbrev pub difference : ℕ → ℕ → ℕ
difference clock timestamp = (clock + 2 ^ 32 - timestamp) % 2 ^ 32

-- a number below 2 ^ 32 read as a signed one: less 2 ^ 32 if it is 2 ^ 31 or more
abbrev pub signed : ℕ → ℤ
signed d = cond (nat_lt d (2 ^ 31)) (pos d) (sub_ℕ d (2 ^ 32))

-- the age, in seconds. Negative: the timestamp is ahead of the clock
unfoldable pub age : ℕ → ℕ → ℤ
age clock timestamp = signed (difference clock timestamp)
