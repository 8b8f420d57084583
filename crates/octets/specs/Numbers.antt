-- Bytes as numbers: little-endian as the SipHash paper, section 2, has its words, and big-endian as RFC 1035, section 2.3.2, and document 01
-- have theirs. A byte is a number below 256, a run of bytes a list. Assumes nothing.
use Rattle.std.specs.Prelude.{ℕ, zero, suc, ◌+◌, ◌*◌, ◌/◌, ◌%◌, ◌^◌, cond, List, [], ◌∷◌, ltb, length, get_or}

-- the number whose bytes are given, the lowest first
unfoldable pub le_number : List ℕ → ℕ
le_number [] = 0
le_number (b ∷ bs) = b + 256 * le_number bs

-- the n lowest bytes of x, the lowest first
unfoldable pub le_bytes : ℕ → ℕ → List ℕ
le_bytes zero x = []
le_bytes (suc n) x = x % 256 ∷ le_bytes n (x / 256)

-- the number whose bytes are given, the highest first
unfoldable pub be_number : List ℕ → ℕ
be_number [] = 0
be_number (b ∷ bs) = b * 256 ^ length bs + be_number bs

-- the n lowest bytes of x, the highest first
unfoldable pub be_bytes : ℕ → ℕ → List ℕ
be_bytes zero x = []
be_bytes (suc n) x = x / 256 ^ n % 256 ∷ be_bytes n x

-- n bytes as a paper prints them, two digits for each: `printed 4 0x5cf79f11`. None if x has more digits than that, so that a misprint shows
unfoldable pub printed : ℕ → ℕ → List ℕ
printed n x = cond (ltb x (256 ^ n)) (be_bytes n x) []

-- so many numbers from one on, for tables of cases
abbrev pub up_to : ℕ → ℕ → List ℕ
up_to at zero = []
up_to at (suc n) = at ∷ up_to (suc at) n

-- the big-endian number of the two bytes at a place of a run. A byte past the end counts as 0
abbrev pub be16_at : List ℕ → ℕ → ℕ
be16_at s at = be_number (get_or s at 0 ∷ get_or s (at + 1) 0 ∷ [])

-- the same of four bytes
abbrev pub be32_at : List ℕ → ℕ → ℕ
be32_at s at = be_number (get_or s at 0 ∷ get_or s (at + 1) 0 ∷ get_or s (at + 2) 0 ∷ get_or s (at + 3) 0 ∷ [])

-- the same of eight bytes
abbrev pub be64_at : List ℕ → ℕ → ℕ
be64_at s at =
    be_number (get_or s at 0 ∷ get_or s (at + 1) 0 ∷ get_or s (at + 2) 0 ∷ get_or s (at + 3) 0 ∷ get_or s (at + 4) 0 ∷ get_or s (at + 5) 0 ∷ get_or s (at + 6) 0 ∷ get_or s (at + 7) 0 ∷ [])
