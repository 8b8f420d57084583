-- The lines of a journal's listing: document 01, "Sides of each line" ("per record: record number, kind, answer, open, members at stages 0, 1, 2, 3. One space between").
-- Assumes nothing.
use Rattle.std.specs.Prelude.{ℕ, zero, suc, ◌+◌, ◌/◌, ◌%◌, cond, List, [], ◌∷◌, ◌++◌, leb, ltb, length}
use Rattle.octets.specs.Runs.{written}
use Rattle.rows.specs.declared.Row.{Row}

-- a number below 10 ^ n in decimal, as ASCII, with no zero before it
unfoldable pub decimal_in : ℕ → ℕ → List ℕ
decimal_in zero x = []
decimal_in (suc n) x = cond (ltb x 10) ((48 + x) ∷ []) (decimal_in n (x / 10) ++ ((48 + x % 10) ∷ []))

-- twenty digits hold every number of 64 bits
abbrev pub decimal : ℕ → List ℕ
decimal x = decimal_in 20 x

-- numbers on a line, with one space between and the line's end behind
unfoldable pub line : List ℕ → List ℕ
line [] = 10 ∷ []
line (x ∷ []) = decimal x ++ (10 ∷ [])
line (x ∷ y ∷ rest) = decimal x ++ (32 ∷ line (y ∷ rest))

-- what is said of a record
unfoldable pub row_line : Row → List ℕ
row_line r = line (r.number ∷ r.kind ∷ r.answer ∷ cond r.rolling 1 0 ∷ r.at0 ∷ r.at1 ∷ r.at2 ∷ r.at3 ∷ [])

-- leftover bytes: `short` and how many
unfoldable pub short_line : ℕ → List ℕ
short_line count = 115 ∷ 104 ∷ 111 ∷ 114 ∷ 116 ∷ 32 ∷ line (count ∷ [])

-- ---- a line put into a buffer

-- no line has more bytes: a number of 64 bits, a bit and six of 8 bits, seven spaces and the line's end
abbrev pub longest : ℕ
longest = 47

-- where the line ends, and what the buffer holds then
pub record Placed : Type 0 where
  pub end : ℕ
  pub buffer : List ℕ

infix 60 ◌leaving◌
-- as it is written
abbrev pub ◌leaving◌ : ℕ → List ℕ → Placed
end leaving buffer = record { end = end; buffer = buffer }

-- a line from a place on, where there is room for the longest; otherwise nothing is written
unfoldable pub placed : List ℕ → ℕ → List ℕ → Placed
placed buffer at text = cond (leb (at + longest) (length buffer)) (at + length text leaving written buffer at text) (at leaving buffer)
