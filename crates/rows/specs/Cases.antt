-- Cases that pin the definitions of Rows.antt, in ASCII bytes written out: numbers of each width, the first and the ninth line of document 01's listing, a line
-- whose fields all differ, the longest, leftover bytes, and a line put where there is just room for the longest and where there is a byte less. Assumes nothing.
use Rattle.std.specs.Prelude.{ℕ, ◌≡◌, Bool, true, false, List, [], ◌∷◌, ◌++◌, length, replicate}
use Rattle.rows.specs.Rows.{decimal, row_line, short_line, longest, ◌leaving◌, placed}
use Rattle.rows.specs.declared.Row.{Row}

-- a row's fields, in a line's order
abbrev pub row : ℕ → ℕ → ℕ → Bool → ℕ → ℕ → ℕ → ℕ → Row
row number kind answer rolling at0 at1 at2 at3 =
    record { number = number; kind = kind; answer = answer; rolling = rolling; at0 = at0; at1 = at1; at2 = at2; at3 = at3 }

-- `1 0 0 0 2 0 0 0` and the line's end
abbrev pub first_text : List ℕ
first_text = 49 ∷ 32 ∷ 48 ∷ 32 ∷ 48 ∷ 32 ∷ 48 ∷ 32 ∷ 50 ∷ 32 ∷ 48 ∷ 32 ∷ 48 ∷ 32 ∷ 48 ∷ 10 ∷ []

-- the claim: each definition gives what is written beside it
pub record CasesHold : Type 0 where
  pub zero_is : decimal 0 ≡ 48 ∷ []
  pub nine_is : decimal 9 ≡ 57 ∷ []
  pub ten_is : decimal 10 ≡ 49 ∷ 48 ∷ []
  pub two_digits : decimal 99 ≡ 57 ∷ 57 ∷ []
  pub hundred_is : decimal 100 ≡ 49 ∷ 48 ∷ 48 ∷ []
  pub byte_is : decimal 255 ≡ 50 ∷ 53 ∷ 53 ∷ []
  pub last_is : decimal 18446744073709551615
      ≡ 49 ∷ 56 ∷ 52 ∷ 52 ∷ 54 ∷ 55 ∷ 52 ∷ 52 ∷ 48 ∷ 55 ∷ 51 ∷ 55 ∷ 48 ∷ 57 ∷ 53 ∷ 53 ∷ 49 ∷ 54 ∷ 49 ∷ 53 ∷ []
  pub first_line : row_line (row 1 0 0 false 2 0 0 0) ≡ first_text
  pub ninth_line : row_line (row 9 4 10 true 0 0 2 0)
      ≡ 57 ∷ 32 ∷ 52 ∷ 32 ∷ 49 ∷ 48 ∷ 32 ∷ 49 ∷ 32 ∷ 48 ∷ 32 ∷ 48 ∷ 32 ∷ 50 ∷ 32 ∷ 48 ∷ 10 ∷ []
  pub each_place : row_line (row 2 3 4 true 5 6 7 8) ≡ 50 ∷ 32 ∷ 51 ∷ 32 ∷ 52 ∷ 32 ∷ 49 ∷ 32 ∷ 53 ∷ 32 ∷ 54 ∷ 32 ∷ 55 ∷ 32 ∷ 56 ∷ 10 ∷ []
  pub longest_is : length (row_line (row 18446744073709551615 255 255 true 255 255 255 255)) ≡ longest
  pub short_is : short_line 31 ≡ 115 ∷ 104 ∷ 111 ∷ 114 ∷ 116 ∷ 32 ∷ 51 ∷ 49 ∷ 10 ∷ []
  pub room : placed (replicate 50 7) 3 (row_line (row 1 0 0 false 2 0 0 0)) ≡ (19 leaving (7 ∷ 7 ∷ 7 ∷ first_text ++ replicate 31 7))
  pub no_room : placed (replicate 49 7) 3 (row_line (row 1 0 0 false 2 0 0 0)) ≡ (3 leaving replicate 49 7)
