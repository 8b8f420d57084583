-- Cases that pin the definitions of Numbers.antt, Runs.antt and Refusals.antt, bytes and numbers written out (`FirstIs` and `NoneApplies` are tied to `first`
-- by laws, both ways). The number is the timestamp of RFC 9018's first vector
-- (P1 of document 01), the word that of the key in the SipHash paper, appendix A. Assumes nothing.
use Rattle.std.specs.Prelude.{◌≡◌, true, false, List, [], ◌∷◌, ℕ, suc, replicate, Some, None, ◌+◌, ◌<◌, ◌≤◌, length, take, drop, get_or}
use Rattle.std.proofs.Math.Option.{none, some}
use Rattle.octets.specs.Numbers.{le_number, le_bytes, be_number, be_bytes, printed, be16_at, be32_at, be64_at}
use Rattle.octets.specs.Refusals.{Row, ◌when◌, first, answered, is_none}
use Rattle.octets.specs.Runs.{bytes_at, part_end, same_run, fits, written}

-- what is read from a place on, for every run and place
pub record ReadsHold : Type 0 where
  -- as many bytes as are asked for, each of them the one at its place, and within the run a part of it
  pub so_many : (n : ℕ) (s : List ℕ) (at : ℕ) → length (bytes_at n s at) ≡ n
  pub each_byte : (n : ℕ) (s : List ℕ) (at k : ℕ) → k < n → get_or (bytes_at n s at) k 0 ≡ get_or s (at + k) 0
  pub within : (n : ℕ) (s : List ℕ) (at : ℕ) → at + n ≤ length s → bytes_at n s at ≡ take n (drop at s)
  -- the number at a place is that of the bytes there
  pub of_two : (s : List ℕ) (at : ℕ) → be16_at s at ≡ be_number (bytes_at 2 s at)
  pub of_four : (s : List ℕ) (at : ℕ) → be32_at s at ≡ be_number (bytes_at 4 s at)
  pub of_eight : (s : List ℕ) (at : ℕ) → be64_at s at ≡ be_number (bytes_at 8 s at)
  -- a part ends behind its length and so many bytes, if the run has them all, and otherwise nowhere
  pub part_ends : (s : List ℕ) (at : ℕ) → at + 2 + be16_at s at ≤ length s → part_end s at ≡ Some (at + 2 + be16_at s at)
  pub part_lacks : (s : List ℕ) (at : ℕ) → length s < at + 2 + be16_at s at → part_end s at ≡ None

-- the claim: each definition gives what is written beside it
pub record CasesHold : Type 0 where
  pub be_number_case : be_number (0x5c ∷ 0xf7 ∷ 0x9f ∷ 0x11 ∷ []) ≡ 1559731985
  pub be_bytes_case : be_bytes 4 1559731985 ≡ 0x5c ∷ 0xf7 ∷ 0x9f ∷ 0x11 ∷ []
  pub le_number_case : le_number (0x00 ∷ 0x01 ∷ 0x02 ∷ 0x03 ∷ 0x04 ∷ 0x05 ∷ 0x06 ∷ 0x07 ∷ []) ≡ 0x0706050403020100
  pub le_bytes_case : le_bytes 8 0x0706050403020100 ≡ 0x00 ∷ 0x01 ∷ 0x02 ∷ 0x03 ∷ 0x04 ∷ 0x05 ∷ 0x06 ∷ 0x07 ∷ []
  pub as_printed : printed 4 0x005cf79f ≡ 0x00 ∷ 0x5c ∷ 0xf7 ∷ 0x9f ∷ []
  pub misprinted : printed 3 0x5cf79f11 ≡ []
  pub be16_at_case : be16_at (1 ∷ 2 ∷ 3 ∷ []) 1 ≡ 0x0203
  pub be16_past : be16_at (1 ∷ 2 ∷ 3 ∷ []) 2 ≡ 0x0300
  pub be32_at_case : be32_at (9 ∷ 1 ∷ 2 ∷ 3 ∷ 4 ∷ 9 ∷ []) 1 ≡ 0x01020304
  pub be64_at_case : be64_at (9 ∷ 1 ∷ 2 ∷ 3 ∷ 4 ∷ 5 ∷ 6 ∷ 7 ∷ 8 ∷ 9 ∷ []) 1 ≡ 0x0102030405060708
  pub bytes_inside : bytes_at 2 (1 ∷ 2 ∷ 3 ∷ 4 ∷ []) 1 ≡ 2 ∷ 3 ∷ []
  pub bytes_past : bytes_at 3 (1 ∷ 2 ∷ 3 ∷ 4 ∷ []) 3 ≡ 4 ∷ 0 ∷ 0 ∷ []
  pub part_to_end : part_end (9 ∷ 0 ∷ 2 ∷ 7 ∷ 8 ∷ []) 1 ≡ Some 5
  pub part_empty : part_end (9 ∷ 0 ∷ 0 ∷ []) 1 ≡ Some 3
  pub part_long : part_end (1 ∷ 2 ∷ replicate 258 7) 0 ≡ Some 260
  pub part_long_past : part_end (1 ∷ 2 ∷ replicate 257 7) 0 ≡ None
  pub length_past : part_end (0 ∷ 0 ∷ 0 ∷ []) 2 ≡ None
  pub same_bytes : same_run (1 ∷ 2 ∷ []) (1 ∷ 2 ∷ []) ≡ true
  pub last_differs : same_run (1 ∷ 2 ∷ []) (1 ∷ 3 ∷ []) ≡ false
  pub shorter : same_run (1 ∷ []) (1 ∷ 2 ∷ []) ≡ false
  pub put_inside : written (1 ∷ 2 ∷ 3 ∷ 4 ∷ []) 1 (8 ∷ 9 ∷ []) ≡ 1 ∷ 8 ∷ 9 ∷ 4 ∷ []
  pub put_to_end : written (1 ∷ 2 ∷ 3 ∷ 4 ∷ []) 2 (8 ∷ 9 ∷ []) ≡ 1 ∷ 2 ∷ 8 ∷ 9 ∷ []
  pub put_past : written (1 ∷ 2 ∷ 3 ∷ 4 ∷ []) 3 (8 ∷ 9 ∷ []) ≡ 1 ∷ 2 ∷ 3 ∷ 4 ∷ []
  pub fits_to_end : fits (1 ∷ 2 ∷ 3 ∷ 4 ∷ []) 2 (8 ∷ 9 ∷ []) ≡ true
  pub fits_past : fits (1 ∷ 2 ∷ 3 ∷ 4 ∷ []) 3 (8 ∷ 9 ∷ []) ≡ false
  pub first_wins : first (2 when true ∷ 10 when true ∷ []) ≡ 2
  pub second_alone : first (2 when false ∷ 10 when true ∷ []) ≡ 10
  pub first_row : (n : ℕ) (rows : List Row) → first (n when true ∷ rows) ≡ n
  pub later_row : (n : ℕ) (rows : List Row) → first (n when false ∷ rows) ≡ first rows
  pub none_applies : first (2 when false ∷ 10 when false ∷ []) ≡ 0
  pub no_refusal : (refused : ℕ → ℕ) (found : ℕ) → answered refused 0 found ≡ found
  pub a_refusal : (refused : ℕ → ℕ) (n found : ℕ) → answered refused (suc n) found ≡ refused (suc n)
  pub nothing_there : is_none {A = ℕ} none ≡ true
  pub there : (n : ℕ) → is_none (some n) ≡ false
