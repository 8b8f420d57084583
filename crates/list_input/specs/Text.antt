-- What is printed of a journal that is read in blocks. Assumes nothing.
use Rattle.std.specs.Prelude.{ℕ, suc, ◌*◌, ◌/◌, ◌%◌, ◌≤◌, ◌≡◌, Bool, true, false, not, cond, Result, Ok, Err, List, [], ◌∷◌, ◌++◌, length}
use Rattle.octets.specs.Runs.{written}
use Rattle.rows.specs.Rows.{longest}
use Rattle.listing.specs.declared.Lister.{Lister}
use Rattle.listing.specs.Listing.{size, fresh_lister, lines_of, lister_past, tail_line, listing}

-- the whole records of some bytes
abbrev pub records : List ℕ → ℕ
records bytes = length bytes / size

-- the text of a block: a line for each whole record, and in the last block one for leftover bytes
unfoldable pub text_of : Lister → List ℕ → Bool → List ℕ
text_of at bytes last = lines_of (records bytes) at bytes ++ tail_line (cond last (length bytes % size) 0)

-- whether the input has ended, by what is told of it: that, or the error of a read that failed, which is no end
abbrev pub is_end : {E : Type 0} → Result Bool E → Bool
is_end (Ok end) = end
is_end (Err error) = false

-- whether there is more to read; an error stays one
abbrev pub goes_on : {E : Type 0} → Result Bool E → Result Bool E
goes_on (Ok end) = Ok (not end)
goes_on (Err error) = Err error

-- how far a block was filled: if there is more to read, to its end
abbrev pub FilledTo : {E : Type 0} → Result Bool E → ℕ → List ℕ → Type 0
FilledTo (Ok false) count block = count ≡ length block
FilledTo (Ok true) count block = Unit {0}
FilledTo (Err error) count block = Unit {0}

-- whole records
abbrev pub Whole : List ℕ → Type 0
Whole bytes = length bytes % size ≡ 0

-- an output has room for the longest line of each record of a block, and for one line more
abbrev pub Roomy : List ℕ → List ℕ → Type 0
Roomy bytes output = suc (records bytes) * longest ≤ length output

-- the text of a block was put into an output: the lister after it, where it ends, and what the output holds then
pub record PutOf (before : Lister) (bytes : List ℕ) (last : Bool) (output : List ℕ) (after : Lister) (end : ℕ) (now : List ℕ) : Type 0 where
  pub lister : after ≡ lister_past (records bytes) before bytes
  pub holds : now ≡ written output 0 (text_of before bytes last)
  pub ends : end ≡ length (text_of before bytes last)
  pub within : end ≤ length now

-- ---- the whole journal

-- blocks of whole records, and the last block behind them
abbrev pub AllWhole : List (List ℕ) → Type 0
AllWhole [] = Unit {0}
AllWhole (block ∷ blocks) = Whole block × AllWhole blocks

-- the bytes of them all
abbrev pub joined : List (List ℕ) → List ℕ → List ℕ
joined [] last = last
joined (block ∷ blocks) last = block ++ joined blocks last

-- their texts, one behind the other; each block finds the lister that the one before left
unfoldable pub printed : Lister → List (List ℕ) → List ℕ → List ℕ
printed at [] last = text_of at last true
printed at (block ∷ blocks) last = text_of at block false ++ printed (lister_past (records block) at block) blocks last

-- the claim: however a journal is cut into blocks, what is printed is its listing
abbrev pub PrintsListing : Type 0
PrintsListing = (blocks : List (List ℕ)) (last : List ℕ) → AllWhole blocks → printed fresh_lister blocks last ≡ listing (joined blocks last)
