-- What the function that lists one record says of it. Assumes nothing.
use Rattle.std.specs.Prelude.{◌≡◌, ℕ, ◌≤◌, List, length}
use Rattle.rows.specs.Rows.{row_line, longest, ◌leaving◌, placed}
use Rattle.listing.specs.declared.Lister.{Lister}
use Rattle.listing.specs.Listing.{row_of, lister_after}

-- a record was listed into an output from a place on: the lister after it, where its line ends, and what the output holds then
pub record PutOf (before : Lister) (bytes output : List ℕ) (at : ℕ) (after : Lister) (end : ℕ) (now : List ℕ) : Type 0 where
  pub lister : after ≡ lister_after before bytes
  pub line : (end leaving now) ≡ placed output at (row_line (row_of before bytes))
  pub short : length (row_line (row_of before bytes)) ≤ longest
