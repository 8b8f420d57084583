-- The listing of a journal: document 01, "Sides of each line" ("The journal lister reads standard input and prints per record ..; leftover bytes at the end give a line `short` and
-- their number"). What is said of a record is crate rows' `Row`; here is what goes into it. Assumes nothing.
use Rattle.std.specs.Prelude.{ℕ, zero, suc, ◌+◌, ◌/◌, ◌%◌, ◌^◌, min, cond, List, [], ◌++◌, length, take, drop, ◌==◌, slice_index}
use Rattle.octets.specs.Runs.{written}
use Rattle.stages.specs.Stages.{count_at}
use Rattle.ledger.specs.Ledger.{view_of, fresh_ledger, Outcome}
use Rattle.ledger.specs.Rules.{wait}
use Rattle.ledger.specs.Run.{offered}
use Rattle.rows.specs.declared.Row.{Row}
use Rattle.rows.specs.Rows.{row_line, short_line, longest}
use Rattle.listing.specs.declared.Lister.{Lister}

-- bytes of a record
abbrev pub size : ℕ
size = 32

-- before the first record: a fresh ledger, and none listed
unfoldable pub fresh_lister : Lister
fresh_lister = record { ledger = fresh_ledger; number = 0 }

-- the number of the next record, of 64 bits
abbrev pub next : Lister → ℕ
next at = (at.number + 1) % 2 ^ 64

-- what is said of a record by its number, its kind and what came of it: the answer, and of the ledger afterwards whether a rollover is open and how many members are
-- at each stage
abbrev pub row_after : ℕ → ℕ → Outcome → Row
row_after number kind after =
    let v = view_of after.ledger in
    record {
      number = number;
      kind = kind;
      answer = after.answer;
      rolling = v.rolling;
      at0 = count_at v.present v.stage 0;
      at1 = count_at v.present v.stage 1;
      at2 = count_at v.present v.stage 2;
      at3 = count_at v.present v.stage 3;
    }

-- what is said of the next record
unfoldable pub row_of : Lister → List ℕ → Row
row_of at bytes = row_after (next at) (slice_index bytes 0) (offered wait at.ledger bytes)

-- the lister after it
unfoldable pub lister_after : Lister → List ℕ → Lister
lister_after at bytes = record { ledger = (offered wait at.ledger bytes).ledger; number = next at }

-- the lines of the first n records of some bytes
unfoldable pub lines_of : ℕ → Lister → List ℕ → List ℕ
lines_of zero at bytes = []
lines_of (suc n) at bytes = row_line (row_of at (take size bytes)) ++ lines_of n (lister_after at (take size bytes)) (drop size bytes)

-- the lister after them
unfoldable pub lister_past : ℕ → Lister → List ℕ → Lister
lister_past zero at bytes = at
lister_past (suc n) at bytes = lister_past n (lister_after at (take size bytes)) (drop size bytes)

-- a line for leftover bytes, if there are any
abbrev pub tail_line : ℕ → List ℕ
tail_line count = cond (count == 0) [] (short_line count)

-- the rest of a journal: a line for each whole record, and one for leftover bytes
unfoldable pub listing_from : Lister → List ℕ → List ℕ
listing_from at bytes = lines_of (length bytes / size) at bytes ++ tail_line (length bytes % size)

-- a whole journal
abbrev pub listing : List ℕ → List ℕ
listing bytes = listing_from fresh_lister bytes

-- ---- a block of a journal listed into a buffer

-- the records that are listed: the whole ones, as far as there is room for the longest line of each
abbrev pub room : List ℕ → List ℕ → ℕ
room bytes output = min (length bytes / size) (length output / longest)

-- how many records were listed, where their lines end, the lister afterwards, and what the output holds
pub record Block : Type 0 where
  pub records : ℕ
  pub end : ℕ
  pub lister : Lister
  pub output : List ℕ

-- a block
unfoldable pub listed : Lister → List ℕ → List ℕ → Block
listed at bytes output =
    let n = room bytes output in
    let text = lines_of n at bytes in
    record { records = n; end = length text; lister = lister_past n at bytes; output = written output 0 text }
