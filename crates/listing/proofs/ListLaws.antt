-- The lines of one record more, and what the loop holds after each. Assumes nothing.
use Rattle.std.proofs.Common.{Result, ◌≡◌, ℕ, zero, suc, ◌+◌, ◌*◌, ◌/◌, ◌%◌, ◌^◌, ◌<◌, ◌≤◌, min, Bool, ◌&&◌, eqb, List, [], ◌++◌, length, get_or, take, drop, sym, refl, ap, ◌∙◌, subst, ap₂, append_assoc, append-nil, add-one, arith, length-append, length-take-le, drop-drop, le-leb, get_or-take}
use Rattle.std.specs.Simd.{first_chunks}
use native.Mathlib.Nat.{min-le_left, min-le_right}
use Rattle.octets.specs.Runs.{written, fits}
use Rattle.octets.proofs.RunLaws.{written_next, length_written}
use Rattle.stages.proofs.BelowLaws.{count_most}
use Rattle.stages.specs.Sets.{member_limit}
use Rattle.stages.specs.Stages.{count_at, is_present, stage_of}
use Rattle.stages.specs.declared.Stages.{Stages}
use Rattle.ledger.specs.Answers.{answer_number}
use Rattle.ledger.specs.declared.Ledger.{Ledger}
use Rattle.ledger.specs.declared.Refusal.{Refusal}
use Rattle.ledger.specs.Journal.{read_step}
use Rattle.ledger.specs.Ledger.{Outcome, ◌leaving◌, stepped}
use Rattle.ledger.specs.Rules.{wait}
use Rattle.ledger.specs.Run.{offered}
use Rattle.rows.proofs.RowLaws.{placed_room, row_fits}
use Rattle.rows.specs.declared.Row.{Row}
use Rattle.rows.specs.Rows as rows
use Rattle.rows.specs.Rows.{row_line, placed, longest}
use Rattle.listing.specs.declared.Lister.{Lister}
use Rattle.listing.specs.Listing.{row_after, row_of, lister_after, lines_of, lister_past, room, Block, listed}
use Rattle.listing.specs.Steps.{PutOf}

-- ---- one record

-- how many members are at a stage is a number of 8 bits
pub count_fits : (r : ℕ) (present : ℕ → Bool) (stage : ℕ → ℕ) (k : ℕ) → r ≡ count_at present stage k → r < 256
count_fits r present stage k e = omega (arith, count_most member_limit (λ m. present m && eqb (stage m) k))

abbrev row_with : ℕ → ℕ → ℕ → Bool → ℕ → ℕ → ℕ → ℕ → Row
row_with number kind answer rolling c0 c1 c2 c3 = record { number = number; kind = kind; answer = answer; rolling = rolling; at0 = c0; at1 = c1; at2 = c2; at3 = c3 }

pub row_is : (number kind answer : ℕ) (rolling : Bool) (s : Stages) (c0 c1 c2 c3 : ℕ) → number < 2 ^ 64 → kind < 256 → answer < 256
    → c0 ≡ count_at (is_present s) (stage_of s) 0 → c1 ≡ count_at (is_present s) (stage_of s) 1
    → c2 ≡ count_at (is_present s) (stage_of s) 2 → c3 ≡ count_at (is_present s) (stage_of s) 3
    → (◌≡◌ {A = Row} (row_with number kind answer rolling c0 c1 c2 c3)
    (row_with number kind answer rolling (count_at (is_present s) (stage_of s) 0) (count_at (is_present s) (stage_of s) 1) (count_at (is_present s) (stage_of s) 2) (count_at (is_present s) (stage_of s) 3)))
    × (length (row_line (row_with number kind answer rolling c0 c1 c2 c3)) ≤ longest)
row_is number kind answer rolling s c0 c1 c2 c3 n k a e0 e1 e2 e3 = (
  λ i. row_with number kind answer rolling (e0 i) (e1 i) (e2 i) (e3 i),
  row_fits (row_with number kind answer rolling c0 c1 c2 c3) n k a (count_fits c0 (is_present s) (stage_of s) 0 e0) (count_fits c1 (is_present s) (stage_of s) 1 e1)
      (count_fits c2 (is_present s) (stage_of s) 2 e2) (count_fits c3 (is_present s) (stage_of s) 3 e3),
)

row_of_same : (before : Lister) (bytes : List ℕ) (number kind : ℕ) (o : Outcome) → number ≡ (before.number + 1) % 2 ^ 64 → kind ≡ get_or bytes 0 0 → o ≡ offered wait before.ledger bytes
    → row_after number kind o ≡ row_of before bytes
unfolding row_of
row_of_same before bytes number kind o n k e = λ i. row_after (n i) (k i) (e i)

-- the record listed: the ledger that its step left, the number after, and its line
pub put_is : (before : Lister) (came : Result Unit Refusal) (after : Ledger) (row : Row) (bytes output now : List ℕ) (at end number answer : ℕ)
    → answer_number came leaving after ≡ stepped wait before.ledger (read_step bytes)
    → number ≡ (before.number + 1) % 2 ^ 64
    → answer ≡ answer_number came
    → (row ≡ row_after number (get_or bytes 0 0) (answer leaving after)) × (length (row_line row) ≤ longest)
    → rows.◌leaving◌ end now ≡ placed output at (row_line row)
    → PutOf before bytes output at (record { ledger = after; number = number }) end now
unfolding lister_after
put_is before came after row bytes output now at end number answer e n a r p =
    let is : (answer leaving after) ≡ offered wait before.ledger bytes = ap (λ (x : ℕ). x leaving after) a ∙ e in
    let same : row ≡ row_of before bytes = r.0 ∙ row_of_same before bytes number (get_or bytes 0 0) (answer leaving after) n refl is in
    record {
      lister = λ i. record { ledger = (e i).ledger; number = n i };
      line = p ∙ ap (λ (x : Row). placed output at (row_line x)) same;
      short = subst (λ (x : Row). length (row_line x) ≤ longest) same r.1;
    }

-- ---- the lines of one record more

block_next : (n : ℕ) (bytes : List ℕ) → drop (n * 32) (drop 32 bytes) ≡ drop (suc n * 32) bytes
block_next n bytes =
    let e : 32 + n * 32 ≡ suc n * 32 = omega arith in
    drop-drop (n * 32) 32 bytes ∙ ap (λ (k : ℕ). drop k bytes) e

lines_next : (n : ℕ) (at : Lister) (bytes : List ℕ) → lines_of (suc n) at bytes ≡ lines_of n at bytes ++ row_line (row_of (lister_past n at bytes) (take 32 (drop (n * 32) bytes)))
unfolding lines_of lister_past
lines_next zero at bytes = append-nil _
lines_next (suc n) at bytes =
    let first = take 32 bytes in
    ap (λ (x : List ℕ). row_line (row_of at first) ++ x) (lines_next n (lister_after at first) (drop 32 bytes))
    ∙ sym (append_assoc (row_line (row_of at first)) (lines_of n (lister_after at first) (drop 32 bytes)) _)
    ∙ ap (λ (x : List ℕ). (row_line (row_of at first) ++ lines_of n (lister_after at first) (drop 32 bytes)) ++ row_line (row_of (lister_past n (lister_after at first) (drop 32 bytes)) (take 32 x))) (block_next n bytes)

past_next : (n : ℕ) (at : Lister) (bytes : List ℕ) → lister_past (suc n) at bytes ≡ lister_after (lister_past n at bytes) (take 32 (drop (n * 32) bytes))
unfolding lister_past
past_next zero at bytes = refl
past_next (suc n) at bytes =
    let first = take 32 bytes in
    past_next n (lister_after at first) (drop 32 bytes)
    ∙ ap (λ (x : List ℕ). lister_after (lister_past n (lister_after at first) (drop 32 bytes)) (take 32 x)) (block_next n bytes)

-- ---- the loop

-- after i records: the lister, where their lines end, and what the output holds
pub record Sofar (at : Lister) (block before output : List ℕ) (lister : Lister) (end i : ℕ) : Type 0 where
  pub past : lister ≡ lister_past i at block
  pub holds : output ≡ written before 0 (lines_of i at block)
  pub ends : end ≡ length (lines_of i at block)
  pub within : end ≤ i * longest

-- the records as the code cuts them, and those of them that are listed
record_at_lem : (k i : ℕ) (block : List ℕ) → i < k → get_or (first_chunks 32 k block) i [] ≡ take 32 (drop (i * 32) block)
record_at_lem zero i block h = absurd (omega arith)
record_at_lem (suc k) zero block h = refl
record_at_lem (suc k) (suc i) block h = record_at_lem k i (drop 32 block) (omega arith) ∙ ap (take 32) (block_next i block)

module _ (block output : List ℕ) (chunks : List (List ℕ)) (records : ℕ) (cut : chunks ≡ first_chunks 32 (length block / 32) block)
    (many : length chunks ≡ length block / 32) (r : records ≡ min (length chunks) (length output / longest)) where
  in_room : records ≡ room block output
  in_room = r ∙ ap (λ (k : ℕ). min k (length output / longest)) many

  taken : length (take records chunks) ≡ records
  taken = length-take-le records chunks (omega (arith, min-le_left (length chunks) (length output / longest)))

  module _ (i : ℕ) (less : i < length (take records chunks)) where
    this_record : get_or (take records chunks) i [] ≡ take 32 (drop (i * 32) block)
    this_record =
        get_or-take records chunks i [] (omega (arith, taken))
        ∙ ap (λ (x : List (List ℕ)). get_or x i []) cut
        ∙ record_at_lem (length block / 32) i block (omega (arith, taken, many, min-le_left (length chunks) (length output / longest)))

    room_for : i * longest + longest ≤ length output
    room_for = omega (arith, taken, min-le_right (length chunks) (length output / longest))

pub none_yet : (at : Lister) (block output : List ℕ) → Sofar at block output output at 0 0
unfolding lines_of lister_past written fits
none_yet at block output = record { past = refl; holds = rw (le-leb 0 (length output) (omega arith)); ends = refl; within = omega arith }

-- a line behind others
pub behind : (before output now lines text : List ℕ) (end next : ℕ) → output ≡ written before 0 lines → end ≡ length lines → end + longest ≤ length before → length text ≤ longest
    → rows.◌leaving◌ next now ≡ placed output end text → (now ≡ written before 0 (lines ++ text)) × (next ≡ length (lines ++ text))
behind before output now lines text end next o e room short p =
    let long : length output ≡ length before = ap length o ∙ length_written before 0 lines in
    let there = p ∙ placed_room output end text (omega arith) in
    let ends : next ≡ end + length text = ap (λ (x : rows.Placed). x.end) there in
    let holds : now ≡ written output end text = ap (λ (x : rows.Placed). x.buffer) there in
    let at : end ≡ 0 + length lines = omega arith in
    (holds ∙ ap₂ (λ (x : List ℕ) (k : ℕ). written x k text) o at ∙ written_next before 0 lines text (omega arith), omega (arith, length-append lines text))

pub one_more : (at lister after : Lister) (block before output now : List ℕ) (chunks : List (List ℕ)) (end next records i : ℕ)
    → chunks ≡ first_chunks 32 (length block / 32) block → length chunks ≡ length block / 32
    → records ≡ min (length chunks) (length before / longest) → i < length (take records chunks)
    → Sofar at block before output lister end i → PutOf lister (get_or (take records chunks) i []) output end after next now
    → Sofar at block before now after next (i + 1)
one_more at lister after block before output now chunks end next records i cut many r less so put =
    let bytes = get_or (take records chunks) i [] in
    let there : bytes ≡ take 32 (drop (i * 32) block) = this_record block before chunks records cut many r i less in
    let line = row_line (row_of lister bytes) in
    let same : line ≡ row_line (row_of (lister_past i at block) (take 32 (drop (i * 32) block))) = ap₂ (λ (x : Lister) (y : List ℕ). row_line (row_of x y)) so.past there in
    let lines : lines_of (suc i) at block ≡ lines_of i at block ++ line = lines_next i at block ∙ ap (λ (x : List ℕ). lines_of i at block ++ x) (sym same) in
    let fit = room_for block before chunks records cut many r i less in
    let b = behind before output now (lines_of i at block) line end next so.holds so.ends (omega (arith, so.within)) put.short put.line in
    let far : length (lines_of i at block ++ line) ≡ length (lines_of i at block) + length line = length-append (lines_of i at block) line in
    subst (λ (k : ℕ). Sofar at block before now after next k) (sym (add-one i)) (record {
      past = put.lister ∙ ap₂ (λ (x : Lister) (y : List ℕ). lister_after x y) so.past there ∙ sym (past_next i at block);
      holds = b.0 ∙ ap (λ (x : List ℕ). written before 0 x) (sym lines);
      ends = b.1 ∙ ap length (sym lines);
      within = omega (arith, so.within, so.ends, put.short, b.1, far);
    })

pub all_listed : (at lister : Lister) (block before output : List ℕ) (chunks : List (List ℕ)) (end records i : ℕ)
    → chunks ≡ first_chunks 32 (length block / 32) block → length chunks ≡ length block / 32
    → records ≡ min (length chunks) (length before / longest) → i ≤ length (take records chunks) → length (take records chunks) ≤ i
    → Sofar at block before output lister end i
    → (◌≡◌ {A = Block} (record { records = records; end = end; lister = lister; output = output }) (listed at block before)) × (end ≤ records * longest)
unfolding listed
all_listed at lister block before output chunks end records i cut many r low high so =
    let n : records ≡ room block before = in_room block before chunks records cut many r in
    let e : i ≡ room block before = omega (arith, n, taken block before chunks records cut many r) in
    let all = subst (λ (k : ℕ). Sofar at block before output lister end k) e so in
    (λ j. record { records = n j; end = all.ends j; lister = all.past j; output = all.holds j }, omega (arith, n, all.within))
