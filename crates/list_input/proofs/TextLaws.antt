-- What stands in the output is the text of a block. Assumes nothing.
use Rattle.std.proofs.Common.{ℕ, ◌+◌, ◌*◌, ◌%◌, ◌≤◌, ◌<◌, ◌≡◌, sym, ap, ◌∙◌, Bool, cond, List, ◌++◌, append-nil, arith, ne_eqb, length, length-append}
use native.Mathlib.Nat.{min-eq_left}
use Rattle.octets.specs.Runs.{written}
use Rattle.octets.proofs.RunLaws.{length_written}
use Rattle.rows.specs.Rows.{short_line, longest, ◌leaving◌, placed}
use Rattle.rows.proofs.RowLaws.{short_fits}
use Rattle.listing.specs.declared.Lister.{Lister}
use Rattle.listing.specs.declared.Listed.{Listed}
use Rattle.listing.specs.Answers.{block_of}
use Rattle.listing.specs.Listing.{size, lines_of, lister_past, tail_line, room, Block, listed}
use Rattle.listing.proofs.ListLaws.{behind}
use Rattle.list_input.specs.Text.{records, text_of, Roomy, PutOf}

-- ---- what stands in the output

-- there is room for every record
whole : (bytes output : List ℕ) → Roomy bytes output → room bytes output ≡ records bytes
whole bytes output roomy = min-eq_left (omega arith)

module _ (at : Lister) (bytes before : List ℕ) (roomy : Roomy bytes before) where
  -- the lines of every record, where they end, and the lister after them
  record Lines (r : Listed) (after : Lister) (output : List ℕ) : Type 0 where
    pub past : after ≡ lister_past (records bytes) at bytes
    pub holds : output ≡ written before 0 (lines_of (records bytes) at bytes)
    pub ends : r.end ≡ length (lines_of (records bytes) at bytes)
    pub within : r.end + longest ≤ length before

  lines_stand : (r : Listed) (after : Lister) (output : List ℕ) → (block_of r after output ≡ listed at bytes before) × (r.end ≤ r.records * longest) → Lines r after output
  unfolding listed
  lines_stand r after output h =
      let e = h.0 in
      let n = whole bytes before roomy in
      let ends : r.end ≡ length (lines_of (records bytes) at bytes) = ap (λ (x : Block). x.end) e ∙ ap (λ (k : ℕ). length (lines_of k at bytes)) n in
      record {
        past = ap (λ (x : Block). x.lister) e ∙ ap (λ (k : ℕ). lister_past k at bytes) n;
        holds = ap (λ (x : Block). x.output) e ∙ ap (λ (k : ℕ). written before 0 (lines_of k at bytes)) n;
        ends = ends;
        within = omega (arith, h.1, ap (λ (x : Block). x.records) e ∙ n);
      }

  -- nothing is left over
  pub put_lines : (r : Listed) (after : Lister) (output : List ℕ) (last : Bool) (left : ℕ) → (block_of r after output ≡ listed at bytes before) × (r.end ≤ r.records * longest)
      → (left ≡ cond last (length bytes % size) 0) × (left < size) → left ≡ 0
      → PutOf at bytes last before after r.end output
  unfolding text_of
  put_lines r after output last left e l none =
      let stand = lines_stand r after output e in
      let lines = lines_of (records bytes) at bytes in
      let text : lines ≡ text_of at bytes last = sym (append-nil lines) ∙ ap (λ (k : ℕ). lines ++ tail_line k) (sym none ∙ l.0) in
      let long : length output ≡ length before = ap length stand.holds ∙ length_written before 0 lines in
      record {
        lister = stand.past;
        holds = stand.holds ∙ ap (λ (x : List ℕ). written before 0 x) text;
        ends = stand.ends ∙ ap length text;
        within = omega (arith, stand.within);
      }

  -- the line of what is left over, behind the others
  pub put_tail : (r : Listed) (after : Lister) (output now : List ℕ) (last : Bool) (left end : ℕ) → (block_of r after output ≡ listed at bytes before) × (r.end ≤ r.records * longest)
      → (left ≡ cond last (length bytes % size) 0) × (left < size) → (left ≡ 0 → ⊥)
      → end leaving now ≡ placed output r.end (short_line left)
      → PutOf at bytes last before after end now
  unfolding text_of
  put_tail r after output now last left end e l some p =
      let stand = lines_stand r after output e in
      let lines = lines_of (records bytes) at bytes in
      let line = short_line left in
      let short : length line ≤ longest = short_fits left (omega (arith, l.1)) in
      let b = behind before output now lines line r.end end stand.holds stand.ends stand.within short p in
      let text : lines ++ line ≡ text_of at bytes last = ap (λ (x : List ℕ). lines ++ x) (rw (ne_eqb left 0 some)) ∙ ap (λ (k : ℕ). lines ++ tail_line k) l.0 in
      let long : length now ≡ length before = ap length b.0 ∙ length_written before 0 (lines ++ line) in
      record {
        lister = stand.past;
        holds = b.0 ∙ ap (λ (x : List ℕ). written before 0 x) text;
        ends = b.1 ∙ ap length text;
        within = omega (arith, long, b.1, length-append lines line, stand.ends, stand.within, short);
      }
