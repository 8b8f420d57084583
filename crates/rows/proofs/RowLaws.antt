-- Parts put one after the other are a line, which has room. Assumes nothing.
use mathlib.Core.Path.{◌≡◌, refl, sym, ap, ap₂, ◌∙◌}
use mathlib.Core.Bool.{cond}
use mathlib.Core.List.{List, [], ◌∷◌, ◌++◌, append_assoc}
use Prim.Native.Nat.{ℕ, suc, ◌+◌, ◌-◌, ◌^◌, ◌≤◌, ◌<◌}
use native.Mathlib.Omega.{arith}
use borrow.Author.Tests.{le-leb, lt-leb}
use lib.ListN.{length, length-append}
use Rattle.octets.specs.Runs.{written}
use Rattle.octets.proofs.RunLaws.{length_written, written_next}
use Rattle.rows.specs.Rows.{decimal, line, row_line, short_line, longest, ◌leaving◌, placed}
use Rattle.rows.specs.Steps.{Put}
use Rattle.rows.specs.declared.Row.{Row}
use Rattle.rows.proofs.DigitLaws.{bit_below, length_below}

-- ---- parts

module _ {m n : ℕ} {a b c : List ℕ} {at mid end : ℕ} where
  -- two parts, one after the other
  put_next : {x y : List ℕ} → Put m a at x mid b → Put n b mid y end c → at + (m + n) ≤ length a → Put (m + n) a at (x ++ y) end c
  put_next {x} {y} first second room =
      record {
        ends = omega (arith, length-append x y);
        within = omega arith;
        holds =
            second.holds
            ∙ ap₂ (λ (l : List ℕ) (k : ℕ). written l k y) first.holds first.ends
            ∙ written_next a at x y (omega arith);
      }

  -- a number, a space, and the rest of the line
  line_next : (x y : ℕ) (rest : List ℕ) → Put m a at (decimal x ++ (32 ∷ [])) mid b → Put n b mid (line (y ∷ rest)) end c
      → at + (m + n) ≤ length a → Put (m + n) a at (line (x ∷ y ∷ rest)) end c
  unfolding line
  line_next x y rest first second room = rw (← append_assoc (decimal x) (32 ∷ []) (line (y ∷ rest))) (put_next first second room)

-- the buffer is as long as before
as_long : {m : ℕ} {a b : List ℕ} {at end : ℕ} {x : List ℕ} → Put m a at x end b → length b ≡ length a
as_long {m} {a} {b} {at} {end} {x} put = ap length put.holds ∙ length_written a at x

pub counts_put : (a b c d e : List ℕ) (at p q r s at0 at1 at2 at3 : ℕ) → at + 16 ≤ length a
    → Put 4 a at (decimal at0 ++ (32 ∷ [])) p b → Put 4 b p (decimal at1 ++ (32 ∷ [])) q c
    → Put 4 c q (decimal at2 ++ (32 ∷ [])) r d → Put 4 d r (decimal at3 ++ (10 ∷ [])) s e
    → Put 16 a at (line (at0 ∷ at1 ∷ at2 ∷ at3 ∷ [])) s e
unfolding line
counts_put a b c d e at p q r s at0 at1 at2 at3 room h0 h1 h2 h3 =
    let l1 = as_long h0 in
    let l2 = as_long h1 in
    let third = line_next at2 at3 [] h2 h3 (omega arith) in
    let second = line_next at1 at2 (at3 ∷ []) h1 third (omega arith) in
    line_next at0 at1 (at2 ∷ at3 ∷ []) h0 second room

-- ---- a line

module _ (buffer : List ℕ) (at : ℕ) (text : List ℕ) where
  -- without room nothing is put
  pub placed_not : length buffer < at + longest → at leaving buffer ≡ placed buffer at text
  unfolding placed
  placed_not short = rw (lt-leb (at + longest) (length buffer) short)

  pub placed_room : at + longest ≤ length buffer → placed buffer at text ≡ (at + length text leaving written buffer at text)
  unfolding placed
  placed_room room = rw (le-leb (at + longest) (length buffer) room)

  put_placed : (m end : ℕ) (after : List ℕ) → at + longest ≤ length buffer → Put m buffer at text end after → end leaving after ≡ placed buffer at text
  put_placed m end after room put = ap₂ (λ (k : ℕ) (l : List ℕ). k leaving l) put.ends put.holds ∙ sym (placed_room room)

-- the two tests for room
pub no_room : (buffer : List ℕ) (at : ℕ) (text : List ℕ) → length buffer < longest → at leaving buffer ≡ placed buffer at text
no_room buffer at text short = placed_not buffer at text (omega arith)

pub no_room_there : (buffer : List ℕ) (at : ℕ) (text : List ℕ) → longest ≤ length buffer → length buffer - longest < at
    → at leaving buffer ≡ placed buffer at text
no_room_there buffer at text some there = placed_not buffer at text (omega arith)

module _ (a : List ℕ) (at : ℕ) (some : longest ≤ length a) (there : at ≤ length a - longest) where
  pub row_put : (w : Row) (b c d e f : List ℕ) (p q r s end : ℕ)
      → Put 21 a at (decimal w.number ++ (32 ∷ [])) p b → Put 4 b p (decimal w.kind ++ (32 ∷ [])) q c
      → Put 4 c q (decimal w.answer ++ (32 ∷ [])) r d → Put 2 d r (decimal (cond w.rolling 1 0) ++ (32 ∷ [])) s e
      → Put 16 e s (line (w.at0 ∷ w.at1 ∷ w.at2 ∷ w.at3 ∷ [])) end f
      → end leaving f ≡ placed a at (row_line w)
  unfolding row_line
  row_put w b c d e f p q r s end h0 h1 h2 h3 h4 =
      let l1 = as_long h0 in
      let l2 = as_long h1 in
      let l3 = as_long h2 in
      let counts = w.at1 ∷ w.at2 ∷ w.at3 ∷ [] in
      let rolling : ℕ = cond w.rolling 1 0 in
      let fourth = line_next rolling w.at0 counts h3 h4 (omega arith) in
      let third = line_next w.answer rolling (w.at0 ∷ counts) h2 fourth (omega arith) in
      let second = line_next w.kind w.answer (rolling ∷ w.at0 ∷ counts) h1 third (omega arith) in
      put_placed a at _ 47 end f (omega arith)
      (line_next w.number w.kind (w.answer ∷ rolling ∷ w.at0 ∷ counts) h0 second (omega arith))

  pub short_put : (count : ℕ) (b c : List ℕ) (end : ℕ) → b ≡ written a at (115 ∷ 104 ∷ 111 ∷ 114 ∷ 116 ∷ 32 ∷ [])
      → Put 21 b (at + 6) (decimal count ++ (10 ∷ [])) end c → end leaving c ≡ placed a at (short_line count)
  unfolding short_line line
  short_put count b c end e h =
      let word : List ℕ = 115 ∷ 104 ∷ 111 ∷ 114 ∷ 116 ∷ 32 ∷ [] in
      let first : Put 6 a at word (at + 6) b = record { ends = refl; within = omega arith; holds = e } in
      put_placed a at _ 27 end c (omega arith) (put_next first h (omega arith))

-- ---- no line is longer

-- a number of at most k digits, and a rest of at most n bytes
next_fits : (k n x y : ℕ) (rest : List ℕ) → length (decimal x) ≤ k → length (line (y ∷ rest)) ≤ n → length (line (x ∷ y ∷ rest)) ≤ suc (k + n)
unfolding line
next_fits k n x y rest digits behind = omega (arith, length-append (decimal x) (32 ∷ line (y ∷ rest)))

last_fits : (k x : ℕ) → length (decimal x) ≤ k → length (line (x ∷ [])) ≤ suc k
unfolding line
last_fits k x digits = omega (arith, length-append (decimal x) (10 ∷ []))

byte_digits : (x : ℕ) → x < 256 → length (decimal x) ≤ 3
byte_digits x below = length_below x 2 (omega arith)

pub row_fits : (w : Row) → w.number < 2 ^ 64 → w.kind < 256 → w.answer < 256 → w.at0 < 256 → w.at1 < 256 → w.at2 < 256 → w.at3 < 256
    → length (row_line w) ≤ longest
unfolding row_line
row_fits w number kind answer at0 at1 at2 at3 =
    let counts = next_fits 3 12 _ _ _ (byte_digits _ at0) (next_fits 3 8 _ _ _ (byte_digits _ at1) (next_fits 3 4 _ _ _ (byte_digits _ at2) (last_fits 3 _ (byte_digits _ at3)))) in
    next_fits 20 26 _ _ _ (length_below w.number 19 (omega arith))
    (next_fits 3 22 _ _ _ (byte_digits _ kind) (next_fits 3 18 _ _ _ (byte_digits _ answer) (next_fits 1 16 _ _ _ (length_below (cond w.rolling 1 0) 0 (bit_below w.rolling)) counts)))

pub short_fits : (count : ℕ) → count < 2 ^ 64 → length (short_line count) ≤ longest
unfolding short_line
short_fits count below = omega (arith, last_fits 20 count (length_below count 19 (omega arith)))
