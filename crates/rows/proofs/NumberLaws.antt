-- A number put into a buffer with the byte after it, its last digit first or all its digits at once. Assumes nothing.
use mathlib.Core.Path.{◌≡◌, refl, sym, ap, ◌∙◌}
use mathlib.Core.Bool.{Bool, true, false, cond}
use mathlib.Core.List.{List, [], ◌∷◌, ◌++◌, append-nil}
use Prim.Native.Nat.{ℕ, suc, ◌+◌, ◌-◌, ◌/◌, ◌%◌, ◌^◌, ◌≤◌, ◌<◌}
use native.Mathlib.Omega.{arith}
use lib.ListN.{length, set, length-append, length-set}
use lib.Seq.{append_snoc}
use Rattle.std.specs.Int.{from_bool}
use Rattle.octets.specs.Runs.{written}
use Rattle.rows.specs.Rows.{decimal}
use Rattle.rows.specs.Steps.{Put}
use Rattle.rows.proofs.DigitLaws.{bit_below, decimal_one, decimal_two, decimal_three, decimal_more, length_one, length_more, length_some}
use Rattle.rows.proofs.StoreLaws.{stored, byte_before, byte_behind}

-- ---- the last digit first

-- the digits behind those of the rest are put, from a place on
pub record Filled (before : List ℕ) (at x : ℕ) (buffer : List ℕ) (place rest : ℕ) : Type 0 where
  pub tail : List ℕ
  pub less : rest ≤ x
  pub whole : decimal rest ++ tail ≡ decimal x
  pub spot : place ≡ at + length (decimal rest)
  pub some : at < place
  pub within : place + length tail ≤ length before
  pub holds : buffer ≡ written before place tail
  pub long : length buffer ≡ length before

pub fill_none : (before : List ℕ) (at x end : ℕ) → end ≡ at + length (decimal x) → end ≤ length before → Filled before at x before end x
fill_none before at x end is room =
    record {
      tail = [];
      less = omega arith;
      whole = append-nil (decimal x);
      spot = is;
      some = omega (arith, length_some x);
      within = omega arith;
      holds = stored before end [] (omega arith);
      long = refl;
    }

module _ (x : ℕ) (fits : x < 10 ^ 20) {before : List ℕ} {at : ℕ} {buffer : List ℕ} {place rest : ℕ} (so_far : Filled before at x buffer place rest) where
  pub fill_more : 10 ≤ rest → Filled before at x (set buffer (place - 1) (48 + rest % 10)) (place - 1) (rest / 10)
  fill_more above =
      let b = 48 + rest % 10 in
      let more = decimal_more rest above (omega arith) in
      let long = length_more rest above (omega arith) in
      let next : place ≡ suc (place - 1) = omega arith in
      record {
        tail = b ∷ so_far.tail;
        less = omega arith;
        whole = sym (append_snoc (decimal (rest / 10)) b so_far.tail) ∙ ap (λ (l : List ℕ). l ++ so_far.tail) (sym more) ∙ so_far.whole;
        spot = omega arith;
        some = omega (arith, length_some (rest / 10));
        within = omega arith;
        holds =
            ap (λ (l : List ℕ). set l (place - 1) b) (so_far.holds ∙ ap (λ (k : ℕ). written before k so_far.tail) next)
            ∙ byte_before before (place - 1) so_far.tail b (omega arith);
        long = length-set buffer (place - 1) b ∙ so_far.long;
      }

  pub fill_all : (end after : ℕ) → end ≡ at + length (decimal x) → end < length before → end ≤ at + 20 → rest < 10
      → Put 21 before at (decimal x ++ (after ∷ [])) (end + 1) (set (set buffer at (48 + rest)) end after)
  fill_all end after is room short below =
      let one = length_one rest below in
      let next : place ≡ suc at = omega arith in
      let digits : set buffer at (48 + rest) ≡ written before at (decimal x) =
      ap (λ (l : List ℕ). set l at (48 + rest)) (so_far.holds ∙ ap (λ (k : ℕ). written before k so_far.tail) next)
      ∙ byte_before before at so_far.tail (48 + rest) (omega arith)
      ∙ ap (λ (l : List ℕ). written before at l) (ap (λ (l : List ℕ). l ++ so_far.tail) (sym (decimal_one rest below)) ∙ so_far.whole) in
      record {
        ends = omega (arith, length-append (decimal x) (after ∷ []));
        within = omega arith;
        holds =
            ap (λ (l : List ℕ). set l end after) digits
            ∙ ap (λ (k : ℕ). set (written before at (decimal x)) k after) is
            ∙ byte_behind before at (decimal x) after (omega arith);
      }

-- ---- all digits at once

-- the same text, in as much room or more
put_as : (m n : ℕ) (before : List ℕ) (at : ℕ) (s t : List ℕ) (end : ℕ) (buffer : List ℕ) → m ≤ n → t ≡ s
    → Put m before at s end buffer → Put n before at t end buffer
put_as m n before at s t end buffer less same put =
    record {
      ends = put.ends ∙ ap (λ (l : List ℕ). at + length l) (sym same);
      within = omega arith;
      holds = put.holds ∙ ap (λ (l : List ℕ). written before at l) (sym same);
    }

module _ (before : List ℕ) (at x after end : ℕ) (buffer : List ℕ) where
  pub small_one : x < 10 → Put 2 before at ((48 + x) ∷ after ∷ []) end buffer → Put 4 before at (decimal x ++ (after ∷ [])) end buffer
  small_one below = put_as 2 4 before at _ _ end buffer (omega arith) (rw (decimal_one x below))

  pub small_two : 10 ≤ x → x < 100 → Put 3 before at ((48 + x / 10) ∷ (48 + x % 10) ∷ after ∷ []) end buffer
      → Put 4 before at (decimal x ++ (after ∷ [])) end buffer
  small_two above below = put_as 3 4 before at _ _ end buffer (omega arith) (rw (decimal_two x above below))

  pub small_three : 100 ≤ x → x < 256 → Put 4 before at ((48 + x / 100) ∷ (48 + x / 10 % 10) ∷ (48 + x % 10) ∷ after ∷ []) end buffer
      → Put 4 before at (decimal x ++ (after ∷ [])) end buffer
  small_three above below = put_as 4 4 before at _ _ end buffer (omega arith) (rw (decimal_three x above (omega arith)))

-- a bit, by the number that the library makes of it
bit_number : (bit : Bool) → from_bool bit ≡ cond bit 1 0
bit_number true = refl
bit_number false = refl

pub bit_put : (before : List ℕ) (at : ℕ) (bit : Bool) (b after end : ℕ) (buffer : List ℕ) → b ≡ from_bool bit
    → Put 2 before at ((48 + b) ∷ after ∷ []) end buffer → Put 2 before at (decimal (cond bit 1 0) ++ (after ∷ [])) end buffer
bit_put before at bit b after end buffer is =
    put_as 2 2 before at _ _ end buffer (omega arith) (rw (decimal_one (cond bit 1 0) (bit_below bit), is, bit_number bit))
