-- The claims of specs/Cases.antt: `CasesHold` by computing the definitions, `ReadsHold` by induction and the laws of ReadLaws. Assumes nothing.
use mathlib.Core.Path.{◌≡◌, refl, sym, ap, ◌∙◌}
use mathlib.Core.List.{List}
use Prim.Native.Nat.{ℕ, zero, suc, ◌+◌, ◌<◌}
use native.Mathlib.Omega.{arith}
use borrow.Author.Tests.{le-leb, lt-leb}
use lib.ListN.{length, get_or}
use Rattle.octets.proofs.ReadLaws.{bytes_there, be16_part, be32_part, be64_part}
use Rattle.octets.specs.Numbers.{le_number, le_bytes, be_number, be_bytes, printed}
use Rattle.octets.specs.Runs.{bytes_at, part_end, same_run, fits, written}
use Rattle.octets.specs.Numbers.{be16_at}
use Rattle.octets.specs.Cases.{CasesHold, ReadsHold}

pub cases_hold : CasesHold
unfolding le_number le_bytes be_number be_bytes printed bytes_at part_end same_run fits written
cases_hold =
    record {
      be_number_case = refl;
      be_bytes_case = refl;
      le_number_case = refl;
      le_bytes_case = refl;
      as_printed = refl;
      misprinted = refl;
      be16_at_case = refl;
      be16_past = refl;
      be32_at_case = refl;
      be64_at_case = refl;
      bytes_inside = refl;
      bytes_past = refl;
      part_to_end = refl;
      part_empty = refl;
      part_long = refl;
      part_long_past = refl;
      length_past = refl;
      same_bytes = refl;
      last_differs = refl;
      shorter = refl;
      put_inside = refl;
      put_to_end = refl;
      put_past = refl;
      fits_to_end = refl;
      fits_past = refl;
      first_wins = refl;
      second_alone = refl;
      first_row = λ n rows. refl;
      later_row = λ n rows. refl;
      none_applies = refl;
      no_refusal = λ refused found. refl;
      a_refusal = λ refused n found. refl;
      nothing_there = refl;
      there = λ n. refl;
    }

length_bytes : (n : ℕ) (s : List ℕ) (at : ℕ) → length (bytes_at n s at) ≡ n
unfolding bytes_at
length_bytes zero s at = refl
length_bytes (suc n) s at = ap suc (length_bytes n s (suc at))

each_of : (n : ℕ) (s : List ℕ) (at k : ℕ) → k < n → get_or (bytes_at n s at) k 0 ≡ get_or s (at + k) 0
unfolding bytes_at
each_of zero s at k below = absurd (omega (arith, below))
each_of (suc n) s at zero below = ap (λ (i : ℕ). get_or s i 0) (omega arith)
each_of (suc n) s at (suc k) below = each_of n s (suc at) k (omega (arith, below)) ∙ ap (λ (i : ℕ). get_or s i 0) (omega arith)

pub reads_hold : ReadsHold
unfolding part_end
reads_hold =
    record {
      so_many = length_bytes;
      each_byte = each_of;
      within = bytes_there;
      of_two = λ s at. sym (be16_part s at);
      of_four = λ s at. sym (be32_part s at);
      of_eight = λ s at. sym (be64_part s at);
      part_ends = λ s at fits. rw (le-leb (at + 2 + be16_at s at) (length s) fits) refl;
      part_lacks = λ s at past. rw (lt-leb (at + 2 + be16_at s at) (length s) past) refl;
    }
