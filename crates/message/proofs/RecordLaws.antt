-- Questions and records, from where their name ends. Assumes nothing.
use Prim.Native.Nat.{ℕ, ◌+◌, ◌≤◌, ◌<◌}
use mathlib.Core.Path.{◌≡◌}
use mathlib.Core.List.{List, [], ◌∷◌}
use mathlib.Core.Option.{none, some, bind}
use native.Mathlib.Omega.{arith}
use borrow.Author.Tests.{le-leb, lt-leb}
use lib.Dec.{eqb}
use lib.ListN.{length, get_or}
use Rattle.std.specs.Prelude.{Some, None}
use Rattle.octets.specs.Numbers.{be_number, be16_at}
use Rattle.octets.specs.Runs.{part_end}
use Rattle.octets.proofs.ReadLaws.{part_told, part_lacks}
use Rattle.message.specs.Name.{name_end}
use Rattle.message.specs.Record.{question_end, record_at}

module _ (s : List ℕ) (at : ℕ) where
  pub question_no_name : none ≡ name_end s at → none ≡ question_end s at
  unfolding question_end bind
  question_no_name named = rw (← named)

  pub record_no_name : none ≡ name_end s at → none ≡ record_at s at
  unfolding record_at bind
  record_no_name named = rw (← named)

module _ (s : List ℕ) (at e : ℕ) (named : some e ≡ name_end s at) where
  pub question_cut : length s < e + 4 → none ≡ question_end s at
  unfolding question_end bind
  question_cut cut = rw (← named) (simp (lt-leb _ _ cut))

  pub question_whole : e + 4 ≤ length s → some (e + 4) ≡ question_end s at
  unfolding question_end bind
  question_whole inside = rw (← named) (simp (le-leb _ _ inside))

  pub record_past : None ≡ part_end s (e + 8) → none ≡ record_at s at
  unfolding record_at bind
  record_past past = rw (← named) (simp (lt-leb (e + 10 + be16_at s (e + 8)) (length s) (omega (arith, part_lacks s (e + 8) past))))

  -- where the data ends, as the code has asked
  pub record_whole : (end : ℕ) → Some end ≡ part_end s (e + 8) → (kind : ℕ) → kind ≡ be_number (get_or s e 0 ∷ get_or s (e + 1) 0 ∷ [])
      → some (record { root = eqb (get_or s at 0) 0; kind = kind; version = get_or s (e + 5) 0; start = e + 10; end = end }) ≡ record_at s at
  unfolding record_at bind
  record_whole end is kind typed =
      let told = part_told s (e + 8) end is in
      let end_is : end ≡ e + 10 + be16_at s (e + 8) = omega (arith, told.0) in
      rw (← named, typed, end_is) (simp (le-leb (e + 10 + be16_at s (e + 8)) (length s) (omega (arith, end_is, told.1))))
