-- A whole message: its questions one at a time, and the answer from what the records gave. Assumes nothing.
use Prim.Native.Nat.{ℕ, zero, suc, ◌+◌, ◌-◌, ◌≤◌, ◌<◌}
use mathlib.Core.Path.{◌≡◌, refl, sym, ap, ◌∙◌}
use mathlib.Core.Bool.{Bool, true, false}
use mathlib.Core.List.{List, [], ◌∷◌}
use mathlib.Core.Option.{Option, none, some, bind, get_or}
use native.Mathlib.Omega.{arith}
use borrow.Author.Tests.{ne_eqb}
use lib.ListN.{length}
use Rattle.std.specs.Prelude as code
use Rattle.std.specs.Prelude.{Some, None, Ok, Err}
use Rattle.std.specs.Option.{ok_or}
use Rattle.message.specs.Answers.{end_of, outline_of}
use Rattle.message.specs.declared.Fault.{Fault}
use Rattle.message.specs.declared.Fault.TheVariants.{Malformed}
use Rattle.octets.specs.Refusals.{◌when◌, first, answered, is_none}
use Rattle.message.proofs.ScanLaws.{outcome, scan_is}
use Rattle.message.specs.Message.{qdcount, ancount, nscount, arcount, questions_end, records, sections, opts, wrong_among, Outlined, refused, first_opt, outline}
use Rattle.message.proofs.NameLaws.{name_past}
use Rattle.message.specs.Record.{question_end, record_at}
use Rattle.message.specs.Scan.{Outline, scan, scanned}
use Rattle.message.specs.declared.Record.{Record}

-- ---- questions

-- those from the one of this number on end where all do, if they do so far
module _ (s : List ℕ) (n i at : ℕ) (all : Option ℕ) (so_far : questions_end (n - i) s at ≡ all) where
  pub questions_end_lem : n ≤ i → some at ≡ all
  unfolding questions_end
  questions_end_lem none_left = let zero_is : n - i ≡ 0 = omega arith in rw zero_is at so_far

  module _ (one_left : i < n) where
    pub questions_cut : none ≡ question_end s at → none ≡ all
    unfolding questions_end bind
    questions_cut ended = let left_is : n - i ≡ suc (n - (i + 1)) = omega arith in sym (rw (← ended)) ∙ rw left_is at so_far

    pub questions_next : (end : ℕ) → some end ≡ question_end s at → questions_end (n - (i + 1)) s end ≡ all
    unfolding questions_end bind
    questions_next end ended = let left_is : n - i ≡ suc (n - (i + 1)) = omega arith in sym (rw (← ended)) ∙ rw left_is at so_far

-- ---- the answer

-- behind the questions
sections_from : (s : List ℕ) (at : ℕ) → some at ≡ questions_end (qdcount s) s 12 → sections s ≡ records (ancount s + nscount s + arcount s) s at
unfolding sections bind
sections_from s at ended = rw (← ended)

-- what is answered, over what the records gave
abbrev outcome_of : ℕ → Option (List Record) → Outlined
outcome_of n x = answered refused (first (6 when is_none x ∷ 7 when wrong_among n (get_or x []) ∷ [])) (first_opt (opts (get_or x [])))

outcome_is : (wrong : Bool) (os : List Record) → outline_of (outcome wrong os) ≡ answered refused (first (6 when false ∷ 7 when wrong ∷ [])) (first_opt os)
outcome_is true os = refl
outcome_is false [] = refl
outcome_is false (r ∷ rs) = refl

scan_answered : (n : ℕ) (x : Option (List Record)) → outline_of (scan n None false x) ≡ outcome_of n x
scan_answered n none = refl
scan_answered n (some rs) = ap outline_of (scan_is n rs) ∙ outcome_is (wrong_among n rs) (opts rs)

module _ (s : List ℕ) where
  refused_6 : none ≡ sections s → refused 6 ≡ outline s
  unfolding outline
  refused_6 k = rw (← k)

  -- nothing starts behind a header that is not there
  none_short : length s < 12 → (q n : ℕ) → none ≡ bind (questions_end q s 12) (λ at. records n s at)
  unfolding bind questions_end question_end records record_at
  none_short short zero zero = rw (ne_eqb 12 (length s) (λ e. omega (arith, e)))
  none_short short zero (suc n) = rw (← name_past s 12 (omega arith))
  none_short short (suc q) n = rw (← name_past s 12 (omega arith))

  pub outline_short : length s < 12 → refused 6 ≡ outline s
  unfolding sections
  outline_short short = refused_6 (none_short short (qdcount s) (ancount s + nscount s + arcount s))

  -- the counts as the code reads them
  module _ (q : ℕ) (q-is : q ≡ qdcount s) where
    no_questions : none ≡ questions_end q s 12 → refused 6 ≡ outline s
    unfolding sections bind
    no_questions ended = refused_6 (rw (← q-is, ← ended))

    scanned_from : (at : ℕ) → some at ≡ questions_end q s 12 → (an ns ar : ℕ) → an ≡ ancount s → ns ≡ nscount s → ar ≡ arcount s
        → (o : Outline) → o ≡ scanned (an + ns + ar - ar) None false (an + ns + ar) s at → outline_of o ≡ outline s
    unfolding outline scanned
    scanned_from at ended an ns ar an-is ns-is ar-is o walked =
        let all : sections s ≡ records (an + ns + ar) s at = rw (an-is, ns-is, ar-is) (sections_from s at (ended ∙ ap (λ (n : ℕ). questions_end n s 12) q-is)) in
        let before-is : an + ns + ar - ar ≡ an + ns = omega arith in
        rw (all, ← an-is, ← ns-is) (ap outline_of walked ∙ rw before-is (scan_answered (an + ns) (records (an + ns + ar) s at)))

    -- as the code asks where they end
    module _ (f : code.Option ℕ) (ended : end_of f ≡ questions_end q s 12) where
      pub outline_no_questions : (fault : Fault) → Err fault ≡ ok_or f Malformed → outline_of (Err fault) ≡ outline s
      outline_no_questions fault e = by f ended e
        where
          by : (g : code.Option ℕ) → end_of g ≡ questions_end q s 12 → Err fault ≡ ok_or g Malformed → outline_of (Err fault) ≡ outline s
          by None is h = let same : fault ≡ Malformed = cc in rw same (no_questions is)
          by (Some at) is h = cc

      pub outline_scanned : (at : ℕ) → Ok at ≡ ok_or f Malformed → (an ns ar : ℕ) → an ≡ ancount s → ns ≡ nscount s → ar ≡ arcount s
          → (o : Outline) → o ≡ scanned (an + ns + ar - ar) None false (an + ns + ar) s at → outline_of o ≡ outline s
      outline_scanned at e = scanned_from at (by f ended e)
        where
          by : (g : code.Option ℕ) → end_of g ≡ questions_end q s 12 → Ok at ≡ ok_or g Malformed → some at ≡ questions_end q s 12
          by None is h = cc
          by (Some k) is h = let same : at ≡ k = cc in rw same is
