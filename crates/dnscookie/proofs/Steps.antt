-- The claims StepsAreTheLedgers, StepsOnAny, LinesAreTheListings and LengthTold: a state that C lends is the snapshot of a ledger, and a step on it leaves the snapshot of that
-- ledger stepped. Assumes nothing.
use Rattle.std.proofs.Common.{◌≡◌, ℕ, zero, suc, ◌+◌, ◌^◌, ◌<◌, ◌≤◌, Bool, true, false, cond, List, [], ◌∷◌, length, get_or, take, drop, sym, refl, ap, ◌∙◌, ap₂, add-zero, arith, le-ltb, eq-eqb}
use mathlib.Core.Option.{none, some, none-ne-some}
use lib.Dec.{eqb-suc-zero}
use Rattle.octets.specs.Numbers.{le_number}
use Rattle.octets.proofs.ReadLaws.{bytes_from, le_from, le64_fits}
use Rattle.octets.proofs.RefusalLaws.{first_most}
use Rattle.secret.proofs.SecretLaws.{words_fit}
use Rattle.ledger.specs.Journal.{read_step}
use Rattle.ledger.specs.Ledger.{view_of, fresh_ledger, outcome, stepped}
use Rattle.ledger.specs.Rules.{wait, refusals, refusal}
use Rattle.ledger.specs.Run.{offered, run, after}
use Rattle.ledger.specs.declared.Ledger.{Ledger}
use Rattle.ledger.specs.declared.Step.{Step}
use Rattle.rows.specs.Rows.{row_line}
use Rattle.listing.specs.Listing.{next, row_of}
use Rattle.listing.specs.declared.Lister.{Lister}
use Rattle.listing.proofs.ListLaws.{row_is}
use Rattle.snapshot.specs.Claims.{Octets, Fits}
use Rattle.snapshot.specs.Snapshot.{snapshot_of, is_snapshot, stages_of, ledger_of, ledger_in}
use Rattle.snapshot.proofs.Claims.{read_back, one_form, steps_fit}
use Rattle.dnscookie.specs.Calls.{Outcome, ◌leaving◌, fresh_call, state_after, step_call, line_refusal, line_call}
use Rattle.dnscookie.specs.Claims.{answers_on, state_on, answers_in, Records, StepsAreTheLedgers, StepsOnAny, LinesAreTheListings, LengthTold}

-- ---- one step on a snapshot

-- what comes of it is in the state afterwards, whether it is accepted or refused
kept : (n : ℕ) (l : Ledger) (s : Step) → state_after (snapshot_of l) (outcome n l s) ≡ ((outcome n l s).answer leaving snapshot_of (outcome n l s).ledger)
kept zero l s = refl
kept (suc n) l s = rw (eqb-suc-zero n)

module _ (l : Ledger) (fits : Fits l) (bytes : List ℕ) (long : length bytes ≡ 32) where
  pub one_step : step_call (snapshot_of l) bytes ≡ ((offered wait l bytes).answer leaving snapshot_of (offered wait l bytes).ledger)
  unfolding step_call stepped
  one_step = rw (read_back l fits, eq-eqb (length bytes) 32 long) (kept (refusal wait (view_of l) (read_step bytes)) l (read_step bytes))

pub next_fits : (l : Ledger) → Fits l → (bytes : List ℕ) → Octets bytes → Fits (offered wait l bytes).ledger
next_fits = steps_fit.1 wait

-- ---- one after the other

answers_on_lem : (l : Ledger) → Fits l → (records : List (List ℕ)) → Records records → answers_on (snapshot_of l) records ≡ answers_in (run wait l records)
answers_on_lem l fits [] are = refl
answers_on_lem l fits (bytes ∷ rest) are =
    let one = one_step l fits bytes are.0 in
    ap₂ (λ (n : ℕ) (ns : List ℕ). n ∷ ns) (ap (λ (o : Outcome). o.answer) one)
    (ap (λ (o : Outcome). answers_on o.bytes rest) one ∙ answers_on_lem (offered wait l bytes).ledger (next_fits l fits bytes are.1) rest are.2)

state_on_lem : (l : Ledger) → Fits l → (records : List (List ℕ)) → Records records → state_on (snapshot_of l) records ≡ snapshot_of (after wait l records)
state_on_lem l fits [] are = refl
state_on_lem l fits (bytes ∷ rest) are =
    ap (λ (o : Outcome). state_on o.bytes rest) (one_step l fits bytes are.0)
    ∙ state_on_lem (offered wait l bytes).ledger (next_fits l fits bytes are.1) rest are.2

pub steps_are_the_ledgers : StepsAreTheLedgers
unfolding fresh_call
steps_are_the_ledgers lent long records are =
    rw (eq-eqb (length lent) 68 long) (answers_on_lem fresh_ledger steps_fit.0 records are, state_on_lem fresh_ledger steps_fit.0 records are)

-- ---- on any state

-- the ledger that is found in bytes has the widths
module _ (s : List ℕ) (octets : Octets s) where
  half_from : (at : ℕ) → le_number (bytes_from 4 0 at s) < 2 ^ 32
  unfolding le_number
  half_from at = omega (arith, octets (at + 0), octets (at + 1), octets (at + 2), octets (at + 3))

  half_fits : (at : ℕ) → le_number (take 4 (drop at s)) < 2 ^ 32
  half_fits at = rw (le_from 4 0 at s, add-zero at) at (half_from at)

  ledger_fits : Fits (ledger_of s)
  unfolding ledger_of stages_of
  ledger_fits = record {
    members = half_fits 4;
    learnt = half_fits 8;
    switched = half_fits 12;
    dropped = half_fits 16;
    last = le64_fits s octets 20;
    last_switch = le64_fits s octets 28;
    current = words_fit s octets 36;
    new = words_fit s octets 52;
  }

  found_fits : (l : Ledger) → ledger_in s ≡ some l → Fits l
  unfolding ledger_in
  found_fits l h = go (is_snapshot s) h
    where
      go : (b : Bool) → cond b (some (ledger_of s)) none ≡ some l → Fits l
      go true k = let same : ledger_of s ≡ l = cc in rw (← same) ledger_fits
      go false k = absurd (none-ne-some l k)

pub steps_on_any : StepsOnAny
steps_on_any state bytes octets long octets' l is =
    let fits = found_fits state octets l is in
    let one = ap (λ (s : List ℕ). step_call s bytes) (sym (one_form state octets l is)) ∙ one_step l fits bytes long in
    (ap (λ (o : Outcome). o.answer) one, ap (λ (o : Outcome). ledger_in o.bytes) one ∙ read_back (offered wait l bytes).ledger (next_fits l fits bytes octets'))

-- ---- a line

-- no answer is greater than 10
outcome_most : (n : ℕ) (l : Ledger) (s : Step) → n ≤ 10 → (outcome n l s).answer ≤ 10
outcome_most zero l s low = low
outcome_most (suc n) l s low = low

answer_most : (l : Ledger) (bytes : List ℕ) → (offered wait l bytes).answer ≤ 10
unfolding stepped refusal
answer_most l bytes =
    let rows = refusals wait (view_of l) (read_step bytes) in
    outcome_most (refusal wait (view_of l) (read_step bytes)) l (read_step bytes)
    (first_most 10 rows (omega arith, (omega arith, (omega arith, (omega arith, (omega arith, (omega arith, (omega arith, (omega arith, (omega arith, (omega arith, tt)))))))))))

line_passes : (bytes output : List ℕ) (answer : ℕ) → length bytes ≡ 32 → answer ≤ 10 → 47 ≤ length output → line_refusal bytes answer output ≡ 0
unfolding line_refusal
line_passes bytes output answer long low room = rw (eq-eqb (length bytes) 32 long, le-ltb 10 answer low, le-ltb (length output) 47 room)

pub lines_are_the_listings : LinesAreTheListings
unfolding line_call row_of
lines_are_the_listings at fits bytes output long octets room =
    let l = at.ledger in
    let o = offered wait l bytes in
    ap (λ (x : Outcome). line_call x.bytes (next at) bytes x.answer output) (one_step l fits bytes long)
    ∙ rw (read_back o.ledger (next_fits l fits bytes octets), line_passes bytes output o.answer long (answer_most l bytes) room) refl

row_short : (at : Lister) (bytes : List ℕ) → Octets bytes → length (row_line (row_of at bytes)) ≤ 47
unfolding row_of
row_short at bytes octets =
    let o = offered wait at.ledger bytes in
    (row_is (next at) (get_or bytes 0 0) o.answer o.ledger.rolling o.ledger.stages _ _ _ _ (omega arith) (octets 0) (omega (arith, answer_most at.ledger bytes)) refl refl refl refl).1

pub length_told : LengthTold
length_told at bytes octets = let short = row_short at bytes octets in (short, omega arith, omega arith)
