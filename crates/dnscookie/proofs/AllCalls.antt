-- The claim CallsAreTheFleets: call by call, on the snapshot of the ledger that the calls before have left. Assumes nothing.
use Rattle.std.proofs.Common.{◌≡◌, ℕ, zero, suc, ◌≤◌, Bool, true, false, List, [], ◌∷◌, length, sym, refl, ap, ◌∙◌, true≢false, eq-eqb}
use mathlib.Core.Option.{Option, none, some}
use Rattle.octets.specs.Refusals.{answered}
use Rattle.secret.specs.declared.Secrets.{Secrets}
use Rattle.verdict.specs.Findings.{Finding}
use Rattle.verdict.specs.declared.Mode.{Mode}
use Rattle.verdict.specs.declared.Mode.TheVariants.{Disabled, Enabled, Enforced}
use Rattle.cookie.specs.CookieOption.{fresh_option, fresh_refusal, with_front}
use Rattle.cookie.specs.ServerCookie as cookie
use Rattle.cookie.specs.ServerCookie.{sip_hash_method, checking_refusal, judgement, verdict}
use Rattle.secret.specs.Secrets.{generating_of}
use Rattle.ledger.specs.Ledger.{view_of, fresh_ledger}
use Rattle.ledger.specs.Rules.{wait, secrets_of}
use Rattle.ledger.specs.declared.Ledger.{Ledger}
use Rattle.ledger.proofs.Along.{answer_is}
use Rattle.fleet.specs.Calls.{Call, Answer, Reply, ◌leaving◌, clock_at, is_refused, making_reply, checking_answer, reply_to, past, run_on}
use Rattle.fleet.specs.Calls.Answer.{accepted, refused, no_secrets, made, judged}
use Rattle.fleet.specs.Calls.Call.{step, making, checking}
use Rattle.snapshot.specs.Claims.{Fits}
use Rattle.snapshot.specs.Snapshot.{snapshot_of}
use Rattle.snapshot.proofs.Claims.{steps_fit}
use Rattle.dnscookie.specs.AllCalls.{mode_number, checking_told, by_c, state_by, replies_by_c, Crossing, SaysAs, SayAs, AllCrossing, CallsAreTheFleets}
use Rattle.dnscookie.specs.Calls.{Outcome, is_mode, mode_of, fresh_call}
use Rattle.dnscookie.specs.Claims.{made_number}
use Rattle.dnscookie.proofs.Steps.{one_step, next_fits}
use Rattle.dnscookie.proofs.Members.{asked_is, done, makes, judged_is}

-- the same reply
says_same : (c f : Reply) → c ≡ f → SaysAs c f
says_same c f is = record {
  output = ap (λ (r : Reply). r.output) is;
  alike = ap (λ (r : Reply). is_refused r.answer) is;
  answer = λ h. ap (λ (r : Reply). r.answer) is;
  number = λ n h. sym (ap (λ (r : Reply). r.answer) is) ∙ h;
}

-- a mode crosses as it is
mode_back : (mode : Mode) → (is_mode (mode_number mode) ≡ true) × (mode_of (mode_number mode) ≡ mode)
unfolding is_mode
mode_back Disabled = (refl, refl)
mode_back Enabled = (refl, refl)
mode_back Enforced = (refl, refl)

-- ---- what is told of a making and of a checking, by the number of the refusal

making_told_lem : (n : ℕ) (r : Reply) → r.answer ≡ made → (output : List ℕ)
    → let a = answered (λ k. refused k leaving output) n r in
    (answered refused (made_number a.answer) made leaving a.output) ≡ a
making_told_lem zero r is output = rw is
making_told_lem (suc n) r is output = refl

checking_told_lem : (n : ℕ) (f : Finding) → checking_told (answered cookie.refused n (cookie.found f)) ≡ answered refused n (judged f)
checking_told_lem zero f = refl
checking_told_lem (suc n) f = refl

-- "no secrets" is no number
abbrev is_none : Answer → Bool
is_none accepted = false
is_none (refused n) = false
is_none no_secrets = true
is_none made = false
is_none (judged f) = false

none_told : (n : ℕ) → no_secrets ≡ refused n → ⊥
none_told n h = true≢false (ap is_none h)

-- and the fleet tells it behind one
making_none : (n : ℕ) (output : List ℕ) → SaysAs (no_secrets leaving output) (answered (λ k. refused k leaving output) n (no_secrets leaving output))
making_none zero output = says_same (no_secrets leaving output) (no_secrets leaving output) refl
making_none (suc n) output = record { output = refl; alike = refl; answer = λ h. absurd (true≢false h); number = λ k h. absurd (none_told k h) }

checking_none : (n : ℕ) → SaysAs (no_secrets leaving []) (answered refused n no_secrets leaving [])
checking_none zero = says_same (no_secrets leaving []) (no_secrets leaving []) refl
checking_none (suc n) = record { output = refl; alike = refl; answer = λ h. absurd (true≢false h); number = λ k h. absurd (none_told k h) }

-- ---- one call on a ledger's snapshot

module _ (l : Ledger) (fits : Fits l) (room : List ℕ) (wide : 32 ≤ length room) where
  making_by : (held : Option Secrets) (member time : ℕ) (client address output : List ℕ) → length client ≡ 8 → secrets_of (view_of l) member ≡ held
      → SaysAs (by_c (snapshot_of l) room (making member time client address output)) (making_reply sip_hash_method (secrets_of (view_of l) member) time client address output)
  unfolding making_reply
  making_by none member time client address output eight is =
      rw (asked_is l fits member room wide none is, is) (making_none (fresh_refusal output address) output)
  making_by (some secrets) member time client address output eight is =
      rw (done l fits member room wide secrets is, makes l fits member room wide secrets is time client address output eight, is)
      (says_same _ _ (making_told_lem (fresh_refusal output address) (made leaving with_front (fresh_option sip_hash_method (generating_of secrets) (clock_at time) address client) output) refl output))

  checking_by : (held : Option Secrets) (member : ℕ) (mode : Mode) (time : ℕ) (address body : List ℕ) → secrets_of (view_of l) member ≡ held
      → SaysAs (by_c (snapshot_of l) room (checking member mode time address body)) (checking_answer sip_hash_method (secrets_of (view_of l) member) mode time address body leaving [])
  unfolding checking_answer judgement
  checking_by none member mode time address body is =
      rw (asked_is l fits member room wide none is, is) (checking_none (checking_refusal mode address body))
  checking_by (some secrets) member mode time address body is =
      rw (done l fits member room wide secrets is, judged_is l fits member room wide secrets is (mode_number mode) time address body (mode_back mode).0, (mode_back mode).1, is)
      (says_same _ _ (ap (λ (a : Answer). a leaving []) (checking_told_lem (checking_refusal mode address body) (verdict sip_hash_method mode secrets (clock_at time) address body))))

  step_by : (bytes : List ℕ) → length bytes ≡ 32 → SaysAs (by_c (snapshot_of l) room (step bytes)) (reply_to wait sip_hash_method (view_of l) (step bytes))
  unfolding reply_to
  step_by bytes long = says_same _ _ (ap (λ (n : ℕ). answered refused n accepted leaving []) (ap (λ (o : Outcome). o.answer) (one_step l fits bytes long) ∙ answer_is wait l bytes))

  says : (call : Call) → Crossing call → SaysAs (by_c (snapshot_of l) room call) (reply_to wait sip_hash_method (view_of l) call)
  unfolding reply_to
  says (step bytes) crosses = step_by bytes crosses.0
  says (making member time client address output) crosses = making_by (secrets_of (view_of l) member) member time client address output crosses refl
  says (checking member mode time address body) crosses = checking_by (secrets_of (view_of l) member) member mode time address body refl

-- ---- one after the other

state_past : (l : Ledger) → Fits l → (call : Call) → Crossing call → state_by (snapshot_of l) call ≡ snapshot_of (past wait l call)
unfolding past
state_past l fits (step bytes) crosses = ap (λ (o : Outcome). o.bytes) (one_step l fits bytes crosses.0)
state_past l fits (making member time client address output) crosses = refl
state_past l fits (checking member mode time address body) crosses = refl

fits_past : (l : Ledger) → Fits l → (call : Call) → Crossing call → Fits (past wait l call)
unfolding past
fits_past l fits (step bytes) crosses = next_fits l fits bytes crosses.1
fits_past l fits (making member time client address output) crosses = fits
fits_past l fits (checking member mode time address body) crosses = fits

say : (calls : List Call) (rooms : ℕ → List ℕ) → ((k : ℕ) → 32 ≤ length (rooms k)) → (l : Ledger) → Fits l → AllCrossing calls
    → SayAs (replies_by_c rooms (snapshot_of l) calls) (run_on wait sip_hash_method l calls)
say [] rooms wide l fits all = tt
say (call ∷ rest) rooms wide l fits all = (
  says l fits (rooms 0) (wide 0) call all.0,
  rw (state_past l fits call all.0) (say rest (λ k. rooms (suc k)) (λ k. wide (suc k)) (past wait l call) (fits_past l fits call all.0) all.1),
)

pub calls_are_the_fleets : CallsAreTheFleets
unfolding fresh_call
calls_are_the_fleets lent long rooms wide calls all = rw (eq-eqb (length lent) 68 long) (refl, say calls rooms wide fresh_ledger steps_fit.0 all)
