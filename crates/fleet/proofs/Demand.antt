-- Demand 3. What is known of the records that are offered to a ledger (the claims `TheAccount` and `LongerIsEnough` of ledger) is known of a run of calls, and a fresh cookie
-- is good for whoever holds its secret (the claim `FreshIsGood` of cookie). Assumes nothing.
use Prim.Native.Nat.{ℕ, ◌+◌, ◌≤◌, ◌<◌}
use mathlib.Core.Path.{◌≡◌, refl, sym, ap, subst, ◌∙◌}
use mathlib.Core.Bool.{Bool, true, false, cond}
use mathlib.Core.List.{List, [], ◌∷◌, ◌++◌, append_assoc}
use mathlib.Core.Logic.{inl, inr}
use mathlib.Core.Option.{Option, some}
use native.Mathlib.Omega.{arith}
use lib.IntN.{sub_ℕ}
use lib.ListN.{length, take, drop}
use Rattle.octets.proofs.RefusalLaws.{all_numbered}
use Rattle.secret.specs.Secrets.{generating_of}
use Rattle.secret.specs.declared.Secret.{Secret}
use Rattle.secret.specs.declared.Secrets.{Secrets}
use Rattle.verdict.specs.Findings.{Finding}
use Rattle.verdict.specs.Findings.Finding.{good}
use Rattle.verdict.specs.declared.Mode.{Mode}
use Rattle.verdict.specs.declared.Mode.TheVariants.{Disabled}
use Rattle.verdict.specs.declared.Which.{Which}
use Rattle.cookie.specs.Claims.{EightBytes, Holds}
use Rattle.cookie.specs.CookieOption.{written_body}
use Rattle.cookie.specs.ServerCookie.{CookieMethod, sip_hash_method, judgement}
use Rattle.cookie.specs.ServerCookie.Answer.{found}
use Rattle.cookie.proofs.Fresh.{fresh_is_good, siphash_eight}
use Rattle.ledger.specs.Account.{account, last_by}
use Rattle.ledger.specs.Claims.{HeldBy, Accepts, AllFrom}
use Rattle.ledger.specs.Journal.{read_step}
use Rattle.ledger.specs.Ledger.{view_of, fresh_ledger}
use Rattle.ledger.specs.Rules.{View, refusals, refusal, secrets_of}
use Rattle.ledger.specs.Run.{offered, ledger_after}
use Rattle.ledger.specs.declared.Ledger.{Ledger}
use Rattle.ledger.specs.declared.Step.{Step}
use Rattle.ledger.proofs.Along.{answer_is, the_account}
use Rattle.ledger.proofs.Holding.{held_by}
use Rattle.ledger.proofs.Stays.{longer_is_enough}
use Rattle.fleet.specs.Calls.{Call, Answer, Reply, Entry, ◌leaving◌, ◌got◌, clock_at, step_answer, reply_to, past, run_on, run, ledger_past, is_accepted, is_refused, noted, accepted_on, accepted_in, time_of}
use Rattle.fleet.specs.Calls.Answer.{accepted, refused, no_secrets, made, judged}
use Rattle.fleet.specs.Calls.Call.{step, making, checking}
use Rattle.fleet.specs.Claims.{OfStep, OfMaking, OfChecking, NeverBack, GoodWithin, DemandThree, LongerWaits}
use Rattle.fleet.proofs.Order.{was_refused, time_in, NoneBefore, none_behind}
use Rattle.fleet.proofs.Replies.{of_step, of_making, of_checking, WasMade, was_made, body_back, WasJudged, was_judged}
use Rattle.fleet.proofs.Runs.{each_once, split, next_of, records_from, records_in, ledger_projected, history_projected}

-- ---- at a point of the run

module _ (w : ℕ) (m : CookieMethod) (calls : List Call) where
  -- what is seen of the ledger is the account of the steps that were accepted
  seen_at : (before later : List Entry) → run w m calls ≡ before ++ later → view_of (ledger_past w before) ≡ account (accepted_in before)
  seen_at before later e =
      let s = split w m fresh_ledger calls before later e in
      ap view_of (ledger_projected w fresh_ledger before) ∙ (the_account w (records_in before)).seen
      ∙ ap account (sym (history_projected w m fresh_ledger [] s.earlier before s.first_part))

  -- a call is answered by what is seen of it
  replied : (before later : List Entry) (c : Call) (r : Reply) → run w m calls ≡ before ++ (c got r ∷ later) → r ≡ reply_to w m (view_of (ledger_past w before)) c
  replied before later c r e =
      let s = split w m fresh_ledger calls before (c got r ∷ later) e in
      (next_of w m (ledger_past w before) s.others (c got r) later s.second_part).this

  -- so by the account
  accounted : (before later : List Entry) (c : Call) (r : Reply) → run w m calls ≡ before ++ (c got r ∷ later) → r ≡ reply_to w m (account (accepted_in before)) c
  accounted before later c r e = replied before later c r e ∙ ap (λ (v : View). reply_to w m v c) (seen_at before (c got r ∷ later) e)

-- ---- times

-- every one of the calls that weren't refused is at t or before
abbrev NoneAfter : ℕ → List Entry → Type 0
NoneAfter t entries = (before later : List Entry) (y : Entry) → entries ≡ before ++ (y ∷ later) → was_refused y ≡ false → time_in y ≤ t

-- a step that was accepted wasn't refused
accepted_counts : (a : Answer) → is_accepted a ≡ true → is_refused a ≡ false
accepted_counts accepted e = refl
accepted_counts (refused n) e = sym e
accepted_counts no_secrets e = sym e
accepted_counts made e = refl
accepted_counts (judged f) e = refl

-- the last time by the steps that are accepted
last_noted : (t : ℕ) (h : List Step) (c : Call) (a : Answer) → (is_refused a ≡ false → time_of c ≤ t) → last_by h ≤ t → last_by (noted h c a) ≤ t
last_noted t h (step bytes) a counts low = go (is_accepted a) refl
  where
    go : (b : Bool) → is_accepted a ≡ b → last_by (cond b (read_step bytes ∷ h) h) ≤ t
    go true q = counts (accepted_counts a q)
    go false q = low
last_noted t h (making member time client address output) a counts low = low
last_noted t h (checking member mode time address body) a counts low = low

last_by_lem : (t : ℕ) (h : List Step) (entries : List Entry) → NoneAfter t entries → last_by h ≤ t → last_by (accepted_on h entries) ≤ t
last_by_lem t h [] none low = low
last_by_lem t h (e ∷ rest) none low =
    last_by_lem t (noted h e.call e.reply.answer) rest (λ before later y s. none (e ∷ before) later y (ap (◌∷◌ e) s))
    (last_noted t h e.call e.reply.answer (none [] rest e refl) low)

-- the steps of a run that the ledger accepts are at t or later, if none of the calls is before t
all_from : (w : ℕ) (m : CookieMethod) (t : ℕ) (l : Ledger) (calls : List Call) → NoneBefore t (run_on w m l calls) → AllFrom w t l (records_in (run_on w m l calls))
unfolding past reply_to
all_from w m t l [] none = tt
all_from w m t l (step bytes ∷ rest) none = (
  λ e. none [] _ _ refl (ap (λ (n : ℕ). is_refused (step_answer n)) (sym (answer_is w l bytes) ∙ e)),
  all_from w m t (offered w l bytes).ledger rest (none_behind _ _ t none),
)
all_from w m t l (making member time client address output ∷ rest) none = all_from w m t l rest (none_behind _ _ t none)
all_from w m t l (checking member mode time address body ∷ rest) none = all_from w m t l rest (none_behind _ _ t none)

-- ---- a cookie from its making to a checking

from_more : (c : Call) (xs ys : List (List ℕ)) → records_from c (xs ++ ys) ≡ records_from c xs ++ ys
from_more (step bytes) xs ys = refl
from_more (making member time client address output) xs ys = refl
from_more (checking member mode time address body) xs ys = refl

-- the records of two parts
records_more : (before between : List Entry) → records_in (before ++ between) ≡ records_in before ++ records_in between
records_more [] between = refl
records_more (e ∷ rest) between = ap (records_from e.call) (records_more rest between) ∙ from_more e.call (records_in rest) (records_in between)

-- the making and the checking, where they stand in the run
module _ (w : ℕ) (m : CookieMethod) (calls : List Call) (before between later : List Entry) (maker checker made_at checked-at : ℕ) (mode : Mode)
    (client address output written body : List ℕ) (r : Reply) where
  abbrev making_it : Entry
  making_it = making maker made_at client address output got made leaving written

  abbrev checking_it : Entry
  checking_it = checking checker mode checked-at address body got r

  -- the run up to the checking
  abbrev up : List Entry
  up = before ++ (making_it ∷ between)

  module _ (e : run w m calls ≡ before ++ (making_it ∷ (between ++ (checking_it ∷ later)))) where
    split_at : run w m calls ≡ up ++ (checking_it ∷ later)
    split_at = e ∙ sym (append_assoc before (making_it ∷ between) (checking_it ∷ later))

    -- times never go back, and the checking wasn't refused
    module _ (forward : NeverBack (run w m calls)) (counts : is_refused r.answer ≡ false) where
      in_order : made_at ≤ checked-at
      in_order = forward before between later making_it checking_it e refl counts

      none_before : NoneBefore made_at between
      none_before xs ys y s q =
          forward before xs (ys ++ (checking_it ∷ later)) making_it y
          (e ∙ ap (λ (l : List Entry). before ++ (making_it ∷ l)) (ap (λ (l : List Entry). l ++ (checking_it ∷ later)) s ∙ append_assoc xs (y ∷ ys) (checking_it ∷ later))) refl q

      none_after : NoneAfter checked-at up
      none_after xs ys y s q =
          forward xs ys later y checking_it (split_at ∙ ap (λ (l : List Entry). l ++ (checking_it ∷ later)) s ∙ append_assoc xs (y ∷ ys) (checking_it ∷ later)) q counts

      -- no step was accepted after the checking's time
      last_low : (ledger_past w up).last ≤ checked-at
      unfolding account
      last_low = subst (λ (v : View). v.last ≤ checked-at) (sym (seen_at w m calls up (checking_it ∷ later) split_at)) (last_by_lem checked-at [] up none_after (omega arith))

      -- nor one before the making's, since then
      steps_from : AllFrom w made_at (ledger_past w before) (records_in between)
      unfolding past
      steps_from =
          let s = split w m fresh_ledger calls before (making_it ∷ (between ++ (checking_it ∷ later))) e in
          let n = next_of w m (ledger_past w before) s.others making_it (between ++ (checking_it ∷ later)) s.second_part in
          let b = split w m (ledger_past w before) n.others between (checking_it ∷ later) (sym n.next) in
          subst (λ (es : List Entry). AllFrom w made_at (ledger_past w before) (records_in es)) (sym b.first_part)
          (all_from w m made_at (ledger_past w before) b.earlier (subst (NoneBefore made_at) b.first_part none_before))

      -- what the maker makes with, the checker accepts
      accepted_then : 3600 < w → checked-at ≤ made_at + 3600 → (makers others : Secrets) → secrets_of (view_of (ledger_past w before)) maker ≡ some makers
          → secrets_of (view_of (ledger_past w up)) checker ≡ some others → Accepts others (generating_of makers)
      accepted_then long young makers others makes holds =
          let first = ledger_projected w fresh_ledger before in
          let whole = ledger_projected w fresh_ledger up ∙ ap (ledger_after w) (records_more before (making_it ∷ between)) in
          longer_is_enough w long (records_in before) (records_in between) maker checker made_at checked-at makers others
          (subst (λ (l : Ledger). secrets_of (view_of l) maker ≡ some makers) first makes)
          (subst (λ (l : Ledger). AllFrom w made_at l (records_in between)) first steps_from)
          (subst (λ (l : Ledger). l.last ≤ checked-at) whole last_low) young
          (subst (λ (l : Ledger). secrets_of (view_of l) checker ≡ some others) whole holds)

-- who accepts a secret holds it
held_of : (secrets : Secrets) (secret : Secret) → Accepts secrets secret → Holds secrets secret
held_of secrets secret (inl e) = Holds.makes_with e
held_of secrets secret (inr e) = Holds.accepts e

found_one : (f g : Finding) → found f ≡ found g → f ≡ g
found_one f g e = cc

-- what was made with a secret that the checker holds is good, with the difference of the times as its age
module _ (m : CookieMethod) (eight : EightBytes m) (made_at checked-at : ℕ) (mode : Mode) (client address output written : List ℕ) where
  meet : made_at ≤ checked-at → checked-at ≤ made_at + 3600 → (mode ≡ Disabled → ⊥) → length client ≡ 8 → (makes holds : Option Secrets)
      → (maker : WasMade m makes made_at client address output written) → (a : Answer) (checker : WasJudged m holds mode checked-at address (take 24 (drop 4 written)) a)
      → Accepts checker.secrets (generating_of maker.secrets) → (which : Which) × (a ≡ judged (good (sub_ℕ checked-at made_at) which))
  meet in_order young on wide makes holds maker a checker accepts =
      let secret = generating_of maker.secrets in
      let g = (fresh_is_good m eight secret checker.secrets mode on made_at checked-at (omega arith) young address client output maker.room maker.from wide
      ).by_holder (held_of checker.secrets secret accepts) in
      let same : take 24 (drop 4 written) ≡ written_body written = sym (body_back m makes made_at client address output written maker) in
      let body = same ∙ ap written_body maker.leaves in
      let is = sym checker.judges ∙ ap (λ (b : List ℕ). judgement m mode checker.secrets (clock_at checked-at) address b) body ∙ g.1 in
      (g.0, checker.answers ∙ ap judged (found_one checker.finding (good (sub_ℕ checked-at made_at) g.0) is))

-- ---- the claim

module _ (w : ℕ) (m : CookieMethod) (calls : List Call) where
  stays_good : EightBytes m → 3600 < w → (seconds : ℕ) → seconds ≤ 3600 → NeverBack (run w m calls) → GoodWithin (run w m calls) seconds
  unfolding reply_to
  stays_good eight long seconds few forward before between later maker checker made_at checked-at mode client address output written r e wide on counts young =
      let body = take 24 (drop 4 written) in
      let to-checking = up w m calls before between later maker checker made_at checked-at mode client address output written body r in
      let makes = secrets_of (view_of (ledger_past w before)) maker in
      let holds = secrets_of (view_of (ledger_past w to-checking)) checker in
      let whole = split_at w m calls before between later maker checker made_at checked-at mode client address output written body r e in
      let wrote = was_made m makes made_at client address output written (replied w m calls before _ _ (made leaving written) e) in
      let told = ap (λ (x : Reply). x.answer) (replied w m calls to-checking later _ r whole) in
      let found = subst (WasJudged m holds mode checked-at address body) (sym told)
      (was_judged m holds mode checked-at address body (ap is_refused (sym told) ∙ counts)) in
      meet m eight made_at checked-at mode client address output written
      (in_order w m calls before between later maker checker made_at checked-at mode client address output written body r e forward counts)
      (omega arith) on wide makes holds wrote r.answer found
      (accepted_then w m calls before between later maker checker made_at checked-at mode client address output written body r e forward counts long (omega arith)
      wrote.secrets found.secrets wrote.holds found.holds)

  -- what is read off the account, where the run is split
  module _ (before later : List Entry) where
    abbrev h : List Step
    h = accepted_in before

    steps_answered : (bytes : List ℕ) (r : Reply) → run w m calls ≡ before ++ (step bytes got r ∷ later) → OfStep (refusals w (account h) (read_step bytes)) r.answer
    unfolding reply_to refusal
    steps_answered bytes r e =
        let rows = refusals w (account h) (read_step bytes) in
        subst (λ (x : Reply). OfStep rows x.answer) (sym (accounted w m calls before later (step bytes) r e)) (of_step rows (all_numbered rows refl))

    secrets_given : (member : ℕ) → run w m calls ≡ before ++ later → HeldBy h member (secrets_of (view_of (ledger_past w before)) member)
    secrets_given member e = subst (λ (v : View). HeldBy h member (secrets_of v member)) (sym (seen_at w m calls before later e)) (held_by h member)

    makings_answered : EightBytes m → (member time : ℕ) (client address output : List ℕ) (r : Reply)
        → run w m calls ≡ before ++ (making member time client address output got r ∷ later) → OfMaking m (secrets_of (account h) member) time client address output r
    unfolding reply_to
    makings_answered eight member time client address output r e =
        subst (OfMaking m (secrets_of (account h) member) time client address output)
        (sym (accounted w m calls before later (making member time client address output) r e)) (of_making m eight _ time client address output)

    checkings_answered : (member : ℕ) (mode : Mode) (time : ℕ) (address body : List ℕ) (r : Reply)
        → run w m calls ≡ before ++ (checking member mode time address body got r ∷ later)
        → OfChecking m (secrets_of (account h) member) mode time address body r.answer
    unfolding reply_to
    checkings_answered member mode time address body r e =
        subst (λ (x : Reply). OfChecking m (secrets_of (account h) member) mode time address body x.answer)
        (sym (accounted w m calls before later (checking member mode time address body) r e)) (of_checking m _ mode time address body)

pub longer_waits : LongerWaits
longer_waits w long m eight calls = record {
  each_once = each_once w m fresh_ledger calls;
  seen = seen_at w m calls;
  steps = steps_answered w m calls;
  secrets = secrets_given w m calls;
  makings = λ before later. makings_answered w m calls before later eight;
  checkings = checkings_answered w m calls;
  replies = accounted w m calls;
  stays_good = stays_good w m calls eight (omega arith) _ (omega arith);
}

pub demand_three : DemandThree
demand_three = longer_waits _ (omega arith) sip_hash_method siphash_eight
