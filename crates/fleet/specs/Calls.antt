-- The calls on one ledger, what is answered to each, and a list of them one after the other: document 01, "Demand 3's calls, all on one ledger". The definitions are
-- over any wait and any method of making cookies; document 01's are `wait` (ledger/specs/Rules) and `sip_hash_method` (cookie/specs/ServerCookie). Assumes nothing.
use Rattle.std.specs.Prelude.{ℕ, ◌%◌, ◌^◌, Bool, true, false, cond, List, [], ◌∷◌}
use Rattle.std.proofs.Math.Option.{Option, none, some}
use Rattle.octets.specs.Refusals.{answered}
use Rattle.secret.specs.Secrets.{generating_of}
use Rattle.secret.specs.declared.Secrets.{Secrets}
use Rattle.verdict.specs.Findings.{Finding}
use Rattle.verdict.specs.declared.Mode.{Mode}
use Rattle.cookie.specs.CookieOption.{fresh_option, fresh_refusal, with_front}
use Rattle.cookie.specs.ServerCookie.{CookieMethod, checking_refusal, verdict}
use Rattle.ledger.specs.Journal.{read_step}
use Rattle.ledger.specs.Ledger.{view_of, fresh_ledger}
use Rattle.ledger.specs.Rules.{View, refusal, secrets_of}
use Rattle.ledger.specs.Run.{offered}
use Rattle.ledger.specs.declared.Ledger.{Ledger}
use Rattle.ledger.specs.declared.Step.{Step}

-- ---- calls and answers

pub data Call : Type 0 where
  -- a record of the journal is offered
  step : (bytes : List ℕ) → Call
  -- a member makes a fresh cookie for a client, into the output
  making : (member time : ℕ) (client address output : List ℕ) → Call
  -- a member checks the COOKIE body that came from an address
  checking : (member : ℕ) (mode : Mode) (time : ℕ) (address body : List ℕ) → Call

pub data Answer : Type 0 where
  -- of a step
  accepted : Answer
  -- by its number: in the ledger's table for a step, in the request table for a making or a checking
  refused : ℕ → Answer
  -- the ledger gives the member no secrets. It is no number of document 01's
  no_secrets : Answer
  -- of a making: a fresh option stands at the front of the output
  made : Answer
  -- of a checking
  judged : Finding → Answer

-- what comes of a call: the answer, and what its output holds afterwards. A step and a checking have none
pub record Reply : Type 0 where
  pub answer : Answer
  pub output : List ℕ

infix 70 ◌leaving◌
-- a reply as it is written
abbrev pub ◌leaving◌ : Answer → List ℕ → Reply
a leaving output = record { answer = a; output = output }

-- a cookie's clock is the ledger's time modulo 2 ^ 32
abbrev pub clock_at : ℕ → ℕ
clock_at time = time % 2 ^ 32

-- ---- what is answered, by what is seen of the ledger

-- to a step, by the number of its refusal
abbrev pub step_answer : ℕ → Answer
step_answer n = answered refused n accepted

module _ (m : CookieMethod) where
  -- to a making that no number refuses: a fresh option under the generating secret, and the output's other bytes as they were
  abbrev pub made_with : Option Secrets → ℕ → List ℕ → List ℕ → List ℕ → Reply
  made_with none time client address output = no_secrets leaving output
  made_with (some secrets) time client address output = made leaving with_front (fresh_option m (generating_of secrets) (clock_at time) address client) output

  -- to a making: refusals 1 and 2 of the request table, in their order, leave the output as it was. They go before 'no secrets', which is our decision: document 01 has no
  -- order for it
  unfoldable pub making_reply : Option Secrets → ℕ → List ℕ → List ℕ → List ℕ → Reply
  making_reply held time client address output =
      answered (λ n. refused n leaving output) (fresh_refusal output address) (made_with held time client address output)

  -- to a checking that no number refuses: the verdict
  abbrev pub judged_with : Option Secrets → Mode → ℕ → List ℕ → List ℕ → Answer
  judged_with none mode time address body = no_secrets
  judged_with (some secrets) mode time address body = judged (verdict m mode secrets (clock_at time) address body)

  -- to a checking: refusal 2 and, outside mode Disabled, 10, likewise
  unfoldable pub checking_answer : Option Secrets → Mode → ℕ → List ℕ → List ℕ → Answer
  checking_answer held mode time address body = answered refused (checking_refusal mode address body) (judged_with held mode time address body)

-- to any call. A member asks for its secrets at each making and checking, and uses just those
unfoldable pub reply_to : ℕ → CookieMethod → View → Call → Reply
reply_to w m v (step bytes) = step_answer (refusal w v (read_step bytes)) leaving []
reply_to w m v (making member time client address output) = making_reply m (secrets_of v member) time client address output
reply_to w m v (checking member mode time address body) = checking_answer m (secrets_of v member) mode time address body leaving []

-- ---- calls one after the other

-- the ledger afterwards. Makings and checkings leave it alone
unfoldable pub past : ℕ → Ledger → Call → Ledger
past w l (step bytes) = (offered w l bytes).ledger
past w l (making member time client address output) = l
past w l (checking member mode time address body) = l

-- a call and what came of it
pub record Entry : Type 0 where
  pub call : Call
  pub reply : Reply

infix 69 ◌got◌
-- an entry as it is written
abbrev pub ◌got◌ : Call → Reply → Entry
c got r = record { call = c; reply = r }

module _ (w : ℕ) (m : CookieMethod) where
  -- the calls, each with its reply; each finds the ledger that the one before left
  abbrev pub run_on : Ledger → List Call → List Entry
  run_on l [] = []
  run_on l (c ∷ rest) = c got reply_to w m (view_of l) c ∷ run_on (past w l c) rest

  -- from a fresh ledger
  abbrev pub run : List Call → List Entry
  run calls = run_on fresh_ledger calls

-- the ledger that the calls of some entries leave
abbrev pub past_on : ℕ → Ledger → List Entry → Ledger
past_on w l [] = l
past_on w l (e ∷ rest) = past_on w (past w l e.call) rest

-- from a fresh one
abbrev pub ledger_past : ℕ → List Entry → Ledger
ledger_past w entries = past_on w fresh_ledger entries

-- ---- what is read off a run

-- whether a step was accepted
abbrev pub is_accepted : Answer → Bool
is_accepted accepted = true
is_accepted (refused n) = false
is_accepted no_secrets = false
is_accepted made = false
is_accepted (judged f) = false

-- whether a call was refused
abbrev pub is_refused : Answer → Bool
is_refused accepted = false
is_refused (refused n) = true
is_refused no_secrets = true
is_refused made = false
is_refused (judged f) = false

-- the steps that were accepted so far, the newest first, and then one entry more
abbrev pub noted : List Step → Call → Answer → List Step
noted h (step bytes) a = cond (is_accepted a) (read_step bytes ∷ h) h
noted h (making member time client address output) a = h
noted h (checking member mode time address body) a = h

-- and then some more
abbrev pub accepted_on : List Step → List Entry → List Step
accepted_on h [] = h
accepted_on h (e ∷ rest) = accepted_on (noted h e.call e.reply.answer) rest

-- the accepted steps of some entries, the newest first
abbrev pub accepted_in : List Entry → List Step
accepted_in entries = accepted_on [] entries

-- the time of a call
abbrev pub time_of : Call → ℕ
time_of (step bytes) = (read_step bytes).time
time_of (making member time client address output) = time
time_of (checking member mode time address body) = time
