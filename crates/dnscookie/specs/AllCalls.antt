-- Every list of calls from a fresh state: what is answered to them by C is what crate fleet replies, of whose replies demand 3 speaks. Assumes nothing.
use Rattle.std.specs.Prelude.{◌≡◌, ℕ, suc, ◌≤◌, false, cond, List, [], ◌∷◌, length, ◌==◌}
use Rattle.octets.specs.Refusals.{answered}
use Rattle.verdict.specs.declared.Mode.{Mode}
use Rattle.verdict.specs.declared.Mode.TheVariants.{Disabled, Enabled, Enforced}
use Rattle.cookie.specs.ServerCookie as cookie
use Rattle.cookie.specs.ServerCookie.{sip_hash_method}
use Rattle.ledger.specs.Rules.{wait}
use Rattle.fleet.specs.Calls.{Call, Answer, Reply, Entry, ◌leaving◌, clock_at, is_refused, run}
use Rattle.fleet.specs.Calls.Answer.{accepted, refused, no_secrets, made, judged}
use Rattle.fleet.specs.Calls.Call.{step, making, checking}
use Rattle.snapshot.specs.Claims.{Octets}
use Rattle.snapshot.specs.Snapshot.{size}
use Rattle.dnscookie.specs.Calls.{Outcome, judge_call, make_call, fresh_call, step_call, secrets_call}
use Rattle.dnscookie.specs.Claims.{judged_in, handed}
use Rattle.dnscookie.specs.Words.{number_in}

-- a mode's number
abbrev pub mode_number : Mode → ℕ
mode_number Disabled = 0
mode_number Enabled = 1
mode_number Enforced = 2

-- what a C program has been told of a making, and of a checking
abbrev pub making_told : Outcome → Reply
making_told o = answered refused o.answer made leaving o.bytes

abbrev pub checking_told : cookie.Answer → Answer
checking_told (cookie.refused n) = refused n
checking_told (cookie.found f) = judged f

-- of secrets that were asked for and not given: that there are none, and any other number as a refusal
abbrev pub secrets_told : ℕ → Answer
secrets_told n = cond (n == 108) no_secrets (refused n)

-- a call by C on a state, with room for secrets. A member asks for them at each call, and goes no further without; who asks after each accepted step has the same bytes,
-- since nothing else alters the state
abbrev pub by_c : List ℕ → List ℕ → Call → Reply
by_c state room (step bytes) = answered refused (step_call state bytes).answer accepted leaving []
by_c state room (making member time client address output) =
    let held = secrets_call state member room in
    let n = number_in held.answer in
    cond (n == 0) (making_told (make_call (handed held) (clock_at time) address client output)) (secrets_told n leaving output)
by_c state room (checking member mode time address body) =
    let held = secrets_call state member room in
    let n = number_in held.answer in
    cond (n == 0) (checking_told (judged_in (judge_call (mode_number mode) (handed held) (clock_at time) address body))) (secrets_told n) leaving []

-- and the state afterwards
abbrev pub state_by : List ℕ → Call → List ℕ
state_by state (step bytes) = (step_call state bytes).bytes
state_by state (making member time client address output) = state
state_by state (checking member mode time address body) = state

-- calls one after the other, each with room of its own
abbrev pub replies_by_c : (ℕ → List ℕ) → List ℕ → List Call → List Reply
replies_by_c rooms state [] = []
replies_by_c rooms state (call ∷ rest) = by_c state (rooms 0) call ∷ replies_by_c (λ k. rooms (suc k)) (state_by state call) rest

-- what document 01's calls have: a record of 32 bytes, a client cookie of 8. Others are refused by 105 and 103 and alter nothing; they are no calls of the list
abbrev pub Crossing : Call → Type 0
Crossing (step bytes) = (length bytes ≡ 32) × Octets bytes
Crossing (making member time client address output) = length client ≡ 8
Crossing (checking member mode time address body) = Unit {0}

-- a reply by C says what the fleet's says: refused or not alike, the same output, the same answer if it is not refused, and the same number if one is told. Only "no secrets"
-- is told before a number, and in the fleet behind it
pub record SaysAs (c f : Reply) : Type 0 where
  pub output : c.output ≡ f.output
  pub alike : is_refused c.answer ≡ is_refused f.answer
  pub answer : is_refused f.answer ≡ false → c.answer ≡ f.answer
  pub number : (n : ℕ) → c.answer ≡ refused n → f.answer ≡ refused n

-- one by one
abbrev pub SayAs : List Reply → List Entry → Type 0
SayAs [] [] = Unit {0}
SayAs [] (e ∷ es) = ⊥
SayAs (c ∷ cs) [] = ⊥
SayAs (c ∷ cs) (e ∷ es) = SaysAs c e.reply × SayAs cs es

-- each of a list
abbrev pub AllCrossing : List Call → Type 0
AllCrossing [] = Unit {0}
AllCrossing (call ∷ rest) = Crossing call × AllCrossing rest

-- the claim: whatever the lent bytes held, the state is made fresh, and every list of such calls is told what the fleet's run replies
abbrev pub CallsAreTheFleets : Type 0
CallsAreTheFleets =
    (lent : List ℕ) → length lent ≡ size → (rooms : ℕ → List ℕ) → ((k : ℕ) → 32 ≤ length (rooms k)) → (calls : List Call) → AllCrossing calls
    → ((fresh_call lent).answer ≡ 0) × SayAs (replies_by_c rooms (fresh_call lent).bytes calls) (run wait sip_hash_method calls)
