-- What is claimed of the library for C, beside the promise of each function: that the header's functions read back what an answer says, and that C's calls are the calls
-- of crate fleet, of which demand 3 speaks. Assumes nothing.
use Rattle.std.specs.Prelude.{◌≡◌, ℕ, suc, ◌-◌, ◌≤◌, true, cond, List, [], ◌∷◌, length, take, drop, ℤ, pos, ◌==◌, ◌≢◌, nat_le, nat_lt}
use Rattle.std.proofs.Math.Option.{none, some}
use Rattle.octets.specs.Runs.{written}
use Rattle.secret.specs.declared.Secrets.{Secrets}
use Rattle.secret.specs.declared.Secrets.TheVariants.{One, Two}
use Rattle.verdict.specs.Findings.{Finding}
use Rattle.verdict.specs.Findings.Finding.{ignored, absent, clientOnly, bad, good}
use Rattle.verdict.specs.ReplyTable.{Sent, serve, truncate, error, ◌carrying◌}
use Rattle.verdict.specs.declared.Carried.{Carried}
use Rattle.verdict.specs.declared.Carried.TheVariants.{Nothing, Fresh, Kept}
use Rattle.verdict.specs.declared.Which.TheVariants.{Generating, Other}
use Rattle.cookie.specs.ServerCookie as cookie
use Rattle.cookie.specs.Claims.{AnAddress}
use Rattle.cookie.specs.ServerCookie.{sip_hash_method, judgement}
use Rattle.request.specs.Request as request
use Rattle.server.specs.Server as server
use Rattle.ledger.specs.Ledger.{view_of, fresh_ledger}
use Rattle.ledger.specs.Rules.{wait, secrets_of}
use Rattle.ledger.specs.Run.{Entry, run, ledger_after, offered}
use Rattle.ledger.specs.declared.Ledger.{Ledger}
use Rattle.rows.specs.Rows.{row_line, longest}
use Rattle.listing.specs.Listing.{next, row_of}
use Rattle.listing.specs.declared.Lister.{Lister}
use Rattle.fleet.specs.Calls as fleet
use Rattle.fleet.specs.Calls.{clock_at, making_reply, checking_answer}
use Rattle.snapshot.specs.Claims.{Octets, SecretFits, Fits}
use Rattle.snapshot.specs.Snapshot.{size, snapshot_of, ledger_in}
use Rattle.dnscookie_find.specs.Find.{find_call}
use Rattle.dnscookie.specs.Calls.{Outcome, ◌leaving◌, is_mode, mode_of, are_secrets, secrets_in, secrets_bytes, holder_refusal, respond_call, judge_call, make_call, fresh_call, step_call, secrets_call, line_call}
use Rattle.dnscookie.specs.Words.{no_secrets, due_number, judged_word, length_word, number_in, reply_in, option_in, age_in, qdcount_in, start_in, end_in, length_in}

-- ---- the header's functions read all that is answered

-- a verdict by its number and an age
abbrev pub finding_as : ℕ → ℤ → Finding
finding_as number a =
    cond (number == 200) ignored
    (cond (number == 201) absent
    (cond (number == 202) clientOnly
    (cond (nat_le number 205) (bad (number - 202))
    (good a (cond (number == 206) Generating Other)))))

-- what a reply is
abbrev pub sent_as : ℕ → Sent
sent_as reply = cond (reply == 0) serve (cond (reply == 128) truncate (error reply))

-- the option that it carries
abbrev pub carried_as : ℕ → Carried
carried_as option = cond (option == 0) Nothing (cond (option == 1) Fresh Kept)

-- of dnscookie_respond
abbrev pub responded_in : ℕ → server.Answer
responded_in w =
    cond (nat_lt (number_in w) 200) (server.refused (number_in w))
    (server.replied (finding_as (number_in w) (age_in w)) (sent_as (reply_in w) carrying carried_as (option_in w)))

-- of dnscookie_judge
abbrev pub judged_in : ℕ → cookie.Answer
judged_in w = cond (nat_lt (number_in w) 200) (cookie.refused (number_in w)) (cookie.found (finding_as (number_in w) (age_in w)))

-- of dnscookie_find
abbrev pub read_in : ℕ → request.Answer
read_in w =
    cond (number_in w == 0) (request.cookie (qdcount_in w) (start_in w) (end_in w))
    (cond (number_in w == 201) (request.no_cookie (qdcount_in w)) (request.refused (number_in w)))

-- the claim, for every call whose mode and secrets are not refused
abbrev pub RespondBack : Type 0
RespondBack =
    (mode : ℕ) (secrets : List ℕ) (clock : ℕ) (address message output : List ℕ) → holder_refusal mode secrets ≡ 0
    → responded_in (respond_call mode secrets clock address message output).answer ≡ (server.respond sip_hash_method (mode_of mode) (secrets_in secrets) clock address message output).answer

-- likewise
abbrev pub JudgeBack : Type 0
JudgeBack =
    (mode : ℕ) (secrets : List ℕ) (clock : ℕ) (address body : List ℕ) → holder_refusal mode secrets ≡ 0
    → judged_in (judge_call mode secrets clock address body) ≡ judgement sip_hash_method (mode_of mode) (secrets_in secrets) clock address body

-- the claim, for every message
abbrev pub FindBack : Type 0
FindBack = (s : List ℕ) → read_in (find_call s) ≡ request.request s

-- of a refused request the reply goes by the number; there is no option and no age
abbrev pub DueBack : Type 0
DueBack =
    (mode : ℕ) (secrets : List ℕ) (clock : ℕ) (address message output : List ℕ) (n : ℕ) → holder_refusal mode secrets ≡ 0
    → (server.respond sip_hash_method (mode_of mode) (secrets_in secrets) clock address message output).answer ≡ server.refused n
    → let w = (respond_call mode secrets clock address message output).answer in
    (reply_in w ≡ due_number (server.due n)) × (option_in w ≡ 0) × (age_in w ≡ pos 0)

-- where the mode or the secrets are refused, their number; dnscookie_respond says besides that the caller is at fault, and no option
abbrev pub FaultBack : Type 0
FaultBack =
    (mode : ℕ) (secrets : List ℕ) (clock : ℕ) (address message output body : List ℕ) (n : ℕ) → holder_refusal mode secrets ≡ suc n
    → let w = (respond_call mode secrets clock address message output).answer in
    (number_in w ≡ suc n) × (reply_in w ≡ due_number server.callersFault) × (option_in w ≡ 0) × (judged_in (judge_call mode secrets clock address body) ≡ cookie.refused (suc n))

-- ---- steps by C are steps of the ledger that demand 3 speaks of

-- the answers to records one after the other, each on the state that the one before left
abbrev pub answers_on : List ℕ → List (List ℕ) → List ℕ
answers_on state [] = []
answers_on state (bytes ∷ rest) = (step_call state bytes).answer ∷ answers_on (step_call state bytes).bytes rest

-- and the state that they leave
abbrev pub state_on : List ℕ → List (List ℕ) → List ℕ
state_on state [] = state
state_on state (bytes ∷ rest) = state_on (step_call state bytes).bytes rest

-- the answers of a run
abbrev pub answers_in : List Entry → List ℕ
answers_in [] = []
answers_in (e ∷ rest) = e.answer ∷ answers_in rest

-- what C has for each record: 32 bytes
abbrev pub Records : List (List ℕ) → Type 0
Records [] = Unit {0}
Records (bytes ∷ rest) = (length bytes ≡ 32) × Octets bytes × Records rest

-- from a fresh state, whatever the lent bytes held, the answers are the ledger's, and the state is the snapshot of the ledger that it is then
abbrev pub StepsAreTheLedgers : Type 0
StepsAreTheLedgers =
    (lent : List ℕ) → length lent ≡ size → (records : List (List ℕ)) → Records records
    → (answers_on (fresh_call lent).bytes records ≡ answers_in (run wait fresh_ledger records))
    × (state_on (fresh_call lent).bytes records ≡ snapshot_of (ledger_after wait records))

-- on any state: the ledger that is found in it after a step is the one that was found before, stepped
abbrev pub StepsOnAny : Type 0
StepsOnAny =
    (state bytes : List ℕ) → Octets state → length bytes ≡ 32 → Octets bytes → (l : Ledger) → ledger_in state ≡ some l
    → ((step_call state bytes).answer ≡ (offered wait l bytes).answer) × (ledger_in (step_call state bytes).bytes ≡ some (offered wait l bytes).ledger)

-- and the line that is then asked for is the listing's for the next record
abbrev pub LinesAreTheListings : Type 0
LinesAreTheListings =
    (at : Lister) → Fits at.ledger → (bytes output : List ℕ) → length bytes ≡ 32 → Octets bytes → longest ≤ length output
    → let s = step_call (snapshot_of at.ledger) bytes in
    let text = row_line (row_of at bytes) in
    line_call s.bytes (next at) bytes s.answer output ≡ length_word (length text) leaving written output 0 text

-- it fits into the room that is asked for, and its length is read
abbrev pub LengthTold : Type 0
LengthTold =
    (at : Lister) (bytes : List ℕ) → Octets bytes
    → let text = row_line (row_of at bytes) in
    (length text ≤ longest) × (number_in (length_word (length text)) ≡ 0) × (length_in (length_word (length text)) ≡ length text)

-- ---- and so are makings and checkings: a member asks for its secrets and hands on what it got

-- secrets whose words have the width that the code has for them
abbrev pub HeldFit : Secrets → Type 0
HeldFit (One secret) = SecretFits secret
HeldFit (Two generating other) = SecretFits generating × SecretFits other

-- secrets are handed on as they were given
abbrev pub SecretsCross : Type 0
SecretsCross = (secrets : Secrets) → HeldFit secrets → (are_secrets (secrets_bytes secrets) ≡ true) × (secrets_in (secrets_bytes secrets) ≡ secrets)

-- the bytes that a member gets
abbrev pub handed : Outcome → List ℕ
handed w = take (length_in w.answer) w.bytes

-- a making as C has it: made is 0. One without secrets is not reached: dnscookie_ledger_secrets has answered it
abbrev pub made_number : fleet.Answer → ℕ
made_number fleet.accepted = 0
made_number (fleet.refused n) = n
made_number fleet.no_secrets = no_secrets
made_number fleet.made = 0
made_number (fleet.judged f) = 0

-- a checking as C has it, likewise
abbrev pub checked_word : fleet.Answer → ℕ
checked_word fleet.accepted = 0
checked_word (fleet.refused n) = n
checked_word fleet.no_secrets = no_secrets
checked_word fleet.made = 0
checked_word (fleet.judged f) = judged_word (cookie.found f)

-- on a ledger's snapshot, for a member and an output with room for its secrets
module _ (l : Ledger) (member : ℕ) (room : List ℕ) where
  abbrev pub asked : Outcome
  asked = secrets_call (snapshot_of l) member room

  -- a member that has no secrets is told so
  abbrev pub NothingHeld : Type 0
  NothingHeld = secrets_of (view_of l) member ≡ none → asked ≡ no_secrets leaving room

  -- one that has them makes and checks as the fleet does
  abbrev pub MakesAsTheFleet : Type 0
  MakesAsTheFleet =
      (secrets : Secrets) → secrets_of (view_of l) member ≡ some secrets → (time : ℕ) (client address output : List ℕ) → length client ≡ 8
      → let r = making_reply sip_hash_method (secrets_of (view_of l) member) time client address output in
      make_call (handed asked) (clock_at time) address client output ≡ made_number r.answer leaving r.output

  abbrev pub ChecksAsTheFleet : Type 0
  ChecksAsTheFleet =
      (secrets : Secrets) → secrets_of (view_of l) member ≡ some secrets → (mode time : ℕ) (address body : List ℕ) → is_mode mode ≡ true
      → judge_call mode (handed asked) (clock_at time) address body ≡ checked_word (checking_answer sip_hash_method (secrets_of (view_of l) member) (mode_of mode) time address body)

-- every member on every ledger
abbrev pub MembersAreTheFleets : Type 0
MembersAreTheFleets = (l : Ledger) → Fits l → (member : ℕ) (room : List ℕ) → 32 ≤ length room → NothingHeld l member room × MakesAsTheFleet l member room × ChecksAsTheFleet l member room

-- ---- and dnscookie_respond judges and makes as these do

-- the body that dnscookie_find finds
abbrev pub body_found : List ℕ → List ℕ
body_found message = let w = find_call message in take (end_in w - start_in w) (drop (start_in w) message)

-- for one request
module _ (mode : ℕ) (secrets : List ℕ) (clock : ℕ) (address message output : List ℕ) where
  abbrev pub responded : Outcome
  responded = respond_call mode secrets clock address message output

  pub record Likewise : Type 0 where
    -- the number is dnscookie_find's where that finds no body, and otherwise dnscookie_judge's for the body
    pub number : number_in responded.answer
        ≡ cond (number_in (find_call message) == 0) (number_in (judge_call mode secrets clock address (body_found message))) (number_in (find_call message))
    -- and so is the age
    pub age : number_in (find_call message) ≡ 0 → age_in responded.answer ≡ age_in (judge_call mode secrets clock address (body_found message))
    -- a fresh option is the one that dnscookie_make makes for the client cookie of the body
    pub fresh : option_in responded.answer ≡ 1 → make_call secrets clock address (take 8 (body_found message)) output ≡ 0 leaving responded.bytes

-- for every one outside mode Disabled, with room for an option and an address that is one. Without these it is refused by 1 or 2, and Disabled looks at no cookie
abbrev pub RespondsLikewise : Type 0
RespondsLikewise =
    (mode : ℕ) (secrets : List ℕ) (clock : ℕ) (address message output : List ℕ) → holder_refusal mode secrets ≡ 0 → (mode ≢ 0) → 28 ≤ length output → AnAddress address
    → Likewise mode secrets clock address message output
