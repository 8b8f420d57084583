-- Demand 3, a single claim about a list of calls from a fresh ledger. Assumes nothing.
use Rattle.std.specs.Prelude.{ℕ, ◌+◌, ◌%◌, ◌^◌, ◌≤◌, ◌<◌, ◌≡◌, true, false, cond, List, [], ◌∷◌, ◌++◌, map, length, take, drop}
use Rattle.std.proofs.Math.Option.{Option, none, some}
use Rattle.std.proofs.Math.IntN.{sub_ℕ}
use Rattle.octets.specs.Refusals.{Row, FirstIs, NoneApplies}
use Rattle.secret.specs.Secrets.{generating_of}
use Rattle.secret.specs.declared.Secrets.{Secrets}
use Rattle.verdict.specs.Findings.Finding.{good}
use Rattle.verdict.specs.declared.Mode.{Mode}
use Rattle.verdict.specs.declared.Mode.TheVariants.{Disabled}
use Rattle.verdict.specs.declared.Which.{Which}
use Rattle.cookie.specs.Claims.{AnAddress, EightBytes, Holding}
use Rattle.cookie.specs.CookieOption.{fresh_server}
use Rattle.cookie.specs.ServerCookie.{CookieMethod, sip_hash_method, verdict}
use Rattle.ledger.specs.Account.{account}
use Rattle.ledger.specs.Claims.{HeldBy}
use Rattle.ledger.specs.Journal.{read_step}
use Rattle.ledger.specs.Ledger.{view_of}
use Rattle.ledger.specs.Rules.{View, wait, refusals, refusal, secrets_of}
use Rattle.ledger.specs.declared.Step.{Step}
use Rattle.fleet.specs.Calls.{Call, Answer, Reply, Entry, ◌leaving◌, ◌got◌, step_answer, making_reply, checking_answer, reply_to, run, ledger_past, is_refused, accepted_in, time_of}
use Rattle.fleet.specs.Calls.Answer.{accepted, refused, no_secrets, made, judged}
use Rattle.fleet.specs.Calls.Call.{step, making, checking}

-- ---- each kind of call

-- a step is refused exactly when a row applies, with the first one's number, and accepted exactly when none does
pub record OfStep (rows : List Row) (a : Answer) : Type 0 where
  pub refused_when : (n : ℕ) → FirstIs rows n → a ≡ refused n
  pub refused_only : (n : ℕ) → a ≡ refused n → FirstIs rows n
  pub accepted_when : NoneApplies rows → a ≡ accepted
  pub accepted_only : a ≡ accepted → NoneApplies rows

-- why a making is refused: there are no secrets, or 1 or 2 of the request table applies
pub data MakingRefused (held : Option Secrets) (address output : List ℕ) : Type 0 where
  no_secrets_case : held ≡ none → MakingRefused held address output
  by_1 : length output ≤ 27 → MakingRefused held address output
  by_2 : (AnAddress address → ⊥) → MakingRefused held address output

-- a making by a member that holds these secrets: refused exactly for these reasons, and then its output is as it was. Otherwise the output holds a fresh option, the client
-- cookie and then the server cookie of that second under the generating secret, and its other bytes are as they were
pub record OfMaking (m : CookieMethod) (held : Option Secrets) (time : ℕ) (client address output : List ℕ) (r : Reply) : Type 0 where
  pub refused_when : MakingRefused held address output → is_refused r.answer ≡ true
  pub refused_only : is_refused r.answer ≡ true → MakingRefused held address output
  pub number_1 : length output ≤ 27 → r.answer ≡ refused 1
  pub number_2 : 28 ≤ length output → (AnAddress address → ⊥) → r.answer ≡ refused 2
  pub number_none : 28 ≤ length output → AnAddress address → held ≡ none → r.answer ≡ no_secrets
  pub untouched : is_refused r.answer ≡ true → r.output ≡ output
  pub makes : is_refused r.answer ≡ false → r.answer ≡ made
  pub written : r.answer ≡ made → length client ≡ 8 → (secrets : Secrets) → held ≡ some secrets
      → Holding output r.output (client ++ fresh_server m (generating_of secrets) (time % 2 ^ 32) address client)

-- outside mode Disabled, a COOKIE body that is neither 8 bytes nor 16 to 40
pub record IllegalBody (mode : Mode) (body : List ℕ) : Type 0 where
  pub asked : mode ≡ Disabled → ⊥
  pub not_8 : length body ≡ 8 → ⊥
  pub not_more : 16 ≤ length body → length body ≤ 40 → ⊥

-- why a checking is refused: there are no secrets, or 2 of the request table applies, or, outside mode Disabled, 10
pub data CheckingRefused (held : Option Secrets) (mode : Mode) (address body : List ℕ) : Type 0 where
  no_secrets_case : held ≡ none → CheckingRefused held mode address body
  by_2 : (AnAddress address → ⊥) → CheckingRefused held mode address body
  by_10 : IllegalBody mode body → CheckingRefused held mode address body

-- a checking by a member that holds these secrets: refused exactly for these reasons, and otherwise the judge's verdict under them
pub record OfChecking (m : CookieMethod) (held : Option Secrets) (mode : Mode) (time : ℕ) (address body : List ℕ) (a : Answer) : Type 0 where
  pub refused_when : CheckingRefused held mode address body → is_refused a ≡ true
  pub refused_only : is_refused a ≡ true → CheckingRefused held mode address body
  pub number_2 : (AnAddress address → ⊥) → a ≡ refused 2
  pub number_10 : AnAddress address → IllegalBody mode body → a ≡ refused 10
  pub number_none : AnAddress address → (IllegalBody mode body → ⊥) → held ≡ none → a ≡ no_secrets
  pub judges : is_refused a ≡ false → (secrets : Secrets) → held ≡ some secrets → a ≡ judged (verdict m mode secrets (time % 2 ^ 32) address body)

-- ---- times that never go back

-- of any two calls that weren't refused, the later one in the list is at the same time or later
abbrev pub NeverBack : List Entry → Type 0
NeverBack entries =
    (before between later : List Entry) (x y : Entry) → entries ≡ before ++ (x ∷ (between ++ (y ∷ later)))
    → is_refused x.reply.answer ≡ false → is_refused y.reply.answer ≡ false → time_of x.call ≤ time_of y.call

-- the same, worked out along the list: no call that wasn't refused is before t, or before one that stands earlier
abbrev pub Forward : ℕ → List Entry → Type 0
Forward t [] = Unit {0}
Forward t (e ∷ rest) = cond (is_refused e.reply.answer) (Forward t rest) ((t ≤ time_of e.call) × Forward (time_of e.call) rest)

-- the claim, both ways
abbrev pub ForwardNeverBack : Type 0
ForwardNeverBack = (entries : List Entry) → (Forward 0 entries → NeverBack entries) × (NeverBack entries → Forward 0 entries)

-- ---- demand 3

-- of a list of calls with their replies: a cookie freshly made by a member is good at every later checking that isn't refused, by whichever member whose mode isn't Disabled,
-- for the same client cookie and address, while its age is at most so many seconds. That age is the checking's time less the making's, and the verdict carries it. The body
-- that is checked is the 24 bytes as they were written. Which secret matched is what `checkings` below gives: the maker's, or the checker's generating one where that has the
-- same hash
abbrev pub GoodWithin : List Entry → ℕ → Type 0
GoodWithin entries seconds =
    (before between later : List Entry) (maker checker made_at checked-at : ℕ) (mode : Mode) (client address output written : List ℕ) (r : Reply)
    → entries
    ≡ before ++ (making maker made_at client address output got made leaving written
    ∷ (between ++ (checking checker mode checked-at address (take 24 (drop 4 written)) got r
    ∷ later)))
    → length client ≡ 8
    → (mode ≡ Disabled → ⊥)
    → is_refused r.answer ≡ false
    → checked-at ≤ made_at + seconds
    → (which : Which) × (r.answer ≡ judged (good (sub_ℕ checked-at made_at) which))

module _ (w : ℕ) (m : CookieMethod) (calls : List Call) (entries : List Entry) where
  -- Of some calls from a fresh ledger, and the same calls with their replies. Wherever that list is split, all is worked out from the steps accepted before that point alone,
  -- by their account:
  -- each_once    its calls are those that were given, in their order, with one reply each
  -- seen         what is seen of the ledger is that account: makings, checkings and refused steps leave it alone
  -- steps        a step is refused exactly when one of document 01's reasons applies, with the first one's number
  -- secrets      asked for a member's secrets, the ledger gives those of the stage table
  -- makings      a making is refused exactly when there are no secrets or 1 or 2 applies; its output, refused or not
  -- checkings    a checking is refused exactly when there are no secrets or 2 or, outside Disabled, 10 applies; its verdict
  -- replies      the replies of these three kinds, in one equation with the definition that the promises cite
  -- stays_good   if the times of the calls that weren't refused never go back, a fresh cookie is good at every checking for 3,600 seconds
  pub record DemandThreeFor : Type 0 where
    pub each_once : map (λ e. e.call) entries ≡ calls
    pub seen : (before later : List Entry)
        → entries ≡ before ++ later
        → view_of (ledger_past w before) ≡ account (accepted_in before)
    pub steps : (before later : List Entry) (bytes : List ℕ) (r : Reply)
        → entries ≡ before ++ (step bytes got r ∷ later)
        → OfStep (refusals w (account (accepted_in before)) (read_step bytes)) r.answer
    pub secrets : (before later : List Entry) (member : ℕ)
        → entries ≡ before ++ later
        → HeldBy (accepted_in before) member (secrets_of (view_of (ledger_past w before)) member)
    pub makings : (before later : List Entry) (member time : ℕ) (client address output : List ℕ) (r : Reply)
        → entries ≡ before ++ (making member time client address output got r ∷ later)
        → OfMaking m (secrets_of (account (accepted_in before)) member) time client address output r
    pub checkings : (before later : List Entry) (member : ℕ) (mode : Mode) (time : ℕ) (address body : List ℕ) (r : Reply)
        → entries ≡ before ++ (checking member mode time address body got r ∷ later)
        → OfChecking m (secrets_of (account (accepted_in before)) member) mode time address body r.answer
    pub replies : (before later : List Entry) (call : Call) (r : Reply)
        → entries ≡ before ++ (call got r ∷ later)
        → r ≡ reply_to w m (account (accepted_in before)) call
    pub stays_good : NeverBack entries → GoodWithin entries 3600

-- demand 3, entire: with document 01's wait and SipHash-2-4, for every list of calls
abbrev pub DemandThree : Type 0
DemandThree = (calls : List Call) → DemandThreeFor wait sip_hash_method calls (run wait sip_hash_method calls)

-- the same with every wait greater than 3,600 and every method of eight bytes
abbrev pub LongerWaits : Type 0
LongerWaits = (w : ℕ) → 3600 < w → (m : CookieMethod) → EightBytes m → (calls : List Call) → DemandThreeFor w m calls (run w m calls)

-- and with a wait of 3,600, as students write it, it is false
abbrev pub ShorterFails : Type 0
ShorterFails = ((calls : List Call) → DemandThreeFor 3600 sip_hash_method calls (run 3600 sip_hash_method calls)) → ⊥

-- ---- it leaves nothing open

-- the claim: whatever replies it holds of are those of the run
abbrev pub OnlyTheRun : Type 0
OnlyTheRun = (w : ℕ) (m : CookieMethod) (calls : List Call) (entries : List Entry) → DemandThreeFor w m calls entries → entries ≡ run w m calls

-- the claim: the words for each kind of call, and for a member's secrets, decide it each by themselves
pub record WordsDecide : Type 0 where
  pub of_step : (w : ℕ) (v : View) (s : Step) (a : Answer) → OfStep (refusals w v s) a → a ≡ step_answer (refusal w v s)
  pub of_making : (m : CookieMethod) → EightBytes m → (held : Option Secrets) (time : ℕ) (client address output : List ℕ) → length client ≡ 8 → (r : Reply)
      → OfMaking m held time client address output r → r ≡ making_reply m held time client address output
  pub of_checking : (m : CookieMethod) (held : Option Secrets) (mode : Mode) (time : ℕ) (address body : List ℕ) (a : Answer)
      → OfChecking m held mode time address body a → a ≡ checking_answer m held mode time address body
  pub of_secrets : (h : List Step) (member : ℕ) (held : Option Secrets) → HeldBy h member held → held ≡ secrets_of (account h) member
