-- Claims about the rollover ledger: document 01, "The rollover ledger". The table, kind by kind, has document 01's wait; every other claim is for every wait, and for
-- every list of records offered to a fresh ledger. Assumes nothing.
use Rattle.std.specs.Prelude.{ℕ, suc, ◌+◌, ◌*◌, ◌≤◌, ◌<◌, ◌≡◌, true, false, not, cond, ◌||◌, List, [], ◌∷◌, ◌++◌, ◌⊎◌, eqb, leb, ltb}
use Rattle.std.proofs.Math.Option.{Option, none, some}
use Rattle.octets.specs.Refusals.{Row, ◌when◌, first, FirstIs, NoneApplies}
use Rattle.secret.specs.Secret.{same_secret}
use Rattle.secret.specs.Secrets.{generating_of, other_of}
use Rattle.secret.specs.declared.Secret.{Secret}
use Rattle.secret.specs.declared.Secrets.{Secrets}
use Rattle.secret.specs.declared.Secrets.TheVariants.{One, Two}
use Rattle.ledger.specs.declared.Ledger.{Ledger}
use Rattle.ledger.specs.declared.Step.{Step}
use Rattle.ledger.specs.Account.{account, count_by, current_by, opened_by}
use Rattle.ledger.specs.Journal.{read_step, OPEN, CANCEL, is, is_member_step}
use Rattle.ledger.specs.Ledger.{view_of}
use Rattle.ledger.specs.Rules.{View, any_at, wait, refusals, refusal, secrets_of}
use Rattle.ledger.specs.Run.{offered, ledger_after, history}

-- ---- the table, kind by kind

-- a step by its fields
abbrev pub step_of : ℕ → ℕ → ℕ → Secret → Step
step_of kind member time secret = record { kind = kind; member = member; time = time; secret = secret }

-- what is asked of a step of each kind, with document 01's numbers, its wait among them, and no row that cannot apply to it
module _ (v : View) (m t : ℕ) (x : Secret) where
  -- of every kind that there is
  abbrev pub timely : List Row → List Row
  timely rows = 2 when ltb 281474976710655 t ∷ 3 when ltb t v.last ∷ rows

  -- of LEARN, SWITCH and DROP, from a stage
  abbrev pub moving : ℕ → List Row → List Row
  moving from rows =
      timely
      (5 when (not v.started || not v.rolling)
      ∷ 6 when not (same_secret x v.new)
      ∷ 7 when not (v.present m)
      ∷ 8 when not (eqb (v.stage m) from)
      ∷ rows)

  -- START, OPEN, LEARN, SWITCH, DROP, CANCEL, and any other
  pub record ByKind : Type 0 where
    pub starts : refusal wait v (step_of 0 m t x) ≡ first (timely (4 when v.started ∷ 7 when (eqb m 0 || ltb 32 m) ∷ []))
    pub opens : refusal wait v (step_of 1 m t x) ≡ first (timely (4 when v.rolling ∷ 5 when not v.started ∷ 6 when same_secret x v.current ∷ []))
    pub learns : refusal wait v (step_of 2 m t x) ≡ first (moving 0 [])
    pub switches : refusal wait v (step_of 3 m t x) ≡ first (moving 1 (9 when any_at v 0 ∷ []))
    pub drops : refusal wait v (step_of 4 m t x) ≡ first (moving 2 (9 when (any_at v 0 || any_at v 1) ∷ 10 when ltb t (v.last_switch + 3601) ∷ []))
    pub cancels : refusal wait v (step_of 5 m t x)
        ≡ first (timely (5 when (not v.started || not v.rolling) ∷ 6 when not (same_secret x v.new) ∷ 9 when (any_at v 2 || any_at v 3) ∷ []))
    pub others : (kind : ℕ) → 6 ≤ kind → refusal wait v (step_of kind m t x) ≡ 1

-- the claim
abbrev pub TheTable : Type 0
TheTable = (v : View) (m t : ℕ) (x : Secret) → ByKind v m t x

-- ---- records one by one

-- a record more finds the ledger that those before it left; the history grows by its step if that is accepted, and otherwise not
pub record OneMore (w : ℕ) (records : List (List ℕ)) (bytes : List ℕ) : Type 0 where
  pub ledger : ledger_after w (records ++ (bytes ∷ [])) ≡ (offered w (ledger_after w records) bytes).ledger
  pub steps : history w (records ++ (bytes ∷ []))
      ≡ cond (eqb (offered w (ledger_after w records) bytes).answer 0) (read_step bytes ∷ history w records) (history w records)

-- the claim
abbrev pub OneByOne : Type 0
OneByOne = (w : ℕ) (records : List (List ℕ)) (bytes : List ℕ) → OneMore w records bytes

-- ---- the account

-- a member's secrets by the steps that were accepted: none for a number that is not below the count (before START the count is 0), and otherwise the stage table's
pub record HeldBy (h : List Step) (m : ℕ) (held : Option Secrets) : Type 0 where
  pub at_most : (account h).stage m ≤ 3
  pub none_held : count_by h ≤ m → held ≡ none
  pub at_0 : m < count_by h → (account h).stage m ≡ 0 → held ≡ some (One (current_by h))
  pub at_1 : m < count_by h → (account h).stage m ≡ 1 → held ≡ some (Two (current_by h) (opened_by h))
  pub at_2 : m < count_by h → (account h).stage m ≡ 2 → held ≡ some (Two (opened_by h) (current_by h))
  pub at_3 : m < count_by h → (account h).stage m ≡ 3 → held ≡ some (One (opened_by h))

-- after some records: what is seen of the ledger is the account of the steps that were accepted. Whatever is offered then is refused exactly when a row applies by that
-- account, with the first one's number, and accepted (0) exactly when none does. And a member's secrets are the stage table's by that account
pub record Accounted (w : ℕ) (records : List (List ℕ)) : Type 0 where
  pub seen : view_of (ledger_after w records) ≡ account (history w records)
  pub refused : (bytes : List ℕ) (n : ℕ) → FirstIs (refusals w (account (history w records)) (read_step bytes)) n → (offered w (ledger_after w records) bytes).answer ≡ n
  pub refused_when : (bytes : List ℕ) (n : ℕ) → (offered w (ledger_after w records) bytes).answer ≡ suc n
      → FirstIs (refusals w (account (history w records)) (read_step bytes)) (suc n)
  pub accepted : (bytes : List ℕ) → NoneApplies (refusals w (account (history w records)) (read_step bytes)) → (offered w (ledger_after w records) bytes).answer ≡ 0
  pub accepted_when : (bytes : List ℕ) → (offered w (ledger_after w records) bytes).answer ≡ 0 → NoneApplies (refusals w (account (history w records)) (read_step bytes))
  pub secrets : (m : ℕ) → HeldBy (history w records) m (secrets_of (view_of (ledger_after w records)) m)

-- the claim
abbrev pub TheAccount : Type 0
TheAccount = (w : ℕ) (records : List (List ℕ)) → Accounted w records

-- the claim: a refusal leaves any ledger as it was, its last time included
abbrev pub RefusedKeeps : Type 0
RefusedKeeps = (w : ℕ) (l : Ledger) (bytes : List ℕ) (n : ℕ) → (offered w l bytes).answer ≡ suc n → (offered w l bytes).ledger ≡ l

-- ---- three steps each

-- the member steps since the last OPEN
abbrev pub member_steps : List Step → ℕ
member_steps [] = 0
member_steps (s ∷ earlier) = cond (leb s.kind OPEN) 0 (cond (is_member_step s) (suc (member_steps earlier)) (member_steps earlier))

-- after some records, of which START gave n members: an open rollover has had fewer than 3n member steps; the member step that is accepted next leaves it open exactly
-- if it makes fewer than 3n, and the one that closes it makes the new secret current; nothing else is accepted while it is open but a CANCEL, which closes it and leaves
-- the current secret
pub record ThreeEach (w : ℕ) (records : List (List ℕ)) : Type 0 where
  pub fewer : (ledger_after w records).rolling ≡ true → member_steps (history w records) < 3 * count_by (history w records)
  pub next : (bytes : List ℕ) → (offered w (ledger_after w records) bytes).answer ≡ 0 → is_member_step (read_step bytes) ≡ true
      → (offered w (ledger_after w records) bytes).ledger.rolling ≡ ltb (suc (member_steps (history w records))) (3 * count_by (history w records))
  pub closing : (bytes : List ℕ) → (offered w (ledger_after w records) bytes).answer ≡ 0 → is_member_step (read_step bytes) ≡ true
      → (offered w (ledger_after w records) bytes).ledger.rolling ≡ false → (offered w (ledger_after w records) bytes).ledger.current ≡ (ledger_after w records).new
  pub other : (bytes : List ℕ) → (offered w (ledger_after w records) bytes).answer ≡ 0 → (ledger_after w records).rolling ≡ true → is_member_step (read_step bytes) ≡ false
      → (is CANCEL (read_step bytes) ≡ true) × ((offered w (ledger_after w records) bytes).ledger.rolling ≡ false)
      × ((offered w (ledger_after w records) bytes).ledger.current ≡ (ledger_after w records).current)

-- the claim: an open rollover of n members closes after exactly 3n accepted member steps unless cancelled
abbrev pub ThreeStepsEach : Type 0
ThreeStepsEach = (w : ℕ) (records : List (List ℕ)) → ThreeEach w records

-- ---- everybody accepts what anybody makes with

-- stage by stage, of members: with nothing open all are at 0; where one makes with the new secret (2 or 3) everybody accepts it (1 or more); where one does not accept
-- the current one any more (3) nobody makes with it (2 or 3), and the wait after the last SWITCH is over
pub record StageByStage (w : ℕ) (v : View) : Type 0 where
  pub at_rest : v.rolling ≡ false → (m : ℕ) → v.stage m ≡ 0
  pub at_most : (m : ℕ) → v.stage m ≤ 3
  pub learnt : (m k : ℕ) → v.present m ≡ true → v.present k ≡ true → 2 ≤ v.stage m → 1 ≤ v.stage k
  pub switched : (m k : ℕ) → v.present m ≡ true → v.present k ≡ true → 3 ≤ v.stage m → 2 ≤ v.stage k
  pub waited : (m : ℕ) → v.present m ≡ true → 3 ≤ v.stage m → v.last_switch + w ≤ v.last

-- a secret is among those that a member accepts
abbrev pub Accepts : Secrets → Secret → Type 0
Accepts held s = (generating_of held ≡ s) ⊎ (other_of held ≡ some s)

-- after some records: the stages, every member of a started ledger holds secrets, and everybody accepts what anybody makes with
pub record Agreed (w : ℕ) (records : List (List ℕ)) : Type 0 where
  pub stages : StageByStage w (view_of (ledger_after w records))
  pub holds : (m : ℕ) → (view_of (ledger_after w records)).present m ≡ true → (held : Secrets) × (secrets_of (view_of (ledger_after w records)) m ≡ some held)
  pub accepts : (m k : ℕ) (makers others : Secrets) → secrets_of (view_of (ledger_after w records)) m ≡ some makers
      → secrets_of (view_of (ledger_after w records)) k ≡ some others → Accepts others (generating_of makers)

-- the claim, on which demand 3 rests: at every ledger that steps from a fresh one can give, everybody accepts what anybody makes with
abbrev pub EverybodyAccepts : Type 0
EverybodyAccepts = (w : ℕ) (records : List (List ℕ)) → Agreed w records

-- ---- a secret stays accepted for as long as a cookie is good

-- of some records offered to a ledger, those that are accepted are at a time or later
abbrev pub AllFrom : ℕ → ℕ → Ledger → List (List ℕ) → Type 0
AllFrom w time l [] = Unit {0}
AllFrom w time l (bytes ∷ rest) = ((offered w l bytes).answer ≡ 0 → time ≤ (read_step bytes).time) × AllFrom w time (offered w l bytes).ledger rest

-- with a wait: after some records a member makes with a secret, at some time. Whatever is offered from then on, every member accepts that secret while 3,600 seconds have
-- not passed
abbrev pub StaysAccepted : ℕ → Type 0
StaysAccepted w =
    (records more : List (List ℕ)) (maker other made now : ℕ) (makers others : Secrets)
    → secrets_of (view_of (ledger_after w records)) maker ≡ some makers
    → AllFrom w made (ledger_after w records) more
    → (ledger_after w (records ++ more)).last ≤ now → now ≤ made + 3600
    → secrets_of (view_of (ledger_after w (records ++ more))) other ≡ some others
    → Accepts others (generating_of makers)

-- the claim, with document 01's wait
abbrev pub WaitIsEnough : Type 0
WaitIsEnough = StaysAccepted wait

-- the claim, with every wait greater than 3,600. One of 3,600 is not enough: a cookie may be made in the second of the last SWITCH
abbrev pub LongerIsEnough : Type 0
LongerIsEnough = (w : ℕ) → 3600 < w → StaysAccepted w
