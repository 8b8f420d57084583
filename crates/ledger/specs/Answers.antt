-- What the answers of this crate mean, in document 01's numbers and words, and the numbers of the kinds. Assumes nothing.
use Rattle.std.specs.Prelude.{ℕ, ◌≡◌, ◌<◌, Option, Some, None, Result, Ok, Err, MatchResult}
use Rattle.std.proofs.Math.Option as math
use Rattle.secret.specs.declared.Secrets.{Secrets}
use Rattle.ledger.specs.declared.kinds.Kind.{Kind}
use Rattle.ledger.specs.declared.kinds.Kind.TheVariants.{Start, Open, Learn, Switch, Drop, Cancel}
use Rattle.ledger.specs.declared.Refusal.{Refusal}
use Rattle.ledger.specs.declared.Refusal.TheVariants as refusal-as
use Rattle.ledger.specs.declared.Refusal.TheVariants.{Time, Earlier, Again, NotOpen, OtherSecret, NoMember, OtherStage, OthersApart, Wait}
use Rattle.ledger.specs.declared.Step.{Step}
use Rattle.ledger.specs.Journal.{START, OPEN, LEARN, SWITCH, DROP, CANCEL}

-- the number of a refusal
abbrev pub refusal_number : Refusal → ℕ
refusal_number refusal-as.Kind = 1
refusal_number Time = 2
refusal_number Earlier = 3
refusal_number Again = 4
refusal_number NotOpen = 5
refusal_number OtherSecret = 6
refusal_number NoMember = 7
refusal_number OtherStage = 8
refusal_number OthersApart = 9
refusal_number Wait = 10

-- of an answer: 0 for a step that is accepted
abbrev pub answer_number : Result Unit Refusal → ℕ
answer_number (Ok done) = 0
answer_number (Err reason) = refusal_number reason

-- the secrets that a member holds, if it holds any
abbrev pub held_of : Option Secrets → math.Option Secrets
held_of None = math.none
held_of (Some secrets) = math.some secrets

-- ---- the kinds

-- the number of a kind
abbrev pub kind_number : Kind → ℕ
kind_number Start = START
kind_number Open = OPEN
kind_number Learn = LEARN
kind_number Switch = SWITCH
kind_number Drop = DROP
kind_number Cancel = CANCEL

-- a number is that of a kind, or past the last one's and refused
abbrev pub Decodes : ℕ → Result Kind Refusal → Type 0
Decodes n r = MatchResult r (λ kind. kind_number kind ≡ n) (λ reason. (reason ≡ refusal-as.Kind) × (CANCEL < n))

-- a step as one of a kind
abbrev pub of_kind : Kind → Step → Step
of_kind kind s = record { kind = kind_number kind; member = s.member; time = s.time; secret = s.secret }
