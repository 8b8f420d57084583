-- What is claimed of snapshots: nothing is lost, and no two forms are one ledger's. Assumes nothing.
use Rattle.std.specs.Prelude.{◌≡◌, List, ℕ, ◌^◌, ◌<◌, get_or}
use Rattle.std.proofs.Math.Option.{some}
use Rattle.ledger.specs.Ledger.{fresh_ledger}
use Rattle.ledger.specs.Run.{offered}
use Rattle.ledger.specs.declared.Ledger.{Ledger}
use Rattle.secret.specs.declared.Secret.{Secret}
use Rattle.snapshot.specs.Snapshot.{snapshot_of, ledger_in}

-- a run of bytes
abbrev pub Octets : List ℕ → Type 0
Octets s = (i : ℕ) → get_or s i 0 < 256

-- a secret whose words have 64 bits
abbrev pub SecretFits : Secret → Type 0
SecretFits s = (s.k0 < 2 ^ 64) × (s.k1 < 2 ^ 64)

-- a ledger whose numbers have the widths that the code has for them, as each that the code holds does
pub record Fits (l : Ledger) : Type 0 where
  pub members : l.stages.members < 2 ^ 32
  pub learnt : l.stages.learnt < 2 ^ 32
  pub switched : l.stages.switched < 2 ^ 32
  pub dropped : l.stages.dropped < 2 ^ 32
  pub last : l.last < 2 ^ 64
  pub last_switch : l.last_switch < 2 ^ 64
  pub current : SecretFits l.current
  pub new : SecretFits l.new

-- it is read back from its snapshot
abbrev pub ReadBack : Type 0
ReadBack = (l : Ledger) → Fits l → ledger_in (snapshot_of l) ≡ some l

-- bytes in which a ledger is found are its snapshot
abbrev pub OneForm : Type 0
OneForm = (s : List ℕ) → Octets s → (l : Ledger) → ledger_in s ≡ some l → snapshot_of l ≡ s

-- every ledger that steps from a fresh one give has these widths, with any wait
abbrev pub StepsFit : Type 0
StepsFit = Fits fresh_ledger × ((w : ℕ) (l : Ledger) → Fits l → (bytes : List ℕ) → Octets bytes → Fits (offered w l bytes).ledger)
