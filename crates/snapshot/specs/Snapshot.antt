-- A ledger as bytes, which a controller keeps between steps and lends to each. No paper: the form is this project's own. Numbers are little-endian, as a secret's
-- words are. Assumes nothing.
use Rattle.std.specs.Prelude.{ℕ, Bool, cond, ◌&&◌, List, [], ◌∷◌, ◌++◌, eqb, leb, length, get_or, take, drop}
use Rattle.std.proofs.Math.Option.{Option, none, some}
use Rattle.octets.specs.Numbers.{le_number, le_bytes}
use Rattle.secret.specs.Secret.{secret_of, secret_bytes}
use Rattle.stages.specs.declared.Stages.{Stages}
use Rattle.ledger.specs.declared.Ledger.{Ledger}

-- bytes of a snapshot
abbrev pub size : ℕ
size = 68

-- the form below. A later form has another number, so that an older snapshot is refused and not misread; nor is one of zeros, which nobody wrote, taken for a fresh ledger
abbrev pub version : ℕ
version = 1

-- the four bytes at its front: the form, whether the ledger is started, whether a rollover is open, and 0
abbrev pub head_of : Bool → Bool → List ℕ
head_of started rolling = version ∷ cond started 1 0 ∷ cond rolling 1 0 ∷ 0 ∷ []

-- the members, and those that took LEARN, SWITCH and DROP in the open rollover, 4 bytes each
unfoldable pub stages_bytes : Stages → List ℕ
stages_bytes stages = le_bytes 4 stages.members ++ (le_bytes 4 stages.learnt ++ (le_bytes 4 stages.switched ++ le_bytes 4 stages.dropped))

-- all but the secrets: head; members; the times of the last accepted step and of the last accepted SWITCH, 8 bytes each
unfoldable pub front_of : Ledger → List ℕ
front_of l = head_of l.started l.rolling ++ (stages_bytes l.stages ++ (le_bytes 8 l.last ++ le_bytes 8 l.last_switch))

-- the whole: behind that the current and the new secret, 16 bytes each
unfoldable pub snapshot_of : Ledger → List ℕ
snapshot_of l = front_of l ++ (secret_bytes l.current ++ secret_bytes l.new)

-- ---- read back

-- whether these bytes are a snapshot
unfoldable pub is_snapshot : List ℕ → Bool
is_snapshot s = eqb (length s) size && (eqb (get_or s 0 0) version && (leb (get_or s 1 0) 1 && (leb (get_or s 2 0) 1 && eqb (get_or s 3 0) 0)))

-- the number of some bytes from a place on
abbrev pub number_at : ℕ → ℕ → List ℕ → ℕ
number_at count at s = le_number (take count (drop at s))

-- the members and how far they are
unfoldable pub stages_of : List ℕ → Stages
stages_of s = record { members = number_at 4 4 s; learnt = number_at 4 8 s; switched = number_at 4 12 s; dropped = number_at 4 16 s }

-- the ledger of a snapshot
unfoldable pub ledger_of : List ℕ → Ledger
ledger_of s = record {
  started = eqb (get_or s 1 0) 1;
  rolling = eqb (get_or s 2 0) 1;
  current = secret_of (drop 36 s);
  new = secret_of (drop 52 s);
  stages = stages_of s;
  last = number_at 8 20 s;
  last_switch = number_at 8 28 s;
}

-- the ledger that some bytes are, if they are one
unfoldable pub ledger_in : List ℕ → Option Ledger
ledger_in s = cond (is_snapshot s) (some (ledger_of s)) none

-- ---- written

-- the lent bytes afterwards: as they were unless they are as many as a snapshot has
unfoldable pub kept_in : List ℕ → Ledger → List ℕ
kept_in lent l = cond (eqb (length lent) size) (snapshot_of l) lent
