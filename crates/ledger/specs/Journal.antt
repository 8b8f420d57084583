-- A journal of steps: document 01, "The rollover ledger". A record is 32 bytes: kind; member (the count in a START); six spare bytes; the time, 8 bytes,
-- big-endian; a secret, 16. Assumes nothing.
use Rattle.std.specs.Prelude.{ℕ, Bool, ◌&&◌, List, eqb, leb, get_or, drop}
use Rattle.octets.specs.Numbers.{be64_at}
use Rattle.secret.specs.Secret.{secret_of}
use Rattle.ledger.specs.declared.Step.{Step}

-- what a record says. Any list of bytes is read, a byte past its end as 0; the code passes exactly 32
unfoldable pub read_step : List ℕ → Step
read_step r = record { kind = get_or r 0 0; member = get_or r 1 0; time = be64_at r 8; secret = secret_of (drop 16 r) }

-- ---- the kinds by their names

-- gives the member count and the current secret
abbrev pub START : ℕ
START = 0

-- opens a rollover to a new secret
abbrev pub OPEN : ℕ
OPEN = 1

-- takes a member from stage 0 to 1
abbrev pub LEARN : ℕ
LEARN = 2

-- from 1 to 2
abbrev pub SWITCH : ℕ
SWITCH = 3

-- from 2 to 3
abbrev pub DROP : ℕ
DROP = 4

-- puts all members at 0 and forgets the new secret
abbrev pub CANCEL : ℕ
CANCEL = 5

-- whether a step is of a kind
abbrev pub is : ℕ → Step → Bool
is kind s = eqb s.kind kind

-- whether its kind is one of those from the first to the last
abbrev pub is_from : ℕ → ℕ → Step → Bool
is_from low high s = leb low s.kind && leb s.kind high

-- a member step: LEARN, SWITCH or DROP, for one member
abbrev pub is_member_step : Step → Bool
is_member_step s = is_from LEARN DROP s
