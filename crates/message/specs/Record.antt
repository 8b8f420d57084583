-- Questions and records: RFC 1035, sections 4.1.2 and 4.1.3. Assumes nothing.
use Rattle.std.specs.Prelude.{ℕ, ◌+◌, cond, List, eqb, leb, length, get_or}
use Rattle.std.proofs.Math.Option.{Option, none, some, bind}
use Rattle.octets.specs.Numbers.{be16_at}
use Rattle.message.specs.Name.{within, name_end}
use Rattle.message.specs.declared.Record.{Record}

-- where a question ends: a name and 4 bytes, QTYPE and QCLASS
unfoldable pub question_end : List ℕ → ℕ → Option ℕ
question_end s at = bind (name_end s at) (λ end. within s (end + 4))

-- what a record says whose owner starts at `at` and ends at `end`. Its owner is the root if it is the single byte 0. Then TYPE 2, CLASS 2, TTL 4,
-- RDLENGTH 2, and RDLENGTH bytes
abbrev pub fields : List ℕ → ℕ → ℕ → Record
fields s at end = record {
  root = eqb (get_or s at 0) 0;
  kind = be16_at s end;
  version = get_or s (end + 5) 0;
  start = end + 10;
  end = end + 10 + be16_at s (end + 8);
}

-- a record that the message has, if none of it is past the end
abbrev pub whole : List ℕ → Record → Option Record
whole s r = cond (leb r.end (length s)) (some r) none

-- the record that starts here
unfoldable pub record_at : List ℕ → ℕ → Option Record
record_at s at = bind (name_end s at) (λ end. whole s (fields s at end))
