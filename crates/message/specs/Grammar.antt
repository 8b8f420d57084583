-- The shape of a message as a grammar, with no places in it: RFC 1035, sections 3.1, 4.1 and 4.1.4, and document 01, "Reading a request". Two claims at the
-- end: check 6 lets through exactly this shape, and the records that the definitions list are those of the shape. Assumes nothing.
use Rattle.std.specs.Prelude.{ℕ, suc, ◌+◌, ◌-◌, ◌≤◌, ◌≡◌, Bool, true, false, List, [], ◌∷◌, ◌++◌, map, length, take, drop, get_or}
use Rattle.std.proofs.Math.Option.{some}
use Rattle.octets.specs.Numbers.{be_number}
use Rattle.octets.specs.Runs.{Standing}
use Rattle.message.specs.Message.{qdcount, ancount, nscount, records_of, malformed}
use Rattle.message.specs.Name.{name_end}
use Rattle.message.specs.Record.{question_end, record_at}
use Rattle.message.specs.declared.Record.{Record}

-- ---- the shape

-- a name: a zero byte; or a pointer, 192 to 255 (no byte is more) and one more byte; or a label, 1 to 63 and that many bytes, with a name behind it.
-- Document 01 asks neither how long a whole name is nor where a pointer leads
pub data Name : List ℕ → Type 0 where
  zero_byte : Name (0 ∷ [])
  pointer : (high low : ℕ) → 192 ≤ high → Name (high ∷ low ∷ [])
  label : (n : ℕ) (text rest : List ℕ) → 1 ≤ n → n ≤ 63 → length text ≡ n → Name rest → Name (n ∷ text ++ rest)

-- a question: a name, QTYPE 2, QCLASS 2
pub data Question : List ℕ → Type 0 where
  question : (name qtype qclass : List ℕ) → Name name → length qtype ≡ 2 → length qclass ≡ 2 → Question (name ++ qtype ++ qclass)

-- a record: a name, TYPE 2, CLASS 2, TTL 4, RDLENGTH 2, then RDLENGTH bytes
pub data ARecord : List ℕ → Type 0 where
  arecord : (owner kind class ttl rdlength rdata : List ℕ)
      → Name owner → length kind ≡ 2 → length class ≡ 2 → length ttl ≡ 4 → length rdlength ≡ 2 → length rdata ≡ be_number rdlength
      → ARecord (owner ++ kind ++ class ++ ttl ++ rdlength ++ rdata)

-- so many of a kind, one behind the other
pub data Several (P : List ℕ → Type 0) : ℕ → List ℕ → Type 0 where
  nothing : Several P 0 []
  more : (n : ℕ) (one rest : List ℕ) → P one → Several P n rest → Several P (suc n) (one ++ rest)

-- a header: six numbers of two bytes, of which the last four count the questions and the answer, authority and additional records
pub data Header : ℕ → ℕ → ℕ → ℕ → List ℕ → Type 0 where
  header : (id flags qdcount ancount nscount arcount : List ℕ)
      → length id ≡ 2 → length flags ≡ 2 → length qdcount ≡ 2 → length ancount ≡ 2 → length nscount ≡ 2 → length arcount ≡ 2
      → Header (be_number qdcount) (be_number ancount) (be_number nscount) (be_number arcount) (id ++ flags ++ qdcount ++ ancount ++ nscount ++ arcount)

-- a message: a header and what it counts, and nothing behind
pub data WellFormed : List ℕ → Type 0 where
  message : (qd an ns ar : ℕ) (head questions answers authority additional : List ℕ)
      → Header qd an ns ar head → Several Question qd questions → Several ARecord an answers → Several ARecord ns authority → Several ARecord ar additional
      → WellFormed (head ++ questions ++ answers ++ authority ++ additional)

-- ---- what its records say

-- what the checks ask of a record: whether its owner is the single byte 0, its TYPE, the second byte of its TTL, and its RDATA
pub record Said : Type 0 where
  pub root : Bool
  pub kind : ℕ
  pub version : ℕ
  pub rdata : List ℕ

-- by the shape: whether an owner is the root
abbrev pub is_root : {p : List ℕ} → Name p → Bool
is_root zero_byte = true
is_root (pointer high low h) = false
is_root (label n text rest l h e name) = false

-- of one record
abbrev pub saying_of : {p : List ℕ} → ARecord p → Said
saying_of (arecord owner kind class ttl rdlength rdata name k c t l r) =
    record { root = is_root name; kind = be_number kind; version = get_or ttl 1 0; rdata = rdata }

-- of several
abbrev pub sayings : {n : ℕ} {p : List ℕ} → Several ARecord n p → List Said
sayings nothing = []
sayings (more n one rest r rs) = saying_of r ∷ sayings rs

-- how many questions there are
abbrev pub questions_in : {s : List ℕ} → WellFormed s → ℕ
questions_in (message qd an ns ar head questions answers authority additional h q a u d) = qd

-- of the answer and authority sections
abbrev pub sayings_before : {s : List ℕ} → WellFormed s → List Said
sayings_before (message qd an ns ar head questions answers authority additional h q a u d) = sayings a ++ sayings u

-- of the additional section
abbrev pub sayings_additional : {s : List ℕ} → WellFormed s → List Said
sayings_additional (message qd an ns ar head questions answers authority additional h q a u d) = sayings d

-- by the definitions, of a record that they list for a message
abbrev pub said : List ℕ → Record → Said
said s r = record { root = r.root; kind = r.kind; version = r.version; rdata = take (r.end - r.start) (drop r.start s) }

-- ---- the claims

-- check 6 lets through exactly the well_formed messages
abbrev pub SixExactlyWhen : Type 0
SixExactlyWhen = (s : List ℕ) → (malformed s ≡ false → WellFormed s) × (WellFormed s → malformed s ≡ false)

-- and of those the definitions count the questions and list the records that are there, in their order, and count rightly which stand before the additional
-- section
pub record RecordsAre (s : List ℕ) (w : WellFormed s) : Type 0 where
  pub say : map (said s) (records_of s) ≡ sayings_before w ++ sayings_additional w
  pub before : ancount s + nscount s ≡ length (sayings_before w)
  pub asked : qdcount s ≡ questions_in w

-- for every well_formed message
abbrev pub ListedAreThese : Type 0
ListedAreThese = (s : List ℕ) (w : WellFormed s) → RecordsAre s w

-- ---- the same at every place of any bytes, for the functions that take a place

-- a name or a question ends here exactly when one stands there; a record that is found stands there, and one that stands there is found and says what it says
pub record EndsHere (s : List ℕ) (at end : ℕ) : Type 0 where
  pub name : (name_end s at ≡ some end → Standing Name s at end) × (Standing Name s at end → name_end s at ≡ some end)
  pub asked_there : (question_end s at ≡ some end → Standing Question s at end) × (Standing Question s at end → question_end s at ≡ some end)
  pub found_stands : (r : Record) → record_at s at ≡ some r → Standing ARecord s at r.end
  pub standing_found : (standing : Standing ARecord s at end) → (r : Record) × (record_at s at ≡ some r) × (r.end ≡ end) × (said s r ≡ saying_of standing.holds)

-- for every place
abbrev pub AtEveryPlace : Type 0
AtEveryPlace = (s : List ℕ) (at end : ℕ) → EndsHere s at end
