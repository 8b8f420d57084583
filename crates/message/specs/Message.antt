-- A whole message and its OPT record: RFC 1035, section 4.1; RFC 6891, section 6.1.1; document 01, "Reading a request" and checks 6 and 7. Assumes nothing.
use Rattle.std.specs.Prelude.{ℕ, zero, suc, ◌+◌, Bool, true, false, not, cond, ◌||◌, List, [], ◌∷◌, eqb, length, take}
use Rattle.std.proofs.Math.Option.{Option, none, some, bind, get_or}
use Rattle.octets.specs.Numbers.{be16_at}
use Rattle.octets.specs.Refusals.{◌when◌, first, answered, is_none}
use Rattle.message.specs.Record.{question_end, record_at}
use Rattle.message.specs.declared.Record.{Record}

-- ---- the header: 12 bytes, of which the last eight are four counts

-- how many questions
abbrev pub qdcount : List ℕ → ℕ
qdcount s = be16_at s 4

-- how many records of the answer section
abbrev pub ancount : List ℕ → ℕ
ancount s = be16_at s 6

-- of the authority section
abbrev pub nscount : List ℕ → ℕ
nscount s = be16_at s 8

-- of the additional section
abbrev pub arcount : List ℕ → ℕ
arcount s = be16_at s 10

-- ---- questions, then records

-- where so many questions end
unfoldable pub questions_end : ℕ → List ℕ → ℕ → Option ℕ
questions_end zero s at = some at
questions_end (suc n) s at = bind (question_end s at) (λ end. questions_end n s end)

-- so many records, of which the last ends exactly at the message's end
unfoldable pub records : ℕ → List ℕ → ℕ → Option (List Record)
records zero s at = cond (eqb at (length s)) (some []) none
records (suc n) s at = bind (record_at s at) (λ r. bind (records n s r.end) (λ rest. some (r ∷ rest)))

-- the records of the answer, authority and additional sections, in their order; none if the message is not a header, its questions and its records
unfoldable pub sections : List ℕ → Option (List Record)
sections s = bind (questions_end (qdcount s) s 12) (λ at. records (ancount s + nscount s + arcount s) s at)

-- the same as a list, empty for a message that check 6 refuses
abbrev pub records_of : List ℕ → List Record
records_of s = get_or (sections s) []

-- 6: malformed name, a part past the end, bytes left over
abbrev pub malformed : List ℕ → Bool
malformed s = is_none (sections s)

-- ---- which record is the OPT

-- TYPE 41
abbrev pub is_opt : Record → Bool
is_opt r = eqb r.kind 41

-- the OPTs among records
abbrev pub opts : List Record → List Record
opts [] = []
opts (r ∷ rs) = cond (is_opt r) (r ∷ opts rs) (opts rs)

-- there is one
abbrev pub is_any : List Record → Bool
is_any [] = false
is_any (r ∷ rs) = true

-- there is a second one
abbrev pub is_second : List Record → Bool
is_second [] = false
is_second (r ∷ rs) = is_any rs

-- an owner that is not the root
abbrev pub any_foreign : List Record → Bool
any_foreign [] = false
any_foreign (r ∷ rs) = not r.root || any_foreign rs

-- of records of which the first n stand before the additional section: an OPT is misplaced, its owner is not the root, or there is a second one
unfoldable pub wrong_among : ℕ → List Record → Bool
wrong_among n rs = is_any (opts (take n rs)) || any_foreign (opts rs) || is_second (opts rs)

-- 7: OPT misplaced, owner not root, or a second OPT
abbrev pub wrong_opt : List ℕ → Bool
wrong_opt s = wrong_among (ancount s + nscount s) (records_of s)

-- ---- the answer

-- a refusal by document 01's number, or the OPT, or that there is none
pub data Outlined : Type 0 where
  refused : ℕ → Outlined
  no_opt : Outlined
  the_opt : Record → Outlined

-- where check 7 does not apply there is at most one
abbrev pub first_opt : List Record → Outlined
first_opt [] = no_opt
first_opt (r ∷ rs) = the_opt r

-- check 6 covers the whole message before 7 is tried
unfoldable pub outline : List ℕ → Outlined
outline s = answered refused (first (6 when malformed s ∷ 7 when wrong_opt s ∷ [])) (first_opt (opts (records_of s)))
