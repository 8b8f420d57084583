-- Reading a request: document 01, "Reading a request" and "Answer numbers for a request", checks 3 to 10. Each check is a predicate on the whole message, and
-- `checks` is their order. A predicate says something of every list of bytes; 7 to 10 are false where 6 is true, and 10 where 9 is, since
-- nothing is listed there. Assumes nothing.
use Rattle.std.specs.Prelude.{ℕ, ◌+◌, ◌-◌, Bool, false, not, ◌||◌, List, [], ◌∷◌, ◌++◌, eqb, leb, ltb, length, take, drop, get_or}
use Rattle.std.proofs.Math.Option.{Option, none, some}
use Rattle.octets.specs.Refusals.{Row, ◌when◌, first, answered}
use Rattle.edns.specs.Options.{options_of, option_past, first_cookie, is_cookie_length}
use Rattle.edns.specs.declared.EdnsOption.{EdnsOption}
use Rattle.message.specs.Message.{qdcount, records_of, malformed, opts, wrong_opt}
use Rattle.message.specs.declared.Record.{Record}

-- ---- what a message holds

-- its OPT records. Where check 7 does not apply there is at most one
abbrev pub opts_in : List ℕ → List Record
opts_in s = opts (records_of s)

-- a record's data: a part of the message
abbrev pub data_of : List ℕ → Record → List ℕ
data_of s r = take (r.end - r.start) (drop r.start s)

-- the data of its OPT, empty if it has none
abbrev pub opt_data : List ℕ → List Record → List ℕ
opt_data s [] = []
opt_data s (r ∷ rs) = data_of s r

-- its first COOKIE option
abbrev pub cookie_of : List ℕ → Option EdnsOption
cookie_of s = first_cookie (options_of (opt_data s (opts_in s)))

-- ---- the checks

-- 3: message under 12 or over 65,535 bytes
abbrev pub wrong_size : List ℕ → Bool
wrong_size s = ltb (length s) 12 || ltb 65535 (length s)

-- 4: QR is 1, the top bit of byte 2
abbrev pub is_response : List ℕ → Bool
is_response s = leb 128 (get_or s 2 0)

-- 5: QDCOUNT above 1
abbrev pub many_questions : List ℕ → Bool
many_questions s = ltb 1 (qdcount s)

-- 6 and 7, `malformed` and `wrong_opt`, stand in message/specs/Message.antt

-- no OPT has no version that could be wrong
abbrev pub version_of : List Record → ℕ
version_of [] = 0
version_of (r ∷ rs) = r.version

-- 8: EDNS version not 0
abbrev pub wrong_version : List ℕ → Bool
wrong_version s = not (eqb (version_of (opts_in s)) 0)

-- 9, `option_past`, stands in edns/specs/Options.antt

-- a body that is not 8 bytes, nor 16 to 40
abbrev pub is_illegal : Option EdnsOption → Bool
is_illegal none = false
is_illegal (some o) = not (is_cookie_length (o.end - o.start))

-- 10: first COOKIE body of an illegal length
abbrev pub wrong_cookie : List ℕ → Bool
wrong_cookie s = is_illegal (cookie_of s)

-- ---- their order

-- those that apply in mode Disabled too
abbrev pub head_checks : List ℕ → List Row
head_checks s =
    3 when wrong_size s
    ∷ 4 when is_response s
    ∷ []

-- those on the whole message
abbrev pub checks_from6 : List ℕ → List Row
checks_from6 s =
    6 when malformed s
    ∷ 7 when wrong_opt s
    ∷ 8 when wrong_version s
    ∷ 9 when option_past (opt_data s (opts_in s))
    ∷ 10 when wrong_cookie s
    ∷ []

-- those that mode Disabled skips
abbrev pub rest_checks : List ℕ → List Row
rest_checks s = 5 when many_questions s ∷ checks_from6 s

-- all of them
abbrev pub checks : List ℕ → List Row
checks s = head_checks s ++ rest_checks s

-- ---- the answer

-- a refusal by its number; or QDCOUNT, and where the body of the first COOKIE option lies, if there is one
pub data Answer : Type 0 where
  refused : ℕ → Answer
  no_cookie : ℕ → Answer
  cookie : ℕ → ℕ → ℕ → Answer

-- places in the data are places in the message from the data's start on
abbrev pub start_of : List Record → ℕ
start_of [] = 0
start_of (r ∷ rs) = r.start

-- what is told of a COOKIE option, or of none
abbrev pub found : ℕ → ℕ → Option EdnsOption → Answer
found q start none = no_cookie q
found q start (some o) = cookie q (start + o.start) (start + o.end)

-- what stands in a message that no check refuses
abbrev pub found_in : List ℕ → Answer
found_in s = found (qdcount s) (start_of (opts_in s)) (cookie_of s)

-- the first check that applies, and otherwise what is found
unfoldable pub request : List ℕ → Answer
request s = answered refused (first (checks s)) (found_in s)

-- ---- the finder

-- the part of the message that an answer tells of
abbrev pub body_at : List ℕ → Answer → List ℕ
body_at s (refused n) = []
body_at s (no_cookie q) = []
body_at s (cookie q start end) = take (end - start) (drop start s)

-- the body of the first COOKIE option; empty if there is none or a check refuses
unfoldable pub cookie_body : List ℕ → List ℕ
cookie_body s = body_at s (request s)
