-- Reading a request by shape: checks 6 to 10 of document 01 and the body that is handed back, over message/specs/Grammar.antt and edns/specs/Grammar.antt,
-- with no places. Rows 3 to 5, QDCOUNT and the legal lengths are those of the definitions, pinned for every value in the cases. The claim at the end:
-- `request` and `cookie_body` say the same, for every list of bytes. Assumes nothing.
use Rattle.std.specs.Prelude.{ℕ, ◌-◌, ◌≡◌, Bool, true, false, not, cond, List, [], ◌∷◌, ◌++◌, eqb, length, take, drop}
use Rattle.std.proofs.Math.Option.{Option, none, some, get_or}
use Rattle.octets.specs.Refusals.{Row, ◌when◌, first, answered}
use Rattle.edns.specs.Grammar.{Run, sayings}
use Rattle.edns.specs.Grammar as edns
use Rattle.edns.specs.Options.{is_cookie_length}
use Rattle.message.specs.Grammar.{WellFormed, Said, sayings_before, sayings_additional}
use Rattle.message.specs.Message.{qdcount}
use Rattle.request.specs.Request.{wrong_size, is_response, many_questions, checks_from6, checks, Answer, refused, no_cookie, cookie, found_in, request, cookie_body}

-- ---- what the records say

-- the OPTs among them, TYPE 41
abbrev pub opts_among : List Said → List Said
opts_among [] = []
opts_among (r ∷ rs) = cond (eqb r.kind 41) (r ∷ opts_among rs) (opts_among rs)

-- 7, of the OPTs before the additional section and those in it: right are none before, and in it none or one that the root owns
abbrev pub wrong_opts : List Said → List Said → Bool
wrong_opts [] [] = false
wrong_opts [] (opt ∷ []) = not opt.root
wrong_opts [] (opt ∷ second ∷ rest) = true
wrong_opts (misplaced ∷ rest) additional = true

-- the OPT among OPTs. None reads as one of version 0 without options
abbrev pub opt_or_empty : List Said → Said
opt_or_empty [] = record { root = true; kind = 41; version = 0; rdata = [] }
opt_or_empty (opt ∷ rest) = opt

-- that of a message
abbrev pub opt_in : {s : List ℕ} → WellFormed s → Said
opt_in w = opt_or_empty (opts_among (sayings_additional w))

-- ---- what its options say

-- the body of the first with code 10, if there is one
abbrev pub first_body : List edns.Said → Option (List ℕ)
first_body [] = none
first_body (o ∷ os) = cond (eqb o.code 10) (some o.body) (first_body os)

-- 10: it is neither 8 bytes, nor 16 to 40
abbrev pub wrong_body : Option (List ℕ) → Bool
wrong_body none = false
wrong_body (some body) = not (is_cookie_length (length body))

-- ---- the rows and the answer

-- rows 3 to 5 ask for no shape
abbrev pub rows_to5 : List ℕ → List Row
rows_to5 s = 3 when wrong_size s ∷ 4 when is_response s ∷ 5 when many_questions s ∷ []

-- 7 and 8 ask for records
abbrev pub rows7_and8 : {s : List ℕ} → WellFormed s → List Row
rows7_and8 w = 7 when wrong_opts (opts_among (sayings_before w)) (opts_among (sayings_additional w)) ∷ 8 when not (eqb (opt_in w).version 0) ∷ []

-- an answer with bytes for places: a refusal by its number; or QDCOUNT, and the body of the first COOKIE option, if there is one
pub data Told : Type 0 where
  refusal : ℕ → Told
  passed : ℕ → Option (List ℕ) → Told

-- what an answer tells of a message
abbrev pub told : List ℕ → Answer → Told
told s (refused n) = refusal n
told s (no_cookie q) = passed q none
told s (cookie q start end) = passed q (some (take (end - start) (drop start s)))

-- ---- the claim

-- what a table makes of a message: these rows say what checks 6 to 10 say, whatever 3 to 5 do, and where none of them applies this body is found, or none is. So
-- rows 3 to 5 and then these are tried
pub record Reads (s : List ℕ) (rows : List Row) (body : Option (List ℕ)) : Type 0 where
  pub from_6 : first (checks_from6 s) ≡ first rows
  pub finds : first rows ≡ 0 → told s (found_in s) ≡ passed (qdcount s) body
  pub number : first (checks s) ≡ first (rows_to5 s ++ rows)
  pub answer : told s (request s) ≡ answered refusal (first (rows_to5 s ++ rows)) (passed (qdcount s) body)
  pub part : cookie_body s ≡ answered (λ n. []) (first (rows_to5 s ++ rows)) (get_or body [])

-- the table by the shape. One of the last three applies to each message, and `well_formed?` and `run?` say which
pub record ByShape (s : List ℕ) : Type 0 where
  pub well_formed? : Dec (WellFormed s)
  pub run? : (w : WellFormed s) → Dec (Run (opt_in w).rdata)
  pub malformed : (WellFormed s → ⊥) → Reads s (6 when true ∷ []) none
  pub past : (w : WellFormed s) → (Run (opt_in w).rdata → ⊥) → Reads s (rows7_and8 w ++ 9 when true ∷ []) none
  pub whole : (w : WellFormed s) (run : Run (opt_in w).rdata)
      → Reads s (rows7_and8 w ++ 10 when wrong_body (first_body (sayings run)) ∷ []) (first_body (sayings run))

-- for every list of bytes
abbrev pub ReadByShape : Type 0
ReadByShape = (s : List ℕ) → ByShape s
