-- The options of an OPT record's data: RFC 6891, section 6.1.2; the COOKIE option: RFC 7873, section 4; document 01, "Reading a request" and checks 9 and
-- 10. Data is a list of bytes, read by places from 0 on; a byte past the end reads as 0. Assumes nothing.
use Rattle.std.specs.Prelude.{ℕ, zero, suc, ◌+◌, Bool, cond, ◌&&◌, ◌||◌, List, [], ◌∷◌, eqb, leb, length}
use Rattle.std.proofs.Math.Option.{Option, none, some, bind, get_or}
use Rattle.octets.specs.Numbers.{be16_at}
use Rattle.octets.specs.Refusals.{◌when◌, first, answered, is_none}
use Rattle.edns.specs.declared.EdnsOption.{EdnsOption}

-- ---- the list

-- what the option says that starts here: code 2, length 2, and as many bytes as that says
abbrev pub fields : List ℕ → ℕ → EdnsOption
fields d at = record { code = be16_at d at; start = at + 4; end = at + 4 + be16_at d (at + 2) }

-- an option that the data has, if none of it is past the end
abbrev pub whole : List ℕ → EdnsOption → Option EdnsOption
whole d o = cond (leb o.end (length d)) (some o) none

-- the option that starts here
unfoldable pub option_at : List ℕ → ℕ → Option EdnsOption
option_at d at = whole d (fields d at)

-- the options from here to the end of the data, in their order; none if one is past it. Each has four bytes or more, so that as many turns as the data has
-- bytes are enough
unfoldable pub options_in : ℕ → List ℕ → ℕ → Option (List EdnsOption)
options_in zero d at = some []
options_in (suc turns) d at =
    cond (leb (length d) at) (some [])
    (bind (option_at d at) (λ o. bind (options_in turns d o.end) (λ rest. some (o ∷ rest))))

-- with turns enough
unfoldable pub options_from : List ℕ → ℕ → Option (List EdnsOption)
options_from d at = options_in (length d) d at

-- all of them. Empty data is a list of none
abbrev pub options : List ℕ → Option (List EdnsOption)
options d = options_from d 0

-- the same as a list, empty where an option is past the data
abbrev pub options_of : List ℕ → List EdnsOption
options_of d = get_or (options d) []

-- 9: an option past the OPT data
abbrev pub option_past : List ℕ → Bool
option_past d = is_none (options d)

-- ---- the first COOKIE option

-- code 10
abbrev pub is_cookie : EdnsOption → Bool
is_cookie o = eqb o.code 10

-- the first of them, if there is one
unfoldable pub first_cookie : List EdnsOption → Option EdnsOption
first_cookie [] = none
first_cookie (o ∷ os) = cond (is_cookie o) (some o) (first_cookie os)

-- a COOKIE body is 8 bytes, or 16 to 40: the client cookie 8, the server cookie 0 or 8 to 32
unfoldable pub is_cookie_length : ℕ → Bool
is_cookie_length n = eqb n 8 || leb 16 n && leb n 40

-- ---- the answer

-- a refusal by document 01's number, or where the body of the first COOKIE option lies, or that there is none
pub data Listed : Type 0 where
  refused : ℕ → Listed
  no_cookie : Listed
  cookie : ℕ → ℕ → Listed

-- where its body lies
abbrev pub place : Option EdnsOption → Listed
place none = no_cookie
place (some o) = cookie o.start o.end

-- check 9 covers the whole list
unfoldable pub cookie_in : List ℕ → Listed
cookie_in d = answered refused (first (9 when option_past d ∷ [])) (place (first_cookie (options_of d)))
