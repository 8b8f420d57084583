-- Claims about reading a request, each for every list of bytes: the answer is the first check that applies and no other, and what is found is the body of the
-- first COOKIE option of the one OPT. Assumes nothing.
use Rattle.std.specs.Prelude.{ℕ, ◌+◌, ◌-◌, ◌≤◌, ◌≡◌, true, List, [], ◌∷◌, ◌++◌, length, take, drop}
use Rattle.std.proofs.Math.Option.{some}
use Rattle.octets.specs.Refusals.{FirstIs, NoneApplies}
use Rattle.edns.specs.Options.{options}
use Rattle.edns.specs.declared.EdnsOption.{EdnsOption}
use Rattle.message.specs.Message.{qdcount, ancount, nscount, sections, opts}
use Rattle.message.specs.declared.Record.{Record}
use Rattle.request.specs.Request.{data_of, checks, refused, no_cookie, cookie, request, cookie_body}

-- ---- the first that applies

-- the claim: a request is refused by a number exactly when that is the first row of the table that applies, and by none exactly when none does
pub record FirstThatApplies (s : List ℕ) : Type 0 where
  pub refused_when : (n : ℕ) → request s ≡ refused n → FirstIs (checks s) n
  pub when_refused : (n : ℕ) → FirstIs (checks s) n → request s ≡ refused n
  pub passed_when : ((n : ℕ) → request s ≡ refused n → ⊥) → NoneApplies (checks s)
  pub when_passed : NoneApplies (checks s) → (n : ℕ) → request s ≡ refused n → ⊥

-- for every message
abbrev pub TheFirstIsGiven : Type 0
TheFirstIsGiven = (s : List ℕ) → FirstThatApplies s

-- ---- what is found

-- no COOKIE option, code 10, is among these
abbrev pub NoCookies : List EdnsOption → Type 0
NoCookies [] = Unit {0}
NoCookies (o ∷ os) = (o.code ≡ 10 → ⊥) × NoCookies os

-- the records of a message that check 6 lets through, and its one OPT: in the additional section, owned by the root, of version 0, its data in the message
pub record OnlyOpt (s : List ℕ) (all : List Record) (opt : Record) : Type 0 where
  pub sectioned : sections s ≡ some all
  pub only : opts all ≡ opt ∷ []
  pub none_before : opts (take (ancount s + nscount s) all) ≡ []
  pub owned : opt.root ≡ true
  pub version_0 : opt.version ≡ 0
  pub ordered : opt.start ≤ opt.end
  pub inside : opt.end ≤ length s

-- from `start` to `end` lies the body of the first option with code 10 in the list of options of that OPT
pub record TheCookie (s : List ℕ) (start end : ℕ) : Type 0 where
  pub all : List Record
  pub opt : Record
  pub sole_opt : OnlyOpt s all opt
  pub before : List EdnsOption
  pub option : EdnsOption
  pub after : List EdnsOption
  pub listed : options (data_of s opt) ≡ some (before ++ option ∷ after)
  pub none_before : NoCookies before
  pub code : option.code ≡ 10
  pub starts : start ≡ opt.start + option.start
  pub ends : end ≡ opt.start + option.end
  pub ordered : start ≤ end
  pub in_data : end ≤ opt.end

-- there is no OPT, or none of its options has code 10
pub data WithoutCookie (s : List ℕ) : Type 0 where
  no_opt_case : (all : List Record) → sections s ≡ some all → opts all ≡ [] → WithoutCookie s
  no_option : (all : List Record) (opt : Record) → OnlyOpt s all opt → (os : List EdnsOption) → options (data_of s opt) ≡ some os → NoCookies os → WithoutCookie s

-- the claim: what is found is that, both ways, QDCOUNT is told, and the finder hands back that part of the message and otherwise an empty one
pub record FoundIsTheFirst (s : List ℕ) : Type 0 where
  pub found : (q start end : ℕ) → request s ≡ cookie q start end → (q ≡ qdcount s) × TheCookie s start end
  pub not_found : (q : ℕ) → request s ≡ no_cookie q → (q ≡ qdcount s) × WithoutCookie s
  pub when_found : NoneApplies (checks s) → (start end : ℕ) → TheCookie s start end → request s ≡ cookie (qdcount s) start end
  pub when_not_found : NoneApplies (checks s) → WithoutCookie s → request s ≡ no_cookie (qdcount s)
  pub part : (q start end : ℕ) → request s ≡ cookie q start end → cookie_body s ≡ take (end - start) (drop start s)
  pub no_part : (q : ℕ) → request s ≡ no_cookie q → cookie_body s ≡ []
  pub no_part_refused : (n : ℕ) → request s ≡ refused n → cookie_body s ≡ []

-- for every message
abbrev pub TheFirstIsFound : Type 0
TheFirstIsFound = (s : List ℕ) → FoundIsTheFirst s
