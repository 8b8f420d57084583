-- Cases that pin the definitions of Options.antt and Answers.antt, with bytes written out. Assumes nothing.
use Rattle.std.specs.Prelude.{◌≡◌, true, false, List, [], ◌∷◌, ◌++◌, map, ℕ, ◌≤◌, replicate, Some, None, Ok, Err}
use Rattle.std.proofs.Math.Option.{none, some}
use Rattle.octets.specs.Numbers.{up_to}
use Rattle.edns.specs.Answers.{found_of, listing_of}
use Rattle.edns.specs.Options.{option_at, options, is_cookie_length, refused, no_cookie, cookie, cookie_in}
use Rattle.edns.specs.declared.Cookie.{Cookie}
use Rattle.edns.specs.declared.EdnsOption.{EdnsOption}
use Rattle.edns.specs.declared.Past.{Past}

-- what the answers say, case by case
pub record NamesHold : Type 0 where
  pub inside : (o : EdnsOption) → found_of (Some o) ≡ some o
  pub past : found_of None ≡ none
  pub past_is_9 : (p : Past) → listing_of (Err p) ≡ refused 9
  pub without : listing_of (Ok None) ≡ no_cookie
  pub with_one : (c : Cookie) → listing_of (Ok (Some c)) ≡ cookie c.start c.end

-- NSID (3) without a body, 4 bytes
abbrev pub nsid : List ℕ
nsid = 0 ∷ 3 ∷ 0 ∷ 0 ∷ []

-- COOKIE with a body of 8 bytes, 12 bytes
abbrev pub client : List ℕ
client = 0 ∷ 10 ∷ 0 ∷ 8 ∷ 0x24 ∷ 0x64 ∷ 0xc4 ∷ 0xab ∷ 0xcf ∷ 0x10 ∷ 0xc9 ∷ 0x57 ∷ []

-- COOKIE with a body of 1 byte, 5 bytes
abbrev pub short : List ℕ
short = 0 ∷ 10 ∷ 0 ∷ 1 ∷ 0x24 ∷ []

pub record OptionCases : Type 0 where
  -- one option
  pub places : option_at (9 ∷ 0x12 ∷ 0x34 ∷ 0x00 ∷ 0x02 ∷ 8 ∷ 7 ∷ 9 ∷ []) 1 ≡ some (record { code = 0x1234; start = 5; end = 7 })
  pub long_body : option_at (0 ∷ 10 ∷ 1 ∷ 2 ∷ replicate 258 7) 0 ≡ some (record { code = 10; start = 4; end = 262 })
  pub long_past : option_at (0 ∷ 10 ∷ 1 ∷ 2 ∷ replicate 257 7) 0 ≡ none
  pub head_past : option_at (0 ∷ 10 ∷ 0 ∷ []) 0 ≡ none
  -- the list
  pub empty : options [] ≡ some []
  pub one : options client ≡ some (record { code = 10; start = 4; end = 12 } ∷ [])
  pub in_order : options (nsid ++ client ++ nsid)
      ≡ some (record { code = 3; start = 4; end = 4 } ∷ record { code = 10; start = 8; end = 16 } ∷ record { code = 3; start = 20; end = 20 } ∷ [])
  -- the first COOKIE option
  pub none_there : cookie_in [] ≡ no_cookie
  pub other_there : cookie_in (nsid ++ nsid) ≡ no_cookie
  pub alone : cookie_in client ≡ cookie 4 12
  pub behind : cookie_in (nsid ++ client ++ nsid) ≡ cookie 8 16
  pub first_of_two : cookie_in (client ++ short) ≡ cookie 4 12
  pub first_is_short : cookie_in (short ++ client) ≡ cookie 4 5
  pub first_of_three : cookie_in (short ++ client ++ client) ≡ cookie 4 5
  pub empty_body : cookie_in (0 ∷ 10 ∷ 0 ∷ 0 ∷ client) ≡ cookie 4 4
  pub code_is_2_bytes : cookie_in (10 ∷ 0 ∷ 0 ∷ 0 ∷ []) ≡ no_cookie
  pub code_is_10 : cookie_in (1 ∷ 10 ∷ 0 ∷ 0 ∷ []) ≡ no_cookie
  -- the bytes of a COOKIE option in the body of another are none
  pub hidden : cookie_in (0 ∷ 3 ∷ 0 ∷ 12 ∷ client) ≡ no_cookie
  -- 9: an option past the data, in its head and in its body, first and later; the whole list counts, also behind the COOKIE
  pub one_byte : cookie_in (0 ∷ []) ≡ refused 9
  pub three_bytes : cookie_in (0 ∷ 10 ∷ 0 ∷ []) ≡ refused 9
  pub body_past : cookie_in (0 ∷ 10 ∷ 0 ∷ 2 ∷ 0x24 ∷ []) ≡ refused 9
  pub behind_cookie : cookie_in (client ++ 0 ∷ 3 ∷ 0 ∷ 1 ∷ []) ≡ refused 9
  pub head_behind_cookie : cookie_in (client ++ 0 ∷ []) ≡ refused 9
  pub before_cookie : cookie_in (0 ∷ 3 ∷ 0 ∷ 13 ∷ client) ≡ refused 9
  pub most : cookie_in (0 ∷ 3 ∷ 255 ∷ 255 ∷ client) ≡ refused 9

-- every length of a COOKIE body from 0 to 63, and every longer one
pub record LengthsHold : Type 0 where
  pub lengths : map is_cookie_length (up_to 0 64) ≡ replicate 8 false ++ (true ∷ replicate 7 false) ++ replicate 25 true ++ replicate 23 false
  pub longer : (n : ℕ) → 41 ≤ n → is_cookie_length n ≡ false
