-- Cases that pin the definitions of Request.antt and Answers.antt: for each check messages that it refuses, and one in which a student would see the next
-- check's reason too. Assumes nothing.
use Rattle.std.specs.Prelude.{◌≡◌, true, false, List, [], ◌∷◌, ◌++◌, map, ℕ, ◌≤◌, length, replicate, Some, None, Ok, Err, ⊤}
use Rattle.octets.specs.Numbers.{be_bytes, printed, up_to}
use Rattle.octets.specs.Refusals.{Row, ◌when◌}
use Rattle.message.specs.Cases.{flagged, question, plain}
use Rattle.message.specs.Message.{qdcount}
use Rattle.edns.specs.declared.Cookie.{Cookie}
use Rattle.request.specs.Answers.{refusal_number, of_fault, head_number, answer_of}
use Rattle.request.specs.Request.{wrong_size, is_response, many_questions, checks, head_checks, refused, no_cookie, cookie, request, body_at, cookie_body}
use Rattle.message.specs.declared.Fault.TheVariants as fault-as
use Rattle.request.specs.declared.Refusal.{Refusal}
use Rattle.request.specs.declared.Refusal.TheVariants.{Size, Response, Questions, Malformed, WrongOpt, Version, OptionPast, CookieLength}

-- what the answers say, case by case
pub record NamesHold : Type 0 where
  pub size : refusal_number Size ≡ 3
  pub response : refusal_number Response ≡ 4
  pub questions : refusal_number Questions ≡ 5
  pub malformed : refusal_number Malformed ≡ 6
  pub wrong_opt_case : refusal_number WrongOpt ≡ 7
  pub version : refusal_number Version ≡ 8
  pub option_past_case : refusal_number OptionPast ≡ 9
  pub cookie_length : refusal_number CookieLength ≡ 10
  pub malformed_is : of_fault fault-as.Malformed ≡ Malformed
  pub wrong_opt_is : of_fault fault-as.WrongOpt ≡ WrongOpt
  pub head_refused : (r : Refusal) → head_number (Err r) ≡ refusal_number r
  pub head_passed : (x : ⊤) → head_number (Ok x) ≡ 0
  pub refused_by : (r : Refusal) → answer_of (Err r) ≡ refused (refusal_number r)
  pub without : (q : ℕ) → answer_of (Ok (record { qdcount = q; cookie = None })) ≡ no_cookie q
  pub with_one : (q : ℕ) (c : Cookie) → answer_of (Ok (record { qdcount = q; cookie = Some c })) ≡ cookie q c.start c.end

-- the numbers of rows, in their order
abbrev pub numbers : List Row → List ℕ
numbers [] = []
numbers (r ∷ rows) = r.number ∷ numbers rows

-- the table, for every message; sizes, QR, QDCOUNT and the finder's part, likewise
pub record TableHolds : Type 0 where
  pub in_order : (s : List ℕ) → numbers (checks s) ≡ 3 ∷ 4 ∷ 5 ∷ 6 ∷ 7 ∷ 8 ∷ 9 ∷ 10 ∷ []
  pub head_rows : (s : List ℕ) → head_checks s ≡ 3 when wrong_size s ∷ 4 when is_response s ∷ []
  pub too_short : (s : List ℕ) → length s ≤ 11 → wrong_size s ≡ true
  pub long_enough : (s : List ℕ) → 12 ≤ length s → length s ≤ 65535 → wrong_size s ≡ false
  pub too_long : (s : List ℕ) → 65536 ≤ length s → wrong_size s ≡ true
  pub query : (a b flags : ℕ) (rest : List ℕ) → flags ≤ 127 → is_response (a ∷ b ∷ flags ∷ rest) ≡ false
  pub response : (a b flags : ℕ) (rest : List ℕ) → 128 ≤ flags → is_response (a ∷ b ∷ flags ∷ rest) ≡ true
  pub few_questions : (s : List ℕ) → qdcount s ≤ 1 → many_questions s ≡ false
  pub many_questions_case : (s : List ℕ) → 2 ≤ qdcount s → many_questions s ≡ true
  pub no_part : (s : List ℕ) (n : ℕ) → body_at s (refused n) ≡ []
  pub no_part_either : (s : List ℕ) (q : ℕ) → body_at s (no_cookie q) ≡ []
  pub the_part : body_at (1 ∷ 2 ∷ 3 ∷ 4 ∷ 5 ∷ []) (cookie 1 1 4) ≡ 2 ∷ 3 ∷ 4 ∷ []

-- ---- messages

-- an OPT of a version, with this data
abbrev pub opt : ℕ → List ℕ → List ℕ
opt version rdata = (0 ∷ 0 ∷ 41 ∷ 4 ∷ 208 ∷ 1 ∷ version ∷ 128 ∷ 1 ∷ be_bytes 2 (length rdata)) ++ rdata

-- a COOKIE option with a body of n bytes
abbrev pub cookies : ℕ → List ℕ
cookies n = (0 ∷ 10 ∷ be_bytes 2 n) ++ replicate n 7

-- another option with this body
abbrev pub other : List ℕ → List ℕ
other body = (0 ∷ 12 ∷ be_bytes 2 (length body)) ++ body

-- an option past the data
abbrev pub past : List ℕ
past = 0 ∷ 12 ∷ 0 ∷ 1 ∷ []

-- one question and one OPT of version 0 with this data, which starts at byte 30
abbrev pub asking : List ℕ → List ℕ
asking rdata = flagged 1 1 0 0 1 ++ question ++ opt 0 rdata

-- a query as dnspython sends it, 73 bytes, with the cookie of RFC 9018's first vector
abbrev pub sent : List ℕ
sent = printed 73 0x12340100000100000000000103777777076578616d706c650474657374000001000100002904d000000000001c000a00182464c4abcf10c957010000005cf79f111f8130c3eee29480

pub record RequestCases : Type 0 where
  -- a real one, and what is handed back of it
  pub real : request sent ≡ cookie 1 49 73
  pub real_body : cookie_body sent ≡ printed 24 0x2464c4abcf10c957010000005cf79f111f8130c3eee29480
  -- no refusal: QDCOUNT 0 and 1, with and without an OPT and a COOKIE option
  pub empty : request (flagged 1 0 0 0 0) ≡ no_cookie 0
  pub asked : request (flagged 1 1 0 0 0 ++ question) ≡ no_cookie 1
  pub no_options : request (asking []) ≡ no_cookie 1
  pub other_options : request (asking (other (7 ∷ []) ++ other [])) ≡ no_cookie 1
  pub client_only : request (asking (cookies 8)) ≡ cookie 1 34 42
  pub not_asked_case : request (flagged 1 0 0 0 1 ++ opt 0 (cookies 8)) ≡ cookie 0 27 35
  pub behind_another : request (asking (other (7 ∷ []) ++ cookies 8)) ≡ cookie 1 39 47
  pub the_first : request (asking (cookies 8 ++ cookies 16)) ≡ cookie 1 34 42
  pub the_first_longer : request (asking (cookies 16 ++ cookies 8)) ≡ cookie 1 34 50
  pub behind_records : request (flagged 1 1 1 1 2 ++ question ++ plain ++ plain ++ plain ++ opt 0 (cookies 8)) ≡ cookie 1 67 75
  pub before_record : request (flagged 1 1 0 0 2 ++ question ++ opt 0 (cookies 8) ++ plain) ≡ cookie 1 34 42
  -- the bytes of an option elsewhere are no option: in a record that is no OPT, in another option
  pub in_a_record : request (flagged 1 1 0 0 1 ++ question ++ (0 ∷ 0 ∷ 16 ∷ 0 ∷ 1 ∷ 0 ∷ 0 ∷ 0 ∷ 0 ∷ 0 ∷ 12 ∷ []) ++ cookies 8) ≡ no_cookie 1
  pub in_an_option : request (asking (other (cookies 8))) ≡ no_cookie 1
  -- 3, alone and before 4
  pub three : request (0x12 ∷ 0x34 ∷ 1 ∷ replicate 8 0) ≡ refused 3
  pub three_four : request (0x12 ∷ 0x34 ∷ 128 ∷ replicate 8 0) ≡ refused 3
  pub nothing : request [] ≡ refused 3
  -- 4, alone and before 5
  pub four : request (flagged 128 1 0 0 0 ++ question) ≡ refused 4
  pub four_five : request (flagged 255 2 0 0 0 ++ question ++ question) ≡ refused 4
  -- 5, alone and before 6; QDCOUNT is two bytes
  pub five : request (flagged 1 2 0 0 0 ++ question ++ question) ≡ refused 5
  pub five_six : request (flagged 1 2 0 0 0) ≡ refused 5
  pub five_high : request (0x12 ∷ 0x34 ∷ 1 ∷ 0 ∷ 1 ∷ 0 ∷ replicate 6 0) ≡ refused 5
  -- 6, alone and before 7
  pub six : request (asking (cookies 8) ++ 0 ∷ []) ≡ refused 6
  pub six_cut : request (flagged 1 1 0 0 1 ++ question) ≡ refused 6
  pub six_seven : request (flagged 1 1 1 0 0 ++ question ++ opt 0 [] ++ 0 ∷ []) ≡ refused 6
  -- 7, alone and before 8
  pub seven : request (flagged 1 1 1 0 0 ++ question ++ opt 0 []) ≡ refused 7
  pub seven_second : request (flagged 1 1 0 0 2 ++ question ++ opt 0 [] ++ opt 0 []) ≡ refused 7
  pub seven_owner : request (flagged 1 1 0 0 1 ++ question ++ 1 ∷ 97 ∷ opt 0 []) ≡ refused 7
  pub seven_eight : request (flagged 1 1 0 0 2 ++ question ++ opt 1 [] ++ opt 1 []) ≡ refused 7
  -- 8, alone and before 9
  pub eight : request (flagged 1 1 0 0 1 ++ question ++ opt 1 (cookies 8)) ≡ refused 8
  pub versions : map (λ (v : ℕ). request (flagged 1 1 0 0 1 ++ question ++ opt v [])) (up_to 0 256) ≡ no_cookie 1 ∷ replicate 255 (refused 8)
  pub eight_nine : request (flagged 1 1 0 0 1 ++ question ++ opt 1 past) ≡ refused 8
  -- 9, alone and before 10
  pub nine : request (asking past) ≡ refused 9
  pub nine_later : request (asking (cookies 8 ++ past)) ≡ refused 9
  pub nine_ten : request (asking (cookies 7 ++ past)) ≡ refused 9
  -- 10: every length to 63, by the first COOKIE option alone
  pub ten : request (asking (cookies 9)) ≡ refused 10
  pub ten_first : request (asking (cookies 7 ++ cookies 8)) ≡ refused 10
  pub ten_not_second : request (asking (cookies 8 ++ cookies 7)) ≡ cookie 1 34 42
  pub lengths : map (λ (n : ℕ). request (asking (cookies n))) (up_to 0 64)
      ≡ replicate 8 (refused 10)
      ++ cookie 1 34 42
      ∷ replicate 7 (refused 10)
      ++ map (λ (n : ℕ). cookie 1 34 n) (up_to 50 25)
      ++ replicate 23 (refused 10)
  -- the finder hands back nothing on a refusal
  pub no_body : cookie_body (asking (cookies 9)) ≡ []
  pub no_body_9 : cookie_body (asking (cookies 8 ++ past)) ≡ []
  pub no_body_8 : cookie_body (flagged 1 1 0 0 1 ++ question ++ opt 1 (cookies 8)) ≡ []
  pub no_body_4 : cookie_body (flagged 128 1 0 0 1 ++ question ++ opt 0 (cookies 8)) ≡ []
  pub no_cookie_case : cookie_body (asking (other (7 ∷ []))) ≡ []
  pub body : cookie_body (asking (other (9 ∷ []) ++ cookies 8)) ≡ replicate 8 7
