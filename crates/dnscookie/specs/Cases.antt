-- Cases that pin the definitions of Words.antt and Calls.antt: each number, whole calls with bytes in and out written out, and which refusal wins. Cookies, secrets and addresses are those of
-- document 01's cases P1 to P7, the first steps those of its sample journal, the hash is of the SipHash paper, appendix A. In a word of 16 digits the age has the first 8, the option the 12th,
-- the reply the 13th and 14th, and the number the last two. Assumes nothing.
use Rattle.std.specs.Prelude.{◌≡◌, ℕ, ◌≤◌, true, false, List, [], ◌∷◌, ◌++◌, map, take, replicate, ℤ, pos, negsuc}
use Rattle.octets.specs.Numbers.{printed, up_to}
use Rattle.message.specs.Cases.{flagged, question}
use Rattle.request.specs.Cases.{opt, cookies, asking, sent}
use Rattle.request.specs.Request.{refused, no_cookie, cookie}
use Rattle.verdict.specs.Findings.Finding.{ignored, absent, clientOnly, bad, good}
use Rattle.verdict.specs.ReplyTable.Sent.{serve, truncate, error}
use Rattle.verdict.specs.declared.Carried.TheVariants.{Nothing, Fresh, Kept}
use Rattle.verdict.specs.declared.Mode.TheVariants.{Disabled, Enabled, Enforced}
use Rattle.verdict.specs.declared.Which.TheVariants.{Generating, Other}
use Rattle.cookie.specs.ServerCookie as cookies-as
use Rattle.cookie.specs.ServerCookie.{sip_hash_method}
use Rattle.server.specs.Server as server
use Rattle.snapshot.specs.Cases.{fresh_bytes, learning_bytes, dropping_bytes}
use Rattle.fleet.specs.Calls as fleet
use Rattle.ledger.specs.Ledger.{view_of, fresh_ledger}
use Rattle.ledger.specs.Rules.{wait}
use Rattle.dnscookie_find.specs.Find.{found_word, find_call}
use Rattle.dnscookie.specs.AllCalls.{mode_number, by_c, replies_by_c}
use Rattle.dnscookie.specs.Calls.{Outcome, ◌leaving◌, is_mode, mode_of, are_secrets, respond_call, judge_call, make_call, hash_call, fresh_call, step_call, secrets_call, line_call}
use Rattle.dnscookie.specs.Words.{wrong_mode, wrong_secrets, wrong_client, wrong_ledger, wrong_record, wrong_answer, no_room_word, no_secrets, which_number, finding_number, natural_of, in32, age_number, sent_number, due_number, option_number, fields, answer_word, fault_word, judged_word, number_in, reply_in, option_in, age_in, length_word, qdcount_in, start_in, end_in, length_in}

-- what the names say, case by case
pub record NamesHold : Type 0 where
  pub own_numbers : wrong_mode ∷ wrong_secrets ∷ wrong_client ∷ wrong_ledger ∷ wrong_record ∷ wrong_answer ∷ no_room_word ∷ no_secrets ∷ [] ≡ 101 ∷ 102 ∷ 103 ∷ 104 ∷ 105 ∷ 106 ∷ 107 ∷ 108 ∷ []
  pub findings : map finding_number (ignored ∷ absent ∷ clientOnly ∷ bad 1 ∷ bad 2 ∷ bad 3 ∷ []) ≡ 200 ∷ 201 ∷ 202 ∷ 203 ∷ 204 ∷ 205 ∷ []
  pub good_generating : (a : ℤ) → finding_number (good a Generating) ≡ 206
  pub good_other : (a : ℤ) → finding_number (good a Other) ≡ 207
  pub which : which_number Generating ∷ which_number Other ∷ [] ≡ 206 ∷ 207 ∷ []
  pub served : sent_number serve ≡ 0
  pub error_code : (code : ℕ) → sent_number (error code) ≡ code
  pub truncated : sent_number truncate ≡ 128
  pub due_code : (code : ℕ) → due_number (server.rcode code) ≡ code
  pub due_nothing : due_number server.noReply ≡ 129
  pub due_caller : due_number server.callersFault ≡ 130
  pub dues : map (λ (n : ℕ). due_number (server.due n)) (up_to 1 10) ≡ 130 ∷ 130 ∷ 129 ∷ 129 ∷ 1 ∷ 1 ∷ 1 ∷ 16 ∷ 1 ∷ 1 ∷ []
  pub options : map option_number (Nothing ∷ Fresh ∷ Kept ∷ []) ≡ 0 ∷ 1 ∷ 2 ∷ []
  pub modes : mode_of 0 ∷ mode_of 1 ∷ mode_of 2 ∷ [] ≡ Disabled ∷ Enabled ∷ Enforced ∷ []
  pub are_modes : map is_mode (up_to 0 5) ≡ true ∷ true ∷ true ∷ false ∷ false ∷ []
  pub no_mode : is_mode 4294967295 ≡ false

-- every length of secrets from 0 to 48
pub record LengthsHold : Type 0 where
  pub secrets : map (λ (n : ℕ). are_secrets (replicate n 7)) (up_to 0 49)
      ≡ replicate 16 false ++ (true ∷ replicate 15 false ++ (true ∷ replicate 16 false))

-- ---- words

pub record FieldsHold : Type 0 where
  -- each field in its place
  pub placed : fields 0xce 0x17 2 0x00000960 ≡ 0x00000960000217ce
  pub number : number_in 0xfffffed4000217ce ≡ 0xce
  pub reply : reply_in 0xfffffed4000217ce ≡ 0x17
  pub option : option_in 0xfffffed4000217ce ≡ 2
  pub age : age_in 0xfffffed4000217ce ≡ negsuc 299
  pub age_after : age_in 0x00000960000217ce ≡ pos 2400
  -- whatever stands around it
  pub number_alone : number_in 0xffffffffffffff00 ≡ 0
  pub reply_alone : reply_in 0xffffffffffff00ff ≡ 0
  pub option_alone : option_in 0xfffffffffffcffff ≡ 0
  pub age_alone : age_in 0x00000000ffffffff ≡ pos 0
  pub count : qdcount_in 0xffff0049003101ff ≡ 1
  pub start : start_in 0xffff0049003101ff ≡ 49
  pub end : end_in 0xffff0049003101ff ≡ 73
  pub written : length_in 0xffffffffffff2fff ≡ 47
  -- ages in two's complement, and those of findings that have none
  pub age_0 : in32 (pos 0) ≡ 0
  pub age_3600 : in32 (pos 3600) ≡ 0x00000e10
  pub age_minus_1 : in32 (negsuc 0) ≡ 0xffffffff
  pub age_minus_300 : in32 (negsuc 299) ≡ 0xfffffed4
  pub natural : natural_of (pos 3600) ∷ natural_of (negsuc 299) ∷ [] ≡ 3600 ∷ 0 ∷ []
  pub ages : map age_number (ignored ∷ absent ∷ clientOnly ∷ bad 3 ∷ good (pos 2400) Generating ∷ good (negsuc 299) Other ∷ []) ≡ 0 ∷ 0 ∷ 0 ∷ 0 ∷ 2400 ∷ 0xfffffed4 ∷ []
  -- what a request, a body and a message are answered
  pub refused_3 : answer_word (server.refused 3) ≡ 0x8103
  pub fault : fault_word 101 ≡ 0x8265
  pub judged_10 : judged_word (cookies-as.refused 10) ≡ 10
  pub found_6 : found_word (refused 6) ≡ 6
  pub found_none : found_word (no_cookie 1) ≡ 0x01c9
  pub found_one : found_word (cookie 1 49 73) ≡ 0x0000004900310100
  pub written_47 : length_word 47 ≡ 0x2f00

-- ---- arguments

-- document 01's S1, and B.4's secrets: the one that follows, and the former
abbrev pub s1 : List ℕ
s1 = printed 16 0xe5e973e5a6b2a43f48e7dc849e37bfcf

abbrev pub latter : List ℕ
latter = printed 16 0x445536bcd2513298075a5d379663c962

abbrev pub former : List ℕ
former = printed 16 0xdd3bdf9344b678b185a6f5cb60fca715

-- addresses: P1's, P3's and P5's
abbrev pub address : List ℕ
address = printed 4 0xc6336464

abbrev pub p3_address : List ℕ
p3_address = printed 4 0xcb0071cb

abbrev pub p5_address : List ℕ
p5_address = printed 16 0x20010db80220000159ded0f4876982b8

-- cookies
abbrev pub p1_body : List ℕ
p1_body = printed 24 0x2464c4abcf10c957010000005cf79f111f8130c3eee29480

abbrev pub p3_body : List ℕ
p3_body = printed 24 0xfc93fc62807ddb8601abcdef5cf78f71a314227b6679ebf5

abbrev pub p5_body : List ℕ
p5_body = printed 24 0x22681ab97d52c298010000005cf7c57926556bd0934c72f8

-- the second that P1 was made in
abbrev pub second : ℕ
second = 0x5cf79f11

-- n bytes, all 7
abbrev pub sevens : ℕ → List ℕ
sevens n = replicate n 7

-- ---- dnscookie_respond

-- at P1's second and from its address, with an output of 30 bytes
abbrev pub to : ℕ → List ℕ → List ℕ → Outcome
to mode secrets message = respond_call mode secrets second address message (sevens 30)

-- a COOKIE option with this body in a query
abbrev pub asked : List ℕ → List ℕ
asked body = asking ((0 ∷ 10 ∷ 0 ∷ 24 ∷ []) ++ body)

pub record RespondHolds : Type 0 where
  -- a query of 73 bytes with P1's cookie, Enforced: good, served, kept
  pub kept : to 2 s1 sent ≡ (0x00000000000200ce leaving printed 30 0x000a00182464c4abcf10c957010000005cf79f111f8130c3eee294800707)
  -- P2: at the age of 2,400 the option is fresh; P7: so it is at -300
  pub p2 : respond_call 1 s1 0x5cf7a871 address sent (sevens 30) ≡ (0x00000960000100ce leaving printed 30 0x000a00182464c4abcf10c957010000005cf7a871d4a564a1442aca770707)
  pub ahead : respond_call 1 s1 0x5cf79de5 address sent (sevens 30) ≡ (0xfffffed4000100ce leaving printed 30 0x000a00182464c4abcf10c957010000005cf79de54bf2777cadaac86a0707)
  -- kept at the age of 1,800, and fresh at 1,801
  pub age_1800 : respond_call 1 s1 0x5cf7a619 address sent (sevens 30) ≡ (0x00000708000200ce leaving printed 30 0x000a00182464c4abcf10c957010000005cf79f111f8130c3eee294800707)
  pub age_1801 : (respond_call 1 s1 0x5cf7a61a address sent (sevens 30)).answer ≡ 0x00000709000100ce
  -- P3 and P4: bad by its time, BADCOOKIE, fresh
  pub p3 : respond_call 2 s1 0x5cf7a9ac p3_address (asked p3_body) (sevens 28) ≡ (0x00000000000117cd leaving printed 28 0x000a0018fc93fc62807ddb86010000005cf7a9acf73a7810aca2381e)
  -- P5 and P6: two secrets; good under the other, fresh under the generating one. The other way round: kept
  pub p6 : respond_call 2 (latter ++ former) 0x5cf7c609 p5_address (asked p5_body) (sevens 28) ≡ (0x00000090000100cf leaving printed 28 0x000a001822681ab97d52c298010000005cf7c609a6bb79d16625507a)
  pub p5 : respond_call 2 (former ++ latter) 0x5cf7c609 p5_address (asked p5_body) (sevens 28) ≡ (0x00000090000200ce leaving printed 28 0x000a001822681ab97d52c298010000005cf7c57926556bd0934c72f8)
  -- a client cookie alone, Enabled and Enforced; a wrong hash; a server cookie of 9 bytes
  pub client : to 1 s1 (asking ((0 ∷ 10 ∷ 0 ∷ 8 ∷ []) ++ take 8 p1_body)) ≡ (0x00000000000100ca leaving printed 30 0x000a00182464c4abcf10c957010000005cf79f111f8130c3eee294800707)
  pub client_enforced : to 2 s1 (asking ((0 ∷ 10 ∷ 0 ∷ 8 ∷ []) ++ take 8 p1_body)) ≡ (0x00000000000117ca leaving printed 30 0x000a00182464c4abcf10c957010000005cf79f111f8130c3eee294800707)
  pub hash : to 2 s1 (asked (take 23 p1_body ++ 0 ∷ [])) ≡ (0x00000000000117cc leaving printed 30 0x000a00182464c4abcf10c957010000005cf79f111f8130c3eee294800707)
  pub method : to 2 s1 (asking ((0 ∷ 10 ∷ 0 ∷ 17 ∷ []) ++ take 17 p1_body)) ≡ (0x00000000000117cb leaving printed 30 0x000a00182464c4abcf10c957010000005cf79f111f8130c3eee294800707)
  -- no COOKIE option: served, truncated; mode Disabled
  pub absent_served : to 1 s1 (flagged 1 1 0 0 0 ++ question) ≡ (0x00000000000000c9 leaving sevens 30)
  pub absent_truncated : to 2 s1 (flagged 1 1 0 0 0 ++ question) ≡ (0x00000000000080c9 leaving sevens 30)
  pub off : to 0 s1 sent ≡ (0x00000000000000c8 leaving sevens 30)
  -- a mode that is none, secrets of other lengths; the mode wins, and both win over an output that is too short
  pub mode_3 : to 3 s1 sent ≡ (0x0000000000008265 leaving sevens 30)
  pub secrets_0 : to 2 [] sent ≡ (0x0000000000008266 leaving sevens 30)
  pub secrets_15 : to 2 (take 15 s1) sent ≡ (0x0000000000008266 leaving sevens 30)
  pub secrets_17 : to 2 (s1 ++ 0 ∷ []) sent ≡ (0x0000000000008266 leaving sevens 30)
  pub secrets_31 : to 2 (s1 ++ take 15 s1) sent ≡ (0x0000000000008266 leaving sevens 30)
  pub secrets_33 : to 2 (s1 ++ (s1 ++ 0 ∷ [])) sent ≡ (0x0000000000008266 leaving sevens 30)
  pub secrets_off : to 0 (take 15 s1) sent ≡ (0x0000000000008266 leaving sevens 30)
  pub mode_wins : to 3 (take 15 s1) sent ≡ (0x0000000000008265 leaving sevens 30)
  pub mode_first : respond_call 3 s1 second [] [] (sevens 27) ≡ (0x0000000000008265 leaving sevens 27)
  pub secrets_first : respond_call 2 [] second [] [] (sevens 27) ≡ (0x0000000000008266 leaving sevens 27)
  -- document 01's refusals, each with what is owed
  pub one : respond_call 2 s1 second [] [] (sevens 27) ≡ (0x0000000000008201 leaving sevens 27)
  pub two : respond_call 2 s1 second (sevens 5) [] (sevens 28) ≡ (0x0000000000008202 leaving sevens 28)
  pub three : to 2 s1 (take 11 sent) ≡ (0x0000000000008103 leaving sevens 30)
  pub four : to 1 s1 (flagged 128 1 0 0 0 ++ question) ≡ (0x0000000000008104 leaving sevens 30)
  pub five : to 2 s1 (flagged 1 2 0 0 0 ++ question) ≡ (0x0000000000000105 leaving sevens 30)
  pub six : to 2 s1 (sent ++ 0 ∷ []) ≡ (0x0000000000000106 leaving sevens 30)
  pub seven : to 1 s1 (flagged 1 1 1 0 0 ++ question ++ opt 0 []) ≡ (0x0000000000000107 leaving sevens 30)
  pub eight : to 1 s1 (flagged 1 1 0 0 1 ++ question ++ opt 1 []) ≡ (0x0000000000001008 leaving sevens 30)
  pub nine : to 1 s1 (asking (0 ∷ 10 ∷ 0 ∷ 9 ∷ [])) ≡ (0x0000000000000109 leaving sevens 30)
  pub ten : to 1 s1 (asking (cookies 9)) ≡ (0x000000000000010a leaving sevens 30)

-- ---- dnscookie_judge

pub record JudgeHolds : Type 0 where
  -- P2's: P1's cookie at the age of 2,400; P7: at -300, at -301
  pub p2 : judge_call 1 s1 0x5cf7a871 address p1_body ≡ 0x00000960000000ce
  pub ahead : judge_call 2 s1 0x5cf79de5 address p1_body ≡ 0xfffffed4000000ce
  pub too_far : judge_call 2 s1 0x5cf79de4 address p1_body ≡ 205
  -- the last second at which it is good, and the next
  pub age_3600 : judge_call 2 s1 0x5cf7ad21 address p1_body ≡ 0x00000e10000000ce
  pub age_3601 : judge_call 2 s1 0x5cf7ad22 address p1_body ≡ 205
  -- P3's, at the age of 6,715
  pub p3 : judge_call 2 s1 0x5cf7a9ac p3_address p3_body ≡ 205
  -- P5's under two secrets, and under each alone
  pub p5 : judge_call 1 (latter ++ former) 0x5cf7c609 p5_address p5_body ≡ 0x00000090000000cf
  pub p5_alone : judge_call 1 former 0x5cf7c609 p5_address p5_body ≡ 0x00000090000000ce
  pub p5_other : judge_call 1 latter 0x5cf7c609 p5_address p5_body ≡ 204
  pub client : judge_call 2 s1 second address (take 8 p1_body) ≡ 202
  pub method : judge_call 2 s1 second address (take 23 p1_body) ≡ 203
  pub off : judge_call 0 s1 second address [] ≡ 200
  -- refusals: a mode wins over secrets, secrets over an address, an address over a body
  pub mode_3 : judge_call 3 (take 15 s1) second [] [] ≡ 101
  pub secrets_15 : judge_call 2 (take 15 s1) second [] [] ≡ 102
  pub secrets_33 : judge_call 2 (s1 ++ (s1 ++ 0 ∷ [])) second address p1_body ≡ 102
  pub no_address : judge_call 2 s1 second (sevens 5) [] ≡ 2
  pub no_body : judge_call 2 s1 second address (take 9 p1_body) ≡ 10

-- ---- dnscookie_make

pub record MakeHolds : Type 0 where
  -- P1's 28 bytes, and the two beyond kept; P6's, under the first of two secrets
  pub p1 : make_call s1 second address (printed 8 0x2464c4abcf10c957) (sevens 30) ≡ (0 leaving printed 30 0x000a00182464c4abcf10c957010000005cf79f111f8130c3eee294800707)
  pub p6 : make_call (latter ++ former) 0x5cf7c609 p5_address (printed 8 0x22681ab97d52c298) (sevens 28) ≡ (0 leaving printed 28 0x000a001822681ab97d52c298010000005cf7c609a6bb79d16625507a)
  -- a client cookie of another length: secrets win over it, and it over the output and the address
  pub client_7 : make_call s1 second address (sevens 7) (sevens 30) ≡ (103 leaving sevens 30)
  pub client_9 : make_call s1 second address (sevens 9) (sevens 30) ≡ (103 leaving sevens 30)
  pub client_first : make_call s1 second [] (sevens 7) (sevens 27) ≡ (103 leaving sevens 27)
  pub secrets_15 : make_call (take 15 s1) second address (sevens 8) (sevens 30) ≡ (102 leaving sevens 30)
  pub secrets_17 : make_call (s1 ++ 0 ∷ []) second address (sevens 8) (sevens 30) ≡ (102 leaving sevens 30)
  pub secrets_first : make_call (take 15 s1) second [] (sevens 7) (sevens 27) ≡ (102 leaving sevens 27)
  pub one : make_call s1 second [] (sevens 8) (sevens 27) ≡ (1 leaving sevens 27)
  pub two : make_call s1 second (sevens 5) (sevens 8) (sevens 28) ≡ (2 leaving sevens 28)

-- ---- dnscookie_find

pub record FindHolds : Type 0 where
  -- QDCOUNT 1, from 49 to 73
  pub real : find_call sent ≡ 0x0000004900310100
  pub not_asked_case : find_call (flagged 1 0 0 0 1 ++ opt 0 (cookies 8)) ≡ 0x00000023001b0000
  pub no_opt_case : find_call (flagged 1 1 0 0 0 ++ question) ≡ 0x01c9
  pub no_question : find_call (flagged 1 0 0 0 0) ≡ 0x00c9
  pub three : find_call (take 11 sent) ≡ 3
  pub six : find_call (sent ++ 0 ∷ []) ≡ 6
  pub ten : find_call (asking (cookies 9)) ≡ 10

-- ---- dnscookie_siphash24

pub record HashHolds : Type 0 where
  -- the SipHash paper, appendix A: a129ca6149be45e5
  pub paper : hash_call (up_to 0 16) (up_to 0 15) (sevens 10) ≡ (0 leaving printed 10 0xe545be4961ca29a10707)
  pub just_fits : hash_call (up_to 0 16) (up_to 0 15) (sevens 8) ≡ (0 leaving printed 8 0xe545be4961ca29a1)
  pub secret_15 : hash_call (up_to 0 15) (up_to 0 15) (sevens 10) ≡ (102 leaving sevens 10)
  pub secret_17 : hash_call (up_to 0 17) (up_to 0 15) (sevens 10) ≡ (102 leaving sevens 10)
  pub secret_32 : hash_call (up_to 0 32) (up_to 0 15) (sevens 10) ≡ (102 leaving sevens 10)
  pub no_room : hash_call (up_to 0 16) (up_to 0 15) (sevens 7) ≡ (107 leaving sevens 7)
  pub secret_first : hash_call (up_to 0 15) (up_to 0 15) (sevens 7) ≡ (102 leaving sevens 7)

-- ---- a ledger

-- START of 2 at 1000 with sixteen bytes of 11 hex; OPEN at 1010 with 22
abbrev pub starting : List ℕ
starting = printed 32 0x000200000000000000000000000003e811111111111111111111111111111111

abbrev pub opening : List ℕ
opening = printed 32 0x010000000000000000000000000003f222222222222222222222222222222222

-- the state after START, and after OPEN
abbrev pub started_bytes : List ℕ
started_bytes = printed 68 0x0101000003000000000000000000000000000000e80300000000000000000000000000001111111111111111111111111111111100000000000000000000000000000000

abbrev pub opened_bytes : List ℕ
opened_bytes = printed 68 0x0101010003000000000000000000000000000000f20300000000000000000000000000001111111111111111111111111111111122222222222222222222222222222222

-- sixteen bytes of 11 hex, and of 22
abbrev pub A : List ℕ
A = replicate 16 0x11

abbrev pub B : List ℕ
B = replicate 16 0x22

-- a record of a kind, whose other bytes a line does not tell
abbrev pub of : ℕ → List ℕ
of kind = kind ∷ replicate 31 9

pub record LedgersHold : Type 0 where
  -- dnscookie_ledger_fresh, over whatever the bytes hold
  pub fresh : fresh_call (sevens 68) ≡ (0 leaving fresh_bytes)
  pub fresh_67 : fresh_call (sevens 67) ≡ (104 leaving sevens 67)
  pub fresh_69 : fresh_call (sevens 69) ≡ (104 leaving sevens 69)
  -- dnscookie_ledger_step: accepted, one after the other; refused, with the state as it was
  pub start : step_call fresh_bytes starting ≡ (0 leaving started_bytes)
  pub opens : step_call started_bytes opening ≡ (0 leaving opened_bytes)
  pub learn : step_call opened_bytes (printed 32 0x020000000000000000000000000003fc22222222222222222222222222222222) ≡ (0 leaving learning_bytes)
  pub again : step_call started_bytes starting ≡ (4 leaving started_bytes)
  pub no_kind : step_call fresh_bytes (replicate 32 6) ≡ (1 leaving fresh_bytes)
  pub earlier : step_call dropping_bytes (printed 32 0x0401000000000000000000000000122022222222222222222222222222222222) ≡ (3 leaving dropping_bytes)
  -- no ledger, which wins over no record
  pub zeros : step_call (replicate 68 0) starting ≡ (104 leaving replicate 68 0)
  pub short_state : step_call (take 67 fresh_bytes) starting ≡ (104 leaving take 67 fresh_bytes)
  pub record_31 : step_call fresh_bytes (take 31 starting) ≡ (105 leaving fresh_bytes)
  pub record_33 : step_call fresh_bytes (starting ++ 0 ∷ []) ≡ (105 leaving fresh_bytes)
  pub neither : step_call (replicate 68 0) (take 31 starting) ≡ (104 leaving replicate 68 0)
  -- dnscookie_ledger_secrets: at stages 0 to 3, the generating one first; bytes beyond them are as they were
  pub stage_0 : secrets_call started_bytes 0 (sevens 34) ≡ (0x1000 leaving A ++ sevens 18)
  pub stage_0_open : secrets_call learning_bytes 1 (sevens 32) ≡ (0x1000 leaving A ++ sevens 16)
  pub stage_1 : secrets_call learning_bytes 0 (sevens 34) ≡ (0x2000 leaving A ++ (B ++ sevens 2))
  pub stage_2 : secrets_call dropping_bytes 1 (sevens 34) ≡ (0x2000 leaving B ++ (A ++ sevens 2))
  pub stage_3 : secrets_call dropping_bytes 0 (sevens 34) ≡ (0x1000 leaving B ++ sevens 18)
  -- none: no member's number, before START
  pub member_2 : secrets_call learning_bytes 2 (sevens 32) ≡ (108 leaving sevens 32)
  pub member_32 : secrets_call learning_bytes 32 (sevens 32) ≡ (108 leaving sevens 32)
  pub member_256 : secrets_call learning_bytes 256 (sevens 32) ≡ (108 leaving sevens 32)
  pub member_past : (m : ℕ) → 32 ≤ m → secrets_call learning_bytes m (sevens 32) ≡ (108 leaving sevens 32)
  pub not_started : secrets_call fresh_bytes 0 (sevens 32) ≡ (108 leaving sevens 32)
  -- too little room, for one secret too, which wins over no secrets; no ledger, which wins over it
  pub secrets_31 : secrets_call learning_bytes 0 (sevens 31) ≡ (107 leaving sevens 31)
  pub one_31 : secrets_call started_bytes 0 (sevens 31) ≡ (107 leaving sevens 31)
  pub room_first : secrets_call fresh_bytes 0 (sevens 31) ≡ (107 leaving sevens 31)
  pub room_first_2 : secrets_call learning_bytes 2 (sevens 31) ≡ (107 leaving sevens 31)
  pub secrets_zeros : secrets_call (replicate 68 0) 0 (sevens 31) ≡ (104 leaving sevens 31)
  -- dnscookie_ledger_line: "4 2 0 1 1 1 0 0", the sample's fourth line
  pub line_4 : line_call learning_bytes 4 (of 2) 0 (sevens 47) ≡ (0x1000 leaving printed 16 0x3420322030203120312031203020300a ++ sevens 31)
  -- "10 4 0 1 0 0 1 1", and "3 1 4 1 2 0 0 0"; before START, "1 255 10 0 0 0 0 0"
  pub line_10 : line_call dropping_bytes 10 (of 4) 0 (sevens 47) ≡ (0x1100 leaving printed 17 0x313020342030203120302030203120310a ++ sevens 30)
  pub line_3 : line_call opened_bytes 3 (of 1) 4 (sevens 50) ≡ (0x1000 leaving printed 16 0x3320312034203120322030203020300a ++ sevens 34)
  pub line_fresh : line_call fresh_bytes 1 (of 255) 10 (sevens 47) ≡ (0x1300 leaving printed 19 0x3120323535203130203020302030203020300a ++ sevens 28)
  -- "18446744073709551615 0 0 0 2 0 0 0"
  pub line_last : line_call started_bytes 18446744073709551615 (of 0) 0 (sevens 47) ≡ (0x2300 leaving printed 35 0x313834343637343430373337303935353136313520302030203020322030203020300a ++ sevens 12)
  pub line_46 : line_call learning_bytes 4 (of 2) 0 (sevens 46) ≡ (107 leaving sevens 46)
  pub line_zeros : line_call (replicate 68 0) 4 (of 2) 0 (sevens 46) ≡ (104 leaving sevens 46)
  -- no record, no answer of a step, no room, each before the next; no ledger before them all
  pub line_record : line_call learning_bytes 4 (take 31 (of 2)) 11 (sevens 46) ≡ (105 leaving sevens 46)
  pub line_record_33 : line_call learning_bytes 4 (of 2 ++ 9 ∷ []) 0 (sevens 47) ≡ (105 leaving sevens 47)
  pub line_answer : line_call learning_bytes 4 (of 2) 11 (sevens 46) ≡ (106 leaving sevens 46)
  pub line_answer_104 : line_call learning_bytes 4 (of 2) 104 (sevens 47) ≡ (106 leaving sevens 47)
  pub line_first : line_call (replicate 68 0) 4 [] 11 [] ≡ (104 leaving [])

-- ---- lists of calls, as specs/AllCalls reads them

-- before START and behind it: member 0 and 2, a record again, no room, a client cookie alone, an address that is none
abbrev pub calls : List fleet.Call
calls =
    fleet.making 0 1000 (sevens 8) address (sevens 28)
    ∷ fleet.step starting
    ∷ fleet.step starting
    ∷ fleet.making 0 1000 (sevens 8) address (sevens 28)
    ∷ fleet.making 2 1000 (sevens 8) address (sevens 28)
    ∷ fleet.making 0 1000 (sevens 8) [] (sevens 27)
    ∷ fleet.checking 0 Enabled 1000 address (sevens 8)
    ∷ fleet.checking 0 Disabled 1000 (sevens 5) []
    ∷ []

pub record CallsHold : Type 0 where
  pub answers : map (λ (r : fleet.Reply). r.answer) (replies_by_c (λ k. sevens 32) fresh_bytes calls)
      ≡ fleet.no_secrets ∷ fleet.accepted ∷ fleet.refused 4 ∷ fleet.made ∷ fleet.no_secrets ∷ fleet.refused 1 ∷ fleet.judged clientOnly ∷ fleet.refused 2 ∷ []
  -- "no secrets" before a number, and in the fleet behind it; a number of the question for secrets is a refusal
  pub none_first : (by_c fresh_bytes (sevens 32) (fleet.making 0 0 (sevens 8) [] (sevens 27))).answer ≡ fleet.no_secrets
  pub number_first : (fleet.reply_to wait sip_hash_method (view_of fresh_ledger) (fleet.making 0 0 (sevens 8) [] (sevens 27))).answer ≡ fleet.refused 1
  pub untouched : (by_c fresh_bytes (sevens 32) (fleet.making 0 0 (sevens 8) [] (sevens 27))).output ≡ sevens 27
  pub no_ledger : (by_c (sevens 68) (sevens 32) (fleet.making 0 0 (sevens 8) address (sevens 28))).answer ≡ fleet.refused 104
  pub modes : map mode_number (Disabled ∷ Enabled ∷ Enforced ∷ []) ≡ 0 ∷ 1 ∷ 2 ∷ []
