-- Cases that pin each definition of Calls.antt and Answers.antt, and `Forward` of Claims.antt. A, B and C are document 01's secrets, `client` and `v4` P1's client cookie and address, `v6` P5's address.
-- Bytes are literal: those of P1 to P6 as RFC 9018 prints them, the others what OpenSSL's SIPHASH gives. Assumes nothing.
use Rattle.std.specs.Prelude.{ℕ, suc, ◌%◌, ◌≡◌, true, false, List, [], ◌∷◌, ◌++◌, map, ℤ, pos, negsuc, take, drop, replicate, Ok, Err}
use Rattle.octets.specs.Numbers.{printed, up_to}
use Rattle.secret.specs.Secret.{secret_of}
use Rattle.verdict.specs.Findings.{Finding}
use Rattle.verdict.specs.Findings.Finding.{ignored, absent, clientOnly, bad, good}
use Rattle.verdict.specs.declared.Mode.{Mode}
use Rattle.verdict.specs.declared.Mode.TheVariants.{Disabled, Enabled, Enforced}
use Rattle.verdict.specs.declared.Reason.TheVariants as reason-as
use Rattle.verdict.specs.declared.Verdict.TheVariants as verdict-as
use Rattle.verdict.specs.declared.Which.{Which}
use Rattle.verdict.specs.declared.Which.TheVariants.{Generating, Other}
use Rattle.cookie.specs.PCases.{s1}
use Rattle.cookie.specs.ServerCookie.{CookieMethod, sip_hash_method}
use Rattle.cookie.specs.declared.Refusal.TheVariants as refusal-as
use Rattle.ledger.specs.Cases.{A, B, C, s_a, s_b, s_none, entry, whole}
use Rattle.ledger.specs.Claims.{step_of}
use Rattle.ledger.specs.Journal.{START, OPEN, LEARN, SWITCH, DROP, CANCEL}
use Rattle.ledger.specs.Ledger.{fresh_ledger, view_of}
use Rattle.ledger.specs.Rules.{wait}
use Rattle.ledger.specs.declared.Ledger.{Ledger}
use Rattle.fleet.specs.Answers.{made_answer, checked_answer}
use Rattle.fleet.specs.Calls.{Call, Answer, Reply, Entry, ◌leaving◌, ◌got◌, clock_at, step_answer, reply_to, past, run_on, run, past_on, ledger_past, is_accepted, is_refused, accepted_in, time_of}
use Rattle.fleet.specs.Calls.Answer.{accepted, refused, no_secrets, made, judged}
use Rattle.fleet.specs.Calls.Call.{step, making, checking}
use Rattle.fleet.specs.Claims.{Forward}
use Rattle.fleet.specs.declared.Fault.TheVariants.{NoSecrets, Refused}

-- ---- names

-- an answer of each kind
abbrev pub answers : List Answer
answers =
    accepted ∷ refused 1 ∷ refused 2 ∷ refused 10 ∷ no_secrets ∷ made ∷ judged ignored ∷ judged absent ∷ judged clientOnly ∷ judged (bad 1) ∷ judged (bad 2) ∷ judged (bad 3)
    ∷ judged (good (pos 0) Generating) ∷ judged (good (pos 0) Other) ∷ []

-- what the enums say (100 is no number of document 01's, and no call gives it), which answers count as accepted and as refused, and the times
pub record NamesHold : Type 0 where
  pub the_wait : wait ≡ 3601
  pub made_done : made_answer (Ok tt) ≡ made
  pub made_none : made_answer (Err NoSecrets) ≡ no_secrets
  pub made_refused : map (λ r. made_answer (Err (Refused r))) (refusal-as.Output ∷ refusal-as.Address ∷ refusal-as.Body ∷ refusal-as.NotKept ∷ [])
      ≡ refused 1 ∷ refused 2 ∷ refused 10 ∷ refused 100 ∷ []
  pub checked_none : checked_answer (Err NoSecrets) ≡ no_secrets
  pub checked_refused : map (λ r. checked_answer (Err (Refused r))) (refusal-as.Output ∷ refusal-as.Address ∷ refusal-as.Body ∷ refusal-as.NotKept ∷ [])
      ≡ refused 1 ∷ refused 2 ∷ refused 10 ∷ refused 100 ∷ []
  pub checked_found : map (λ v. checked_answer (Ok v))
      (verdict-as.Ignored ∷ verdict-as.Absent ∷ verdict-as.ClientOnly ∷ verdict-as.Bad reason-as.Method ∷ verdict-as.Bad reason-as.Hash ∷ verdict-as.Bad reason-as.Time ∷ [])
      ≡ judged ignored ∷ judged absent ∷ judged clientOnly ∷ judged (bad 1) ∷ judged (bad 2) ∷ judged (bad 3) ∷ []
  pub checked_good : (a : ℤ) (which : Which) → checked_answer (Ok (verdict-as.Good a which)) ≡ judged (good a which)
  -- to a step: 0 is accepted, and any other number refused by it
  pub steps : map step_answer (0 ∷ 1 ∷ 2 ∷ 3 ∷ 4 ∷ 5 ∷ 6 ∷ 7 ∷ 8 ∷ 9 ∷ 10 ∷ [])
      ≡ accepted ∷ refused 1 ∷ refused 2 ∷ refused 3 ∷ refused 4 ∷ refused 5 ∷ refused 6 ∷ refused 7 ∷ refused 8 ∷ refused 9 ∷ refused 10 ∷ []
  pub every_step : (n : ℕ) → step_answer (suc n) ≡ refused (suc n)
  pub which_accepted : map is_accepted answers ≡ true ∷ replicate 13 false
  pub which_refused : map is_refused answers ≡ false ∷ true ∷ true ∷ true ∷ true ∷ replicate 9 false
  pub every_number : (n : ℕ) → is_refused (refused n) ≡ true
  pub no_number : (n : ℕ) → is_accepted (refused n) ≡ false
  pub every_verdict : (f : Finding) → is_refused (judged f) ≡ false
  pub no_verdict : (f : Finding) → is_accepted (judged f) ≡ false
  -- a reply and an entry as they are written
  pub reply_answer : (a : Answer) (o : List ℕ) → (a leaving o).answer ≡ a
  pub reply_output : (a : Answer) (o : List ℕ) → (a leaving o).output ≡ o
  pub entry_call : (c : Call) (r : Reply) → (c got r).call ≡ c
  pub entry_reply : (c : Call) (r : Reply) → (c got r).reply ≡ r
  -- times: bytes 8 to 15 of a record, and what the others say
  pub step_time : time_of (step (printed 32 0x04fe0102030405061011121314151617202122232425262728292a2b2c2d2e2f)) ≡ 0x1011121314151617
  pub step_complement : time_of (step (printed 32 0xfb01fefdfcfbfaf9efeeedecebeae9e8dfdedddcdbdad9d8d7d6d5d4d3d2d1d0)) ≡ 0xefeeedecebeae9e8
  pub making_time : (member time : ℕ) (c a o : List ℕ) → time_of (making member time c a o) ≡ time
  pub checking_time : (member time : ℕ) (mode : Mode) (a b : List ℕ) → time_of (checking member mode time a b) ≡ time
  -- 2^32 - 1, 2^32, 2^32 + 5, 2^64 - 1
  pub clocks : map clock_at (0 ∷ 4294967295 ∷ 4294967296 ∷ 4294967301 ∷ 18446744073709551615 ∷ []) ≡ 0 ∷ 4294967295 ∷ 0 ∷ 5 ∷ 4294967295 ∷ []

-- ---- what the cases are made of

-- P1's client cookie
abbrev pub client : List ℕ
client = printed 8 0x2464c4abcf10c957

-- 198.51.100.100
abbrev pub v4 : List ℕ
v4 = printed 4 0xc6336464

-- 2001:db8:220:1:59de:d0f4:8769:82b8
abbrev pub v6 : List ℕ
v6 = printed 16 0x20010db80220000159ded0f4876982b8

-- n bytes, none of them 0: 1, 2, 3 and so on
abbrev pub bytes : ℕ → List ℕ
bytes n = up_to 1 n

-- members 0 to 3 at the stages 0 to 3 of a rollover from A to B. No steps give all four at once; the definitions are of every ledger
abbrev pub four : Ledger
four = whole true true s_a s_b 0xf 0xe 0xc 0x8 5000 1000

-- 32 members, nothing open
abbrev pub most : Ledger
most = whole true false s_a s_none 0xffffffff 0 0 0 5000 0

-- members before START
abbrev pub unstarted : Ledger
unstarted = whole false false s_a s_none 0xf 0 0 0 0 0

-- a member that holds S1
abbrev pub holder : Ledger
holder = whole true false s1 s_none 1 0 0 0 1000 0

-- members 0 to 3 at the stages 0 to 3 of a rollover from P5's secret to P6's
abbrev pub rolled : Ledger
rolled = whole true true (secret_of (printed 16 0xdd3bdf9344b678b185a6f5cb60fca715)) (secret_of (printed 16 0x445536bcd2513298075a5d379663c962)) 0xf 0xe 0xc 0x8 5000 1000

-- the replies to calls that are each made by themselves on a ledger
unfoldable pub each : Ledger → List Call → List Reply
each l calls = map (reply_to wait sip_hash_method (view_of l)) calls

-- ---- makings

-- P1's client, an output of 28 bytes, at 5000 (0x1388)
abbrev pub makes : List ℕ → ℕ → Call
makes address member = making member 5000 client address (bytes 28)

pub record MakingsHold : Type 0 where
  -- at the stages 0 to 3: with A, A, B, B. The whole output
  pub at_stages : each four (map (makes v4) (0 ∷ 1 ∷ 2 ∷ 3 ∷ []))
      ≡ made leaving printed 28 0x000a00182464c4abcf10c95701000000000013886fedf1d5ed71053f
      ∷ made leaving printed 28 0x000a00182464c4abcf10c95701000000000013886fedf1d5ed71053f
      ∷ made leaving printed 28 0x000a00182464c4abcf10c9570100000000001388d55becb022b778c3
      ∷ made leaving printed 28 0x000a00182464c4abcf10c9570100000000001388d55becb022b778c3
      ∷ []
  pub at_stages_6 : each four (map (makes v6) (0 ∷ 1 ∷ 2 ∷ 3 ∷ []))
      ≡ made leaving printed 28 0x000a00182464c4abcf10c95701000000000013884c72fad602065c25
      ∷ made leaving printed 28 0x000a00182464c4abcf10c95701000000000013884c72fad602065c25
      ∷ made leaving printed 28 0x000a00182464c4abcf10c95701000000000013883409da0402712556
      ∷ made leaving printed 28 0x000a00182464c4abcf10c95701000000000013883409da0402712556
      ∷ []
  -- no secrets: a number from the count on, before START, though the ledger had members
  pub no_member : each four (map (makes v4) (4 ∷ 31 ∷ 32 ∷ 255 ∷ [])) ≡ replicate 4 (no_secrets leaving bytes 28)
  pub of_32 : each most (map (makes v4) (31 ∷ 32 ∷ 255 ∷ []))
      ≡ made leaving printed 28 0x000a00182464c4abcf10c95701000000000013886fedf1d5ed71053f ∷ no_secrets leaving bytes 28 ∷ no_secrets leaving bytes 28 ∷ []
  pub at_first : each fresh_ledger (map (makes v4) (0 ∷ 31 ∷ 255 ∷ [])) ≡ replicate 3 (no_secrets leaving bytes 28)
  pub before_start : each unstarted (map (makes v6) (0 ∷ 1 ∷ 2 ∷ [])) ≡ replicate 3 (no_secrets leaving bytes 28)
  -- the bytes beyond 28 stay
  pub longer : each four (making 1 5000 client v4 (bytes 29) ∷ making 2 5000 client v6 (bytes 40) ∷ [])
      ≡ made leaving printed 29 0x000a00182464c4abcf10c95701000000000013886fedf1d5ed71053f1d
      ∷ made leaving printed 40 0x000a00182464c4abcf10c95701000000000013883409da04027125561d1e1f202122232425262728
      ∷ []
  -- P1, P2 and P4; P6 at the stages 2 and 3
  pub p1 : each holder (making 0 0x5cf79f11 client v4 (bytes 28) ∷ []) ≡ made leaving printed 28 0x000a00182464c4abcf10c957010000005cf79f111f8130c3eee29480 ∷ []
  pub p2 : each holder (making 0 0x5cf7a871 client v4 (bytes 28) ∷ []) ≡ made leaving printed 28 0x000a00182464c4abcf10c957010000005cf7a871d4a564a1442aca77 ∷ []
  pub p4 : each holder (making 0 0x5cf7a9ac (printed 8 0xfc93fc62807ddb86) (printed 4 0xcb0071cb) (bytes 28) ∷ [])
      ≡ made leaving printed 28 0x000a0018fc93fc62807ddb86010000005cf7a9acf73a7810aca2381e ∷ []
  pub p6 : each rolled (map (λ m. making m 0x5cf7c609 (printed 8 0x22681ab97d52c298) v6 (bytes 28)) (2 ∷ 3 ∷ []))
      ≡ replicate 2 (made leaving printed 28 0x000a001822681ab97d52c298010000005cf7c609a6bb79d16625507a)
  -- the clock is the time modulo 2^32: P1's second 2^32 later, 2^32 - 1, 2^32, 2^48, 2^64 - 1. Any time may be given, also one before the ledger's
  pub clock : each holder (map (λ t. making 0 t client v4 (bytes 28)) (0x15cf79f11 ∷ 4294967295 ∷ 4294967296 ∷ 281474976710656 ∷ 18446744073709551615 ∷ 0 ∷ []))
      ≡ made leaving printed 28 0x000a00182464c4abcf10c957010000005cf79f111f8130c3eee29480
      ∷ made leaving printed 28 0x000a00182464c4abcf10c95701000000ffffffff2c26184b68a2962a
      ∷ made leaving printed 28 0x000a00182464c4abcf10c95701000000000000006a90826d95aac622
      ∷ made leaving printed 28 0x000a00182464c4abcf10c95701000000000000006a90826d95aac622
      ∷ made leaving printed 28 0x000a00182464c4abcf10c95701000000ffffffff2c26184b68a2962a
      ∷ made leaving printed 28 0x000a00182464c4abcf10c95701000000000000006a90826d95aac622
      ∷ []

-- a making with an address and an output of so many bytes
abbrev pub offers : ℕ → ℕ → Call
offers address output = making 0 5000 client (bytes address) (bytes output)

-- by 1, before 2 and before no secrets; by 2, before no secrets. The output stays as it was
pub record MakingRefusalsHold : Type 0 where
  pub by_1 : each four (offers 4 27 ∷ offers 16 27 ∷ offers 4 0 ∷ []) ≡ refused 1 leaving bytes 27 ∷ refused 1 leaving bytes 27 ∷ refused 1 leaving [] ∷ []
  pub by_1_before_2 : each four (offers 5 27 ∷ offers 0 0 ∷ offers 17 1 ∷ []) ≡ refused 1 leaving bytes 27 ∷ refused 1 leaving [] ∷ refused 1 leaving (1 ∷ []) ∷ []
  pub by_1_before_none : each fresh_ledger (offers 4 27 ∷ offers 16 0 ∷ offers 5 27 ∷ []) ≡ refused 1 leaving bytes 27 ∷ refused 1 leaving [] ∷ refused 1 leaving bytes 27 ∷ []
  pub by_2 : each four (map (λ n. offers n 28) (0 ∷ 3 ∷ 5 ∷ 15 ∷ 17 ∷ [])) ≡ replicate 5 (refused 2 leaving bytes 28)
  pub by_2_longer : each four (offers 5 40 ∷ []) ≡ refused 2 leaving bytes 40 ∷ []
  pub by_2_before_none : each fresh_ledger (map (λ n. offers n 28) (0 ∷ 3 ∷ 5 ∷ 15 ∷ 17 ∷ [])) ≡ replicate 5 (refused 2 leaving bytes 28)
  pub by_none : each fresh_ledger (offers 4 28 ∷ offers 16 28 ∷ offers 4 40 ∷ []) ≡ no_secrets leaving bytes 28 ∷ no_secrets leaving bytes 28 ∷ no_secrets leaving bytes 40 ∷ []

-- ---- checkings

-- made at 5000 for P1's client, under A
abbrev pub under_a : List ℕ
under_a = printed 24 0x2464c4abcf10c95701000000000013886fedf1d5ed71053f

-- under B
abbrev pub under_b : List ℕ
under_b = printed 24 0x2464c4abcf10c9570100000000001388d55becb022b778c3

-- the same for the address `v6`: under A
abbrev pub under_a6 : List ℕ
under_a6 = printed 24 0x2464c4abcf10c95701000000000013884c72fad602065c25

-- under B
abbrev pub under_b6 : List ℕ
under_b6 = printed 24 0x2464c4abcf10c95701000000000013883409da0402712556

-- P1's cookie
abbrev pub cookie : List ℕ
cookie = printed 24 0x2464c4abcf10c957010000005cf79f111f8130c3eee29480

-- checked 100 seconds later by each of the four
abbrev pub by_each : Mode → List ℕ → List ℕ → List Reply
by_each mode address body = each four (map (λ m. checking m mode 5100 address body) (0 ∷ 1 ∷ 2 ∷ 3 ∷ []))

-- the verdict as a reply: a checking has no output
abbrev pub found : Finding → Reply
found f = judged f leaving []

-- good, at an age, by a secret
abbrev pub fine : ℕ → Which → Reply
fine age which = found (good (pos age) which)

pub record CheckingsHold : Type 0 where
  -- at the stages 0 to 3: who makes with the secret, who accepts it too, and who does not: B at 0, A at 3
  pub of_a : by_each Enabled v4 under_a ≡ fine 100 Generating ∷ fine 100 Generating ∷ fine 100 Other ∷ found (bad 2) ∷ []
  pub of_b : by_each Enabled v4 under_b ≡ found (bad 2) ∷ fine 100 Other ∷ fine 100 Generating ∷ fine 100 Generating ∷ []
  pub of_a_enforced : by_each Enforced v6 under_a6 ≡ fine 100 Generating ∷ fine 100 Generating ∷ fine 100 Other ∷ found (bad 2) ∷ []
  pub of_b_enforced : by_each Enforced v6 under_b6 ≡ found (bad 2) ∷ fine 100 Other ∷ fine 100 Generating ∷ fine 100 Generating ∷ []
  -- P2 and P3, and P3 at its own second
  pub p2 : each holder (checking 0 Enabled 0x5cf7a871 v4 cookie ∷ []) ≡ fine 2400 Generating ∷ []
  pub p3 : each holder (map (λ t. checking 0 Enforced t (printed 4 0xcb0071cb) (printed 24 0xfc93fc62807ddb8601abcdef5cf78f71a314227b6679ebf5)) (0x5cf7a9ac ∷ 0x5cf78f71 ∷ []))
      ≡ found (bad 3) ∷ fine 0 Generating ∷ []
  -- P5 at the stages 0 to 3
  pub p5 : each rolled (map (λ m. checking m Enabled 0x5cf7c609 v6 (printed 24 0x22681ab97d52c298010000005cf7c57926556bd0934c72f8)) (0 ∷ 1 ∷ 2 ∷ 3 ∷ []))
      ≡ fine 144 Generating ∷ fine 144 Generating ∷ fine 144 Other ∷ found (bad 2) ∷ []
  -- ages: 3,600 and -300 are good, 3,601 and -301 are not
  pub ages : each holder (map (λ t. checking 0 Enabled t v4 cookie) (0x5cf7ad21 ∷ 0x5cf7ad22 ∷ 0x5cf79de5 ∷ 0x5cf79de4 ∷ []))
      ≡ fine 3600 Generating ∷ found (bad 3) ∷ found (good (negsuc 299) Generating) ∷ found (bad 3) ∷ []
  -- across 2^32: a cookie of 2^32 - 100 at 2^32 + 100, and P1's 2^32 seconds later
  pub across : each holder (checking 0 Enabled 4294967396 v4 (printed 24 0x2464c4abcf10c95701000000ffffff9c1ca2270f1570dbdd) ∷ checking 0 Enforced 0x15cf79f11 v4 cookie ∷ [])
      ≡ fine 200 Generating ∷ fine 0 Generating ∷ []
  -- the reasons: another version whose hash is right, other lengths; the last byte; another address; before time
  pub by_method : each holder (map (λ b. checking 0 Enabled 0x5cf79f11 v4 b)
      (printed 24 0x2464c4abcf10c957020000005cf79f116187d0e51e7646e7 ∷ take 16 cookie ∷ take 23 cookie ∷ (cookie ++ (0 ∷ [])) ∷ (cookie ++ take 16 cookie) ∷ []))
      ≡ replicate 5 (found (bad 1))
  pub by_hash_case : each holder (checking 0 Enabled 0x5cf79f11 v4 (printed 24 0x2464c4abcf10c957010000005cf79f111f8130c3eee29481) ∷ checking 0 Enforced 0x5cf79f11 v6 cookie
      ∷ checking 0 Enforced 0x5cf7ad22 v6 cookie ∷ [])
      ≡ replicate 3 (found (bad 2))
  -- a client cookie alone
  pub alone : each four (checking 0 Enabled 5100 v4 client ∷ checking 3 Enforced 0 v6 (bytes 8) ∷ []) ≡ replicate 2 (found clientOnly)
  -- mode Disabled looks at no body
  pub disabled : each four (map (λ b. checking 2 Disabled 5100 v4 b) ([] ∷ bytes 8 ∷ bytes 9 ∷ bytes 41 ∷ under_a ∷ [])) ≡ replicate 5 (found ignored)
  pub disabled_6 : each holder (checking 0 Disabled 0 v6 [] ∷ checking 0 Disabled 18446744073709551615 v6 (bytes 41) ∷ []) ≡ replicate 2 (found ignored)

-- the reply without an output that refuses by a number
abbrev pub refuses : ℕ → Reply
refuses n = refused n leaving []

-- no secrets
abbrev pub without : Reply
without = no_secrets leaving []

-- a checking with a body of so many bytes
abbrev pub comes : Mode → List ℕ → ℕ → Call
comes mode address body = checking 0 mode 5100 address (bytes body)

-- in each mode
abbrev pub modes : List Mode
modes = Disabled ∷ Enabled ∷ Enforced ∷ []

-- by 2, before 10 and before no secrets; by 10, outside Disabled, before no secrets
pub record CheckingRefusalsHold : Type 0 where
  pub by_2 : map (λ mode. each four (map (λ n. checking 0 mode 5100 (bytes n) under_a) (0 ∷ 3 ∷ 5 ∷ 15 ∷ 17 ∷ []))) modes ≡ replicate 3 (replicate 5 (refuses 2))
  pub by_2_before_10 : each four (map (λ mode. comes mode (bytes 5) 9) modes) ≡ replicate 3 (refuses 2)
  pub by_2_before_none : each fresh_ledger (map (λ mode. comes mode (bytes 5) 24) modes ++ map (λ mode. comes mode (bytes 15) 9) modes) ≡ replicate 6 (refuses 2)
  pub by_10 : each four (map (comes Enabled v4) (0 ∷ 7 ∷ 9 ∷ 15 ∷ 41 ∷ [])) ≡ replicate 5 (refuses 10)
  pub by_10_enforced : each four (map (comes Enforced v6) (0 ∷ 7 ∷ 9 ∷ 15 ∷ 41 ∷ [])) ≡ replicate 5 (refuses 10)
  pub by_10_before_none : each fresh_ledger (map (comes Enabled v4) (0 ∷ 7 ∷ 9 ∷ 15 ∷ 41 ∷ []) ++ map (comes Enforced v6) (0 ∷ 7 ∷ 9 ∷ 15 ∷ 41 ∷ [])) ≡ replicate 10 (refuses 10)
  pub by_none : each fresh_ledger (map (λ mode. comes mode v4 24) modes ++ map (λ mode. comes mode v6 8) modes) ≡ replicate 6 without
  -- in Disabled the length of a body is not looked at without secrets either
  pub by_none_disabled : each fresh_ledger (map (comes Disabled v4) (0 ∷ 7 ∷ 9 ∷ 15 ∷ 41 ∷ [])) ≡ replicate 5 without
  pub no_member : each four (map (λ m. checking m Enabled 5100 v4 under_a) (4 ∷ 31 ∷ 32 ∷ 255 ∷ [])) ≡ replicate 4 without
  pub of_32 : each most (map (λ m. checking m Enabled 5100 v4 under_a) (31 ∷ 32 ∷ [])) ≡ fine 100 Generating ∷ without ∷ []
  pub before_start : each unstarted (map (λ mode. checking 0 mode 5100 v4 under_a) modes) ≡ replicate 3 without

-- ---- the method

-- another method: version 7, and for a hash the secret's first byte and bytes 12 to 18 of the message
abbrev pub toy : CookieMethod
toy = record { version = 7; hash = λ secret message. secret.k0 % 256 ∷ take 7 (drop 12 message) }

-- it is the one that is asked
pub record MethodHolds : Type 0 where
  pub makes_toy : map (reply_to wait toy (view_of four)) (map (makes v4) (1 ∷ 2 ∷ []))
      ≡ made leaving printed 28 0x000a00182464c4abcf10c95707000000000013881100001388c63364
      ∷ made leaving printed 28 0x000a00182464c4abcf10c95707000000000013882200001388c63364
      ∷ []
  pub checks_toy : map (reply_to wait toy (view_of four))
      (map (λ m. checking m Enabled 5100 v4 (printed 24 0x2464c4abcf10c95707000000000013882200001388c63364)) (0 ∷ 1 ∷ 2 ∷ []) ++ (checking 0 Enabled 5100 v4 under_a ∷ []))
      ≡ found (bad 2) ∷ fine 100 Other ∷ fine 100 Generating ∷ found (bad 1) ∷ []
  pub runs_toy : run_on wait toy four (checking 1 Enforced 5100 v4 (printed 24 0x2464c4abcf10c95707000000000013882200001388c63364) ∷ [])
      ≡ checking 1 Enforced 5100 v4 (printed 24 0x2464c4abcf10c95707000000000013882200001388c63364) got fine 100 Other ∷ []

-- ---- steps, and the ledger afterwards

-- two members
abbrev pub begun : Ledger
begun = whole true false s_a s_none 3 0 0 0 1000 0

-- a rollover to B, both at stage 0
abbrev pub opened : Ledger
opened = whole true true s_a s_b 3 0 0 0 1010 0

-- both at 1
abbrev pub learnt : Ledger
learnt = whole true true s_a s_b 3 3 0 0 1021 0

-- at 2 and 1
abbrev pub switching : Ledger
switching = whole true true s_a s_b 3 3 1 0 1030 1030

-- both at 2
abbrev pub switched : Ledger
switched = whole true true s_a s_b 3 3 3 0 1040 1040

-- at 3 and 2
abbrev pub dropping : Ledger
dropping = whole true true s_a s_b 3 3 3 1 4641 1040

-- a reply, and the ledger afterwards
pub record After : Type 0 where
  pub reply : Reply
  pub ledger : Ledger

-- of a record that is offered to a ledger
unfoldable pub after : Ledger → List ℕ → After
after l record' = record { reply = reply_to wait sip_hash_method (view_of l) (step record'); ledger = past wait l (step record') }

-- an accepted step
abbrev pub yields : Ledger → After
yields l = record { reply = accepted leaving []; ledger = l }

-- a refused one leaves the ledger as it was
abbrev pub keeps : ℕ → Ledger → After
keeps n l = record { reply = refused n leaving []; ledger = l }

pub record StepsHold : Type 0 where
  pub start : after fresh_ledger (entry START 2 1000 A) ≡ yields begun
  pub open_new : after begun (entry OPEN 9 1010 B) ≡ yields opened
  pub learn : after opened (entry LEARN 1 1020 B) ≡ yields (whole true true s_a s_b 3 2 0 0 1020 0)
  pub switch : after learnt (entry SWITCH 0 1030 B) ≡ yields switching
  pub switch_last : after switching (entry SWITCH 1 1040 B) ≡ yields switched
  pub drop_first : after switched (entry DROP 0 4641 B) ≡ yields dropping
  pub drop_last : after dropping (entry DROP 1 4700 B) ≡ yields (whole true false s_b s_none 3 0 0 0 4700 1040)
  pub cancel : after learnt (entry CANCEL 9 1500 B) ≡ yields (whole true false s_a s_none 3 0 0 0 1500 0)
  -- each refusal
  pub by_1 : after begun (entry 6 0 1000 A) ≡ keeps 1 begun
  pub by_2 : after begun (entry OPEN 0 281474976710656 B) ≡ keeps 2 begun
  pub by_3 : after begun (entry OPEN 0 999 B) ≡ keeps 3 begun
  pub by_4 : after begun (entry START 2 1000 A) ≡ keeps 4 begun
  pub by_5 : after begun (entry LEARN 0 1000 B) ≡ keeps 5 begun
  pub by_6 : after opened (entry LEARN 0 1010 C) ≡ keeps 6 opened
  pub by_7 : after opened (entry LEARN 2 1010 B) ≡ keeps 7 opened
  pub by_8 : after learnt (entry LEARN 0 1021 B) ≡ keeps 8 learnt
  pub by_9 : after switching (entry DROP 0 9000 B) ≡ keeps 9 switching
  pub by_10 : after switched (entry DROP 0 4640 B) ≡ keeps 10 switched
  -- makings and checkings leave it
  pub making_leaves : (w : ℕ) (l : Ledger) (member time : ℕ) (c a o : List ℕ) → past w l (making member time c a o) ≡ l
  pub checking_leaves : (w : ℕ) (l : Ledger) (member time : ℕ) (mode : Mode) (a b : List ℕ) → past w l (checking member mode time a b) ≡ l

-- ---- calls one after the other

-- a list of calls of every kind, refused and not
abbrev pub mixed : List Call
mixed =
    checking 0 Enabled 50 v4 client
    ∷ step (entry START 2 1000 A)
    ∷ making 0 1001 client v4 (bytes 29)
    ∷ step (entry OPEN 0 999 B)
    ∷ making 0 900 client v4 (bytes 27)
    ∷ making 0 900 client (bytes 5) (bytes 28)
    ∷ making 2 0 client v4 (bytes 28)
    ∷ checking 1 Enabled 1005 v4 (printed 24 0x2464c4abcf10c95701000000000003e9383efdee88aeb84a)
    ∷ step (entry OPEN 0 1010 B)
    ∷ checking 1 Enforced 0 v4 (bytes 9)
    ∷ checking 1 Disabled 0 (bytes 5) []
    ∷ step (entry LEARN 0 1020 B)
    ∷ step (entry LEARN 0 5000 B)
    ∷ checking 1 Disabled 1020 v6 (bytes 9)
    ∷ making 1 1020 client v6 (bytes 28)
    ∷ []

-- the replies
abbrev pub mixed_replies : List Reply
mixed_replies =
    without
    ∷ accepted leaving []
    ∷ made leaving printed 29 0x000a00182464c4abcf10c95701000000000003e9383efdee88aeb84a1d
    ∷ refuses 3
    ∷ refused 1 leaving bytes 27
    ∷ refused 2 leaving bytes 28
    ∷ no_secrets leaving bytes 28
    ∷ fine 4 Generating
    ∷ accepted leaving []
    ∷ refuses 10
    ∷ refuses 2
    ∷ accepted leaving []
    ∷ refuses 8
    ∷ found ignored
    ∷ made leaving printed 28 0x000a00182464c4abcf10c95701000000000003fcad2a13cc679aea90
    ∷ []

-- each call with its reply, in their order
abbrev pub paired : List Call → List Reply → List Entry
paired [] replies = []
paired (c ∷ calls) [] = []
paired (c ∷ calls) (r ∷ replies) = c got r ∷ paired calls replies

pub record RunsHold : Type 0 where
  pub runs : run wait sip_hash_method mixed ≡ paired mixed mixed_replies
  pub runs_none : run wait sip_hash_method [] ≡ []
  -- the accepted steps, the newest first
  pub steps : accepted_in (paired mixed mixed_replies) ≡ step_of LEARN 0 1020 s_b ∷ step_of OPEN 0 1010 s_b ∷ step_of START 2 1000 s_a ∷ []
  pub no_steps : accepted_in [] ≡ []
  -- no other call is counted as one, whatever is answered
  pub no_others : accepted_in (making 0 0 client v4 [] got accepted leaving [] ∷ checking 0 Enabled 0 v4 [] got accepted leaving [] ∷ []) ≡ []
  -- the ledger that they leave, from a fresh one and from another
  pub leaves : ledger_past wait (paired mixed mixed_replies) ≡ whole true true s_a s_b 3 1 0 0 1020 0
  pub leaves_first : ledger_past wait [] ≡ fresh_ledger
  pub leaves_other : past_on wait opened (step (entry LEARN 0 1020 B) got accepted leaving [] ∷ step (entry LEARN 1 1019 B) got refused 3 leaving [] ∷ step (entry LEARN 1 1021 B) got accepted leaving [] ∷ [])
      ≡ learnt
  -- from a ledger in the middle
  pub runs_on : run_on wait sip_hash_method learnt (step (entry SWITCH 0 1030 B) ∷ making 0 1030 client v4 (bytes 28) ∷ making 1 1030 client v4 (bytes 28) ∷ [])
      ≡ step (entry SWITCH 0 1030 B) got accepted leaving []
      ∷ making 0 1030 client v4 (bytes 28) got made leaving printed 28 0x000a00182464c4abcf10c9570100000000000406719c44e3b6c7bc47
      ∷ making 1 1030 client v4 (bytes 28) got made leaving printed 28 0x000a00182464c4abcf10c957010000000000040654adcd2765f513d0
      ∷ []

-- ---- times that never go back

-- a step at a time, with an answer
abbrev pub stepped : ℕ → Answer → Entry
stepped time a = step (entry OPEN 0 time B) got a leaving []

-- a making
abbrev pub making_at : ℕ → Answer → Entry
making_at time a = making 0 time client v4 [] got a leaving []

-- a checking
abbrev pub checking_at : ℕ → Answer → Entry
checking_at time a = checking 0 Disabled time v4 [] got a leaving []

-- the run of calls after a START at 1000
abbrev pub begun_with : List Call → List Entry
begun_with calls = run wait sip_hash_method (step (entry START 2 1000 A) ∷ calls)

pub record ForwardHolds : Type 0 where
  pub no_calls : Forward 7 []
  -- the same second, and later ones
  pub same : Forward 5 (stepped 5 accepted ∷ making_at 5 made ∷ checking_at 5 (judged ignored) ∷ stepped 5 accepted ∷ [])
  pub later : Forward 0 (making_at 5 made ∷ checking_at 6 (judged (bad 1)) ∷ stepped 6 accepted ∷ checking_at 7 (judged clientOnly) ∷ [])
  -- refused ones don't count, earlier or later than the others
  pub refused_earlier : Forward 5 (stepped 0 (refused 3) ∷ making_at 5 made ∷ making_at 0 (refused 1) ∷ making_at 0 (refused 2) ∷ making_at 0 no_secrets
      ∷ checking_at 0 (refused 2) ∷ checking_at 0 (refused 10) ∷ checking_at 0 no_secrets ∷ stepped 5 accepted ∷ [])
  pub refused_later : Forward 5 (stepped 9 (refused 8) ∷ making_at 9 (refused 1) ∷ making_at 9 no_secrets ∷ checking_at 9 (refused 10) ∷ checking_at 9 no_secrets ∷ stepped 5 accepted ∷ [])
  -- every other call does
  pub step_counts : Forward 6 (stepped 5 accepted ∷ []) → ⊥
  pub making_counts : Forward 6 (making_at 5 made ∷ []) → ⊥
  pub checking_counts : (f : Finding) → Forward 6 (checking_at 5 (judged f) ∷ []) → ⊥
  pub step_behind : Forward 0 (making_at 6 made ∷ checking_at 0 no_secrets ∷ stepped 5 accepted ∷ []) → ⊥
  pub making_behind : Forward 0 (stepped 6 accepted ∷ stepped 0 (refused 3) ∷ making_at 5 made ∷ []) → ⊥
  pub checking_behind : (f : Finding) → Forward 0 (stepped 6 accepted ∷ making_at 0 (refused 1) ∷ checking_at 5 (judged f) ∷ []) → ⊥
  -- of runs: the first that counts in the mixed list is at 1000
  pub mixed_forward : Forward 1000 (run wait sip_hash_method mixed)
  pub mixed_first : Forward 1001 (run wait sip_hash_method mixed) → ⊥
  -- a step that is accepted before the time of a making; a making before a step's; a checking in mode Disabled, which is not refused, and one that is bad
  pub step_back : Forward 0 (begun_with (making 0 2000 client v4 (bytes 28) ∷ step (entry OPEN 0 1500 B) ∷ [])) → ⊥
  pub making_back : Forward 0 (begun_with (making 0 999 client v4 (bytes 28) ∷ [])) → ⊥
  pub checking_back : Forward 0 (begun_with (checking 1 Disabled 999 v4 (bytes 9) ∷ [])) → ⊥
  pub bad_back : Forward 0 (begun_with (checking 1 Enforced 999 v4 (bytes 16) ∷ [])) → ⊥
  -- the same calls, refused
  pub refused_back : Forward 0 (begun_with (step (entry OPEN 0 999 B) ∷ making 2 999 client v4 (bytes 28) ∷ making 0 999 client v4 (bytes 27) ∷ checking 1 Disabled 999 (bytes 5) (bytes 9)
      ∷ checking 1 Enabled 999 v4 (bytes 9) ∷ checking 2 Disabled 999 v4 (bytes 9) ∷ []))
