-- Cases that pin the definitions: ages, each cell of the reply table, and what each case of the enums says. The cookie is P1's; the hashes of those with
-- reserved bytes set are what OpenSSL's SIPHASH gives. Assumes nothing.
use Rattle.std.specs.Prelude.{◌≡◌, ℕ, suc, ◌+◌, ◌-◌, ◌^◌, ◌≤◌, true, false, List, [], ◌∷◌, ◌++◌, take, drop, ℤ, pos, negsuc, ◌≢◌, codes}
use Rattle.std.specs.Fmt.{signed_decimal}
use Rattle.octets.specs.Numbers.{printed}
use Rattle.verdict.specs.Findings.{Finding, finding, by_time}
use Rattle.verdict.specs.Findings.Finding.{ignored, absent, clientOnly, bad, good}
use Rattle.verdict.specs.ReplyTable.{is_disabled, ◌carrying◌, owed_of, reply_owed}
use Rattle.verdict.specs.ReplyTable.Sent.{serve, truncate, error}
use Rattle.verdict.specs.Serial.{age}
use Rattle.verdict.specs.Words.{which_words, verdict_words, action_words, carried_words, reply_words}
use Rattle.verdict.specs.declared.Action.{Action}
use Rattle.verdict.specs.declared.Action.TheVariants.{Serve, BadCookie, Truncate}
use Rattle.verdict.specs.declared.Carried.{Carried}
use Rattle.verdict.specs.declared.Carried.TheVariants.{Nothing, Fresh, Kept}
use Rattle.verdict.specs.declared.Mode.TheVariants.{Disabled, Enabled, Enforced}
use Rattle.verdict.specs.declared.Reason.TheVariants.{Method, Hash, Time}
use Rattle.verdict.specs.declared.Verdict.TheVariants.{Ignored, Absent, ClientOnly, Bad, Good}
use Rattle.verdict.specs.declared.Which.{Which}
use Rattle.verdict.specs.declared.Which.TheVariants.{Generating, Other}

-- P1's cookie
abbrev pub cookie : List ℕ
cookie = printed 24 0x2464c4abcf10c957010000005cf79f111f8130c3eee29480

-- ages
pub record AgesHold : Type 0 where
  -- either side of half the circle, and round its end
  pub same : age 5 5 ≡ pos 0
  pub later : age 6 5 ≡ pos 1
  pub sooner : age 5 6 ≡ negsuc 0
  pub furthest_old : age (2 ^ 31 + 4) 5 ≡ pos 2147483647
  pub furthest_new : age (2 ^ 31 + 5) 5 ≡ negsuc 2147483647
  pub round_old : age 0 0xffffffff ≡ pos 1
  pub round_new : age 0xffffffff 0 ≡ negsuc 0
  pub p3 : age 0x5cf7a9ac 0x5cf78f71 ≡ pos 6715
  -- the bounds of a good one, for either secret
  pub first_good : (w : Which) → by_time (negsuc 299) w ≡ good (negsuc 299) w
  pub too_new : (n : ℕ) (w : Which) → by_time (negsuc (300 + n)) w ≡ bad 3
  pub last_good : (w : Which) → by_time (pos 3600) w ≡ good (pos 3600) w
  pub too_old : (n : ℕ) (w : Which) → by_time (pos (3601 + n)) w ≡ bad 3

-- each cell of the reply table, for every QDCOUNT, reason, age and body
pub record RepliesHold : Type 0 where
  pub disabled : (q : ℕ) (v : Finding) (b : List ℕ) → reply_owed Disabled q v b ≡ serve carrying Nothing
  pub enabled_ignored : (q : ℕ) (b : List ℕ) → reply_owed Enabled q ignored b ≡ serve carrying Nothing
  pub enabled_absent : (q : ℕ) (b : List ℕ) → reply_owed Enabled q absent b ≡ serve carrying Nothing
  pub enabled_client : (q : ℕ) (b : List ℕ) → reply_owed Enabled q clientOnly b ≡ serve carrying Fresh
  pub enabled_bad : (q n : ℕ) (b : List ℕ) → reply_owed Enabled q (bad n) b ≡ error 23 carrying Fresh
  pub enforced_ignored : (q : ℕ) (b : List ℕ) → reply_owed Enforced q ignored b ≡ serve carrying Nothing
  pub enforced_absent : (q : ℕ) (b : List ℕ) → reply_owed Enforced q absent b ≡ truncate carrying Nothing
  pub enforced_client : (q : ℕ) (b : List ℕ) → reply_owed Enforced (suc q) clientOnly b ≡ error 23 carrying Fresh
  pub enforced_client_0 : (b : List ℕ) → reply_owed Enforced 0 clientOnly b ≡ serve carrying Fresh
  pub enforced_bad : (q n : ℕ) (b : List ℕ) → reply_owed Enforced q (bad n) b ≡ error 23 carrying Fresh
  pub good_alike : (q r : ℕ) (a : ℤ) (w : Which) (b : List ℕ) → reply_owed Enforced q (good a w) b ≡ reply_owed Enabled r (good a w) b
  -- kept or fresh
  pub good_other : (q : ℕ) (a : ℤ) (b : List ℕ) → reply_owed Enabled q (good a Other) b ≡ serve carrying Fresh
  pub kept_first : reply_owed Enabled 1 (good (pos 0) Generating) cookie ≡ serve carrying Kept
  pub kept_last : reply_owed Enabled 1 (good (pos 1800) Generating) cookie ≡ serve carrying Kept
  pub too_old : (n : ℕ) (b : List ℕ) → reply_owed Enabled 1 (good (pos (1801 + n)) Generating) b ≡ serve carrying Fresh
  pub ahead : (n : ℕ) (b : List ℕ) → reply_owed Enabled 1 (good (negsuc n) Generating) b ≡ serve carrying Fresh
  pub young_kept : (n : ℕ) (b : List ℕ) → n ≤ 1800 → take 3 (drop 9 b) ≡ 0 ∷ 0 ∷ 0 ∷ [] → reply_owed Enabled 1 (good (pos n) Generating) b ≡ serve carrying Kept
  pub reserved_set : (a : ℤ) (b : List ℕ) → (take 3 (drop 9 b) ≢ 0 ∷ 0 ∷ 0 ∷ []) → reply_owed Enabled 1 (good a Generating) b ≡ serve carrying Fresh
  pub reserved_one : reply_owed Enabled 1 (good (pos 0) Generating) (printed 24 0x2464c4abcf10c957010100005cf79f116d707c989046e3c9) ≡ serve carrying Fresh
  pub reserved_two : reply_owed Enabled 1 (good (pos 0) Generating) (printed 24 0x2464c4abcf10c957010001005cf79f114f8c59f70d755fd1) ≡ serve carrying Fresh
  pub reserved_three : reply_owed Enabled 1 (good (pos 0) Generating) (printed 24 0x2464c4abcf10c957010000015cf79f11737c77e34ce6b548) ≡ serve carrying Fresh
  pub no_reserved : reply_owed Enabled 1 (good (pos 0) Generating) (take 11 cookie) ≡ serve carrying Fresh

-- what the code's enums say, each of their cases; and which mode ignores cookies
pub record NamesHold : Type 0 where
  pub ignores : is_disabled Disabled ≡ true
  pub enabled : is_disabled Enabled ≡ false
  pub enforced : is_disabled Enforced ≡ false
  pub method : finding (Bad Method) ≡ bad 1
  pub hash : finding (Bad Hash) ≡ bad 2
  pub time : finding (Bad Time) ≡ bad 3
  pub of_ignored : finding Ignored ≡ ignored
  pub of_absent : finding Absent ≡ absent
  pub client_only : finding ClientOnly ≡ clientOnly
  pub of_good : (a : ℤ) (w : Which) → finding (Good a w) ≡ good a w
  pub served : (o : Carried) → owed_of (record { action = Serve; option = o }) ≡ serve carrying o
  pub bad_cookie : (o : Carried) → owed_of (record { action = BadCookie; option = o }) ≡ error 23 carrying o
  pub truncated : (o : Carried) → owed_of (record { action = Truncate; option = o }) ≡ truncate carrying o

-- what is printed, letter by letter
pub record WordsHold : Type 0 where
  pub ignored_words : verdict_words Ignored ≡ codes "ignored"
  pub absent_words : verdict_words Absent ≡ codes "absent"
  pub client_words : verdict_words ClientOnly ≡ codes "client-only"
  pub method_words : verdict_words (Bad Method) ≡ codes "bad method"
  pub hash_words : verdict_words (Bad Hash) ≡ codes "bad hash"
  pub time_words : verdict_words (Bad Time) ≡ codes "bad time"
  -- ages: of P5, of the bounds of a good one, none, and the least and the greatest that 32 bits hold
  pub good_144 : verdict_words (Good (pos 144) Other) ≡ codes "good 144 other"
  pub good_0 : verdict_words (Good (pos 0) Generating) ≡ codes "good 0 generating"
  pub good_3600 : verdict_words (Good (pos 3600) Generating) ≡ codes "good 3600 generating"
  pub good_ahead : verdict_words (Good (negsuc 299) Generating) ≡ codes "good -300 generating"
  pub good_least : verdict_words (Good (negsuc (2 ^ 31 - 1)) Other) ≡ codes "good -2147483648 other"
  pub good_most : verdict_words (Good (pos (2 ^ 31 - 1)) Other) ≡ codes "good 2147483647 other"
  -- replies
  pub serve_none : reply_words (record { action = Serve; option = Nothing }) ≡ codes "serve none"
  pub serve_fresh : reply_words (record { action = Serve; option = Fresh }) ≡ codes "serve fresh"
  pub serve_kept : reply_words (record { action = Serve; option = Kept }) ≡ codes "serve kept"
  pub bad_fresh : reply_words (record { action = BadCookie; option = Fresh }) ≡ codes "badcookie fresh"
  pub truncate_none : reply_words (record { action = Truncate; option = Nothing }) ≡ codes "truncate none"
  -- every age and secret, every reply
  pub every_good : (age : ℤ) (which : Which) → verdict_words (Good age which) ≡ codes "good " ++ signed_decimal age ++ codes " " ++ which_words which
  pub every_reply : (action : Action) (option : Carried) → reply_words (record { action = action; option = option }) ≡ action_words action ++ codes " " ++ carried_words option
