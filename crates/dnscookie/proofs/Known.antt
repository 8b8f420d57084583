-- What a request and a COOKIE body can be answered: each number has room in a word, and each verdict has a number of its own. Assumes nothing.
use Rattle.std.proofs.Common.{◌≡◌, ℕ, zero, suc, ◌^◌, ◌<◌, ◌≤◌, Bool, true, false, cond, not, ◌&&◌, eqb, leb, List, [], ◌∷◌, length, ℤ, refl, arith}
use mathlib.Core.Option.{Option, none, some, get_or}
use Rattle.octets.specs.Refusals.{Row, ◌when◌, first, answered}
use Rattle.octets.proofs.EachLaws.{Each}
use Rattle.octets.proofs.RefusalLaws.{first_most}
use Rattle.message.specs.Message.{qdcount}
use Rattle.secret.specs.declared.Secrets.{Secrets}
use Rattle.verdict.specs.Findings.{Finding, is_timely, by_time}
use Rattle.verdict.specs.Findings.Finding.{ignored, absent, clientOnly, bad, good}
use Rattle.verdict.specs.ReplyTable.{is_disabled, Sent, serve, truncate, error, reply_owed}
use Rattle.verdict.specs.Serial.{age}
use Rattle.verdict.specs.declared.Mode.{Mode}
use Rattle.verdict.specs.declared.Mode.TheVariants.{Disabled, Enabled, Enforced}
use Rattle.verdict.specs.declared.Which.{Which}
use Rattle.cookie.specs.ServerCookie as cookie
use Rattle.cookie.specs.ServerCookie.{CookieMethod, client_cookie, server_cookie, timestamp, hash_field, hashed, is_method, matching, by_hash, judge_server, judge_body, is_address, is_body, checking_refusal, judgement}
use Rattle.server.specs.Server as server
use Rattle.server.specs.Server.{due, cookie_in, verdict_on}
use Rattle.dnscookie.specs.Words.{due_number}

-- ---- findings

-- steps 1 to 3, and an age that is good
abbrev pub Known : Finding → Type 0
Known ignored = Unit {0}
Known absent = Unit {0}
Known clientOnly = Unit {0}
Known (bad n) = (1 ≤ n) × (n ≤ 3)
Known (good a w) = is_timely a ≡ true

either : (b : Bool) (f g : Finding) → Known f → Known g → Known (cond b f g)
either true f g k l = k
either false f g k l = l

time_known : (a : ℤ) (w : Which) → Known (by_time a w)
unfolding by_time
time_known a w = pick (is_timely a) refl
  where
    pick : (b : Bool) → is_timely a ≡ b → Known (cond b (good a w) (bad 3))
    pick true e = e
    pick false e = (omega arith, omega arith)

hash_known : (a : ℤ) (o : Option Which) → Known (by_hash a o)
hash_known a none = (omega arith, omega arith)
hash_known a (some w) = time_known a w

module _ (m : CookieMethod) (secrets : Secrets) (clock : ℕ) (address : List ℕ) where
  server_known : (client given : List ℕ) → Known (judge_server m secrets clock address client given)
  unfolding judge_server
  server_known client given =
      let hash = matching m (hashed client given address) (hash_field given) secrets in
      let a = age clock (timestamp given) in
      either (is_method m given) (by_hash a hash) (bad 1) (hash_known a hash) (omega arith, omega arith)

  pub body_known : (body : List ℕ) → Known (judge_body m secrets clock address body)
  unfolding judge_body
  body_known body = either (eqb (length body) 8) clientOnly _ tt (server_known (client_cookie body) (server_cookie body))

  verdict_known : (mode : Mode) (body : List ℕ) → Known (cookie.verdict m mode secrets clock address body)
  verdict_known Disabled body = tt
  verdict_known Enabled body = body_known body
  verdict_known Enforced body = body_known body

  option_known : (o : Option (List ℕ)) → Known (server.judged m secrets clock address o)
  option_known none = tt
  option_known (some body) = body_known body

  on_known : (mode : Mode) (o : Option (List ℕ)) → Known (verdict_on m mode secrets clock address o)
  on_known Disabled o = tt
  on_known Enabled o = option_known o
  on_known Enforced o = option_known o

-- ---- replies

-- the one error is BADCOOKIE
abbrev pub KnownSent : Sent → Type 0
KnownSent serve = Unit {0}
KnownSent truncate = Unit {0}
KnownSent (error n) = n ≡ 23

pub owed_known : (mode : Mode) (q : ℕ) (f : Finding) (body : List ℕ) → KnownSent (reply_owed mode q f body).sent
owed_known Disabled q f body = tt
owed_known Enabled q ignored body = tt
owed_known Enabled q absent body = tt
owed_known Enabled q clientOnly body = tt
owed_known Enabled q (bad n) body = refl
owed_known Enabled q (good a w) body = tt
owed_known Enforced q ignored body = tt
owed_known Enforced q absent body = tt
owed_known Enforced q clientOnly body = pick (eqb q 0)
  where
    pick : (b : Bool) → KnownSent (cond b serve (error 23))
    pick true = tt
    pick false = refl
owed_known Enforced q (bad n) body = refl
owed_known Enforced q (good a w) body = tt

pub due_small : (n : ℕ) → due_number (due n) < 2 ^ 8
due_small n = pick (leb n 2) (leb n 4) (eqb n 8)
  where
    pick : (a b c : Bool) → due_number (cond a server.callersFault (cond b server.noReply (cond c (server.rcode 16) (server.rcode 1)))) < 2 ^ 8
    pick true b c = omega arith
    pick false true c = omega arith
    pick false false true = omega arith
    pick false false false = omega arith

-- ---- what crate server answers to a request

abbrev pub KnownAnswer : server.Answer → Type 0
KnownAnswer (server.refused n) = n ≤ 10
KnownAnswer (server.replied f owed) = Known f × KnownSent owed.sent

module _ (m : CookieMethod) (secrets : Secrets) (clock : ℕ) (address message output : List ℕ) where
  rows_most : (mode : Mode) → Each (λ (r : Row). r.number ≤ 10) (server.checks mode address message output)
  rows_most Disabled = (omega arith, (omega arith, (omega arith, (omega arith, tt))))
  rows_most Enabled = (omega arith, (omega arith, (omega arith, (omega arith, (omega arith, (omega arith, (omega arith, (omega arith, (omega arith, (omega arith, tt))))))))))
  rows_most Enforced = (omega arith, (omega arith, (omega arith, (omega arith, (omega arith, (omega arith, (omega arith, (omega arith, (omega arith, (omega arith, tt))))))))))

  answered_known : (k : ℕ) (o : server.Outcome) → k ≤ 10 → KnownAnswer o.answer → KnownAnswer (answered (server.refusing output) k o).answer
  answered_known zero o low known = known
  answered_known (suc k) o low known = low

  pub respond_known : (mode : Mode) → KnownAnswer (server.respond m mode secrets clock address message output).answer
  unfolding server.respond
  respond_known mode =
      let rows = server.checks mode address message output in
      answered_known (first rows) _ (first_most 10 rows (rows_most mode))
      (on_known m secrets clock address mode (cookie_in message), owed_known mode (qdcount message) (verdict_on m mode secrets clock address (cookie_in message)) (get_or (cookie_in message) []))

-- ---- what crate cookie answers to a COOKIE body

abbrev pub KnownJudged : cookie.Answer → Type 0
KnownJudged (cookie.refused n) = n ≤ 10
KnownJudged (cookie.found f) = Known f

pub judged_known : (m : CookieMethod) (mode : Mode) (secrets : Secrets) (clock : ℕ) (address body : List ℕ) → KnownJudged (judgement m mode secrets clock address body)
unfolding judgement checking_refusal
judged_known m mode secrets clock address body =
    let rows = 2 when not (is_address address) ∷ 10 when (not (is_disabled mode) && not (is_body body)) ∷ [] in
    pick (first rows) (first_most 10 rows (omega arith, (omega arith, tt)))
  where
    pick : (k : ℕ) → k ≤ 10 → KnownJudged (answered cookie.refused k (cookie.found (cookie.verdict m mode secrets clock address body)))
    pick zero low = verdict_known m secrets clock address mode body
    pick (suc k) low = low
