-- The reply that a verdict owes: document 01, "What the reply carries", and RFC 7873, section 5.4, for QDCOUNT 0. Assumes nothing.
use Rattle.std.specs.Prelude.{ℕ, Bool, true, false, cond, ◌&&◌, List, [], ◌∷◌, take, drop, ℤ, pos, ◌==◌, int_le}
use Rattle.octets.specs.Runs.{same_run}
use Rattle.verdict.specs.Findings.{Finding}
use Rattle.verdict.specs.Findings.Finding.{ignored, absent, clientOnly, bad, good}
use Rattle.verdict.specs.declared.Action.{Action}
use Rattle.verdict.specs.declared.Action.TheVariants.{Serve, BadCookie, Truncate}
use Rattle.verdict.specs.declared.Carried.{Carried}
use Rattle.verdict.specs.declared.Carried.TheVariants.{Nothing, Fresh, Kept}
use Rattle.verdict.specs.declared.Mode.{Mode}
use Rattle.verdict.specs.declared.Mode.TheVariants.{Disabled, Enabled, Enforced}
use Rattle.verdict.specs.declared.Reply.{Reply}
use Rattle.verdict.specs.declared.Which.{Which}
use Rattle.verdict.specs.declared.Which.TheVariants.{Generating, Other}

-- the mode in which cookies are ignored
abbrev pub is_disabled : Mode → Bool
is_disabled Disabled = true
is_disabled Enabled = false
is_disabled Enforced = false

-- whether the mode is Enforced
abbrev pub is_enforced : Mode → Bool
is_enforced Disabled = false
is_enforced Enabled = false
is_enforced Enforced = true

-- what the reply is: the question served, an error with its RCODE, or the question with the TC bit alone
pub data Sent : Type 0 where
  serve truncate : Sent
  error : ℕ → Sent

-- a reply and the COOKIE option that it carries. The names of `Carried` are document 01's own: no option, fresh, kept
pub record Owed : Type 0 where
  pub sent : Sent
  pub option : Carried

infix 68 ◌carrying◌
-- a reply as it is written in the table
abbrev pub ◌carrying◌ : Sent → Carried → Owed
s carrying o = record { sent = s; option = o }

-- what the code's answer says
abbrev pub sent_of : Action → Sent
sent_of Serve = serve
sent_of BadCookie = error 23
sent_of Truncate = truncate

-- both together
abbrev pub owed_of : Reply → Owed
owed_of r = sent_of r.action carrying r.option

-- the reserved bytes of a COOKIE body are zero: bytes 1 to 3 of the server cookie, which follows the client cookie's 8
unfoldable pub reserved_zero : List ℕ → Bool
reserved_zero body = same_run (take 3 (drop 9 body)) (0 ∷ 0 ∷ 0 ∷ [])

-- an age at which a cookie is kept: 0 to 1,800
unfoldable pub is_young : ℤ → Bool
is_young a = int_le (pos 0) a && int_le a (pos 1800)

-- a good cookie is kept if it matched the generating secret, its reserved bytes are zero and it is young; otherwise it is fresh
abbrev pub kept_or_fresh : ℤ → Which → List ℕ → Carried
kept_or_fresh a Generating body = cond (reserved_zero body && is_young a) Kept Fresh
kept_or_fresh a Other body = Fresh

-- the table's column for mode Enabled. An ignored cookie is served with no option in every mode
abbrev pub enabled_reply : Finding → List ℕ → Owed
enabled_reply ignored body = serve carrying Nothing
enabled_reply absent body = serve carrying Nothing
enabled_reply clientOnly body = serve carrying Fresh
enabled_reply (bad n) body = error 23 carrying Fresh
enabled_reply (good a w) body = serve carrying kept_or_fresh a w body

-- the table's column for mode Enforced
abbrev pub enforced_reply : ℕ → Finding → List ℕ → Owed
enforced_reply qdcount ignored body = serve carrying Nothing
enforced_reply qdcount absent body = truncate carrying Nothing
enforced_reply qdcount clientOnly body = cond (qdcount == 0) serve (error 23) carrying Fresh
enforced_reply qdcount (bad n) body = error 23 carrying Fresh
enforced_reply qdcount (good a w) body = serve carrying kept_or_fresh a w body

-- the whole table. In mode Disabled every request is served with no option
abbrev pub reply_owed : Mode → ℕ → Finding → List ℕ → Owed
reply_owed Disabled qdcount v body = serve carrying Nothing
reply_owed Enabled qdcount v body = enabled_reply v body
reply_owed Enforced qdcount v body = enforced_reply qdcount v body
