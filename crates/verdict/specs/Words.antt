-- The words that verdicts and replies print. Assumes nothing.
use Rattle.std.specs.Prelude.{ℕ, List, ◌++◌, codes}
use Rattle.std.specs.Fmt.{signed_decimal}
use Rattle.verdict.specs.declared.Action.{Action}
use Rattle.verdict.specs.declared.Action.TheVariants.{Serve, BadCookie, Truncate}
use Rattle.verdict.specs.declared.Carried.{Carried}
use Rattle.verdict.specs.declared.Carried.TheVariants.{Nothing, Fresh, Kept}
use Rattle.verdict.specs.declared.Reason.{Reason}
use Rattle.verdict.specs.declared.Reason.TheVariants.{Method, Hash, Time}
use Rattle.verdict.specs.declared.Reply.{Reply}
use Rattle.verdict.specs.declared.Verdict.{Verdict}
use Rattle.verdict.specs.declared.Verdict.TheVariants.{Ignored, Absent, ClientOnly, Bad, Good}
use Rattle.verdict.specs.declared.Which.{Which}
use Rattle.verdict.specs.declared.Which.TheVariants.{Generating, Other}

-- the step that failed
abbrev pub reason_words : Reason → List ℕ
reason_words Method = codes "method"
reason_words Hash = codes "hash"
reason_words Time = codes "time"

-- the secret that matched
abbrev pub which_words : Which → List ℕ
which_words Generating = codes "generating"
which_words Other = codes "other"

-- a verdict: of a bad one the step that failed, of a good one its age in seconds, after a minus if it is negative, and the secret that matched
abbrev pub verdict_words : Verdict → List ℕ
verdict_words Ignored = codes "ignored"
verdict_words Absent = codes "absent"
verdict_words ClientOnly = codes "client-only"
verdict_words (Bad reason) = codes "bad " ++ reason_words reason
verdict_words (Good age which) = codes "good " ++ signed_decimal age ++ codes " " ++ which_words which

-- what a reply is
abbrev pub action_words : Action → List ℕ
action_words Serve = codes "serve"
action_words BadCookie = codes "badcookie"
action_words Truncate = codes "truncate"

-- the option that it carries
abbrev pub carried_words : Carried → List ℕ
carried_words Nothing = codes "none"
carried_words Fresh = codes "fresh"
carried_words Kept = codes "kept"

-- both together
abbrev pub reply_words : Reply → List ℕ
reply_words r = action_words r.action ++ codes " " ++ carried_words r.option
