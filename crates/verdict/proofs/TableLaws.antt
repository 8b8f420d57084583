-- A law of the reply table that docs/PORT.md names: an ignored cookie is served with nothing, in both columns. No answer cites it today. Assumes nothing.
use Rattle.std.proofs.Common.{◌≡◌, ℕ, Bool, true, false, cond, List, refl}
use Rattle.verdict.specs.Findings.{finding}
use Rattle.verdict.specs.ReplyTable.{Owed, serve, ◌carrying◌, owed_of, enabled_reply, enforced_reply}
use Rattle.verdict.specs.declared.Action.TheVariants.{Serve}
use Rattle.verdict.specs.declared.Carried.TheVariants.{Nothing}
use Rattle.verdict.specs.declared.Verdict.{Verdict}
use Rattle.verdict.specs.declared.Verdict.TheVariants.{Ignored}

module _ (enforced : Bool) (qdcount : ℕ) (verdict : Verdict) (body : List ℕ) where
  abbrev column : Owed
  column = cond enforced (enforced_reply qdcount (finding verdict) body) (enabled_reply (finding verdict) body)

  -- where they agree
  alike : (b : Bool) (o : Owed) → o ≡ cond b o o
  alike true o = refl
  alike false o = refl

  pub ignored_is : verdict ≡ Ignored → owed_of (record { action = Serve; option = Nothing }) ≡ column
  ignored_is is = rw is (alike enforced (serve carrying Nothing))
