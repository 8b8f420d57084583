-- The rules of the rollover ledger: document 01, "The rollover ledger". They read a View, which is what can be seen of a ledger, and are written once: they serve
-- the ledger that is kept (Ledger.antt) and the account that is worked out from the steps alone (Account.antt). Assumes nothing.
use Rattle.std.specs.Prelude.{ℕ, zero, suc, ◌+◌, ◌-◌, Bool, not, cond, ◌&&◌, ◌||◌, List, [], ◌∷◌, eqb, ltb}
use Rattle.std.proofs.Math.Option.{Option, none, some}
use Rattle.octets.specs.Refusals.{Row, ◌when◌, first}
use Rattle.secret.specs.Secret.{same_secret}
use Rattle.secret.specs.declared.Secret.{Secret}
use Rattle.secret.specs.declared.Secrets.{Secrets}
use Rattle.secret.specs.declared.Secrets.TheVariants.{One, Two}
use Rattle.stages.specs.Sets.{member_limit}
use Rattle.stages.specs.Stages as stages
use Rattle.ledger.specs.declared.Step.{Step}
use Rattle.ledger.specs.Journal.{START, OPEN, LEARN, SWITCH, DROP, CANCEL, is, is_from, is_member_step}

-- what can be seen of a ledger
pub record View : Type 0 where
  pub started : Bool
  -- whether a number is a member's. Document 01 has numbers below the count; document 02, item 1, lets members join and leave
  pub present : ℕ → Bool
  pub current : Secret
  -- whether a rollover is open, and its new secret
  pub rolling : Bool
  pub new : Secret
  pub stage : ℕ → ℕ
  -- the time of the last accepted step, and of the last accepted SWITCH
  pub last : ℕ
  pub last_switch : ℕ

-- zeros stand where no secret is held
abbrev pub no_secret : Secret
no_secret = record { k0 = 0; k1 = 0 }

-- the greatest time that a step may have
abbrev pub latest : ℕ
latest = 281474976710655

-- a DROP is refused before the last accepted SWITCH plus this. The rules take it as an argument, so that claims can speak of every wait
abbrev pub wait : ℕ
wait = 3601

-- whether any member is at a stage
abbrev pub any_at : View → ℕ → Bool
any_at v k = stages.any_at v.present v.stage k

-- ---- the table of refusals

-- with a wait
module _ (w : ℕ) where
  -- a row for each row of document 01's table, in the order of the checks
  abbrev pub refusals : View → Step → List Row
  refusals v s =
      1 when ltb CANCEL s.kind
      ∷ 2 when ltb latest s.time
      ∷ 3 when ltb s.time v.last
      ∷ 4 when (is START s && v.started || is OPEN s && v.rolling)
      ∷ 5 when (is_from OPEN CANCEL s && not v.started || is_from LEARN CANCEL s && not v.rolling)
      ∷ 6 when (is OPEN s && same_secret s.secret v.current || is_from LEARN CANCEL s && not (same_secret s.secret v.new))
      ∷ 7 when (is START s && (eqb s.member 0 || ltb member_limit s.member) || is_member_step s && not (v.present s.member))
      ∷ 8 when (is_member_step s && not (eqb (v.stage s.member) (s.kind - LEARN)))
      ∷ 9 when (is SWITCH s && any_at v 0 || is DROP s && (any_at v 0 || any_at v 1) || is CANCEL s && (any_at v 2 || any_at v 3))
      ∷ 10 when (is DROP s && ltb s.time (v.last_switch + w))
      ∷ []

  -- the number of the refusal, 0 for a step that is accepted
  unfoldable pub refusal : View → Step → ℕ
  refusal v s = first (refusals v s)

-- ---- the stage table

-- what a member at a stage makes with and accepts, and what else it accepts
abbrev pub stage_table : ℕ → Secret → Secret → Secrets
stage_table zero current new = One current
stage_table (suc zero) current new = Two current new
stage_table (suc (suc zero)) current new = Two new current
stage_table (suc (suc (suc n))) current new = One new

-- a member's secrets: none before START, nor for a number that is no member's
unfoldable pub secrets_of : View → ℕ → Option Secrets
secrets_of v m = cond (v.started && v.present m) (some (stage_table (v.stage m) v.current v.new)) none
