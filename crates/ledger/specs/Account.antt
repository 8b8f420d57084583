-- The account: the same View, worked out from the list of the accepted steps alone, the newest first; no state is kept. Document 01: "Whatever the rules here say of
-- the ledger (count, secrets, stages, what is open, times) is worked out from the accepted steps". Assumes nothing.
use Rattle.std.specs.Prelude.{ℕ, ◌-◌, Bool, false, not, cond, ◌&&◌, ◌||◌, List, [], ◌∷◌, eqb, leb, ltb}
use Rattle.secret.specs.declared.Secret.{Secret}
use Rattle.stages.specs.Stages.{all_dropped}
use Rattle.ledger.specs.declared.Step.{Step}
use Rattle.ledger.specs.Journal.{START, OPEN, SWITCH, DROP, is, is_member_step}
use Rattle.ledger.specs.Rules.{View, no_secret}

-- whether there was a START
abbrev pub started_by : List Step → Bool
started_by [] = false
started_by (s ∷ h) = is START s || started_by h

-- the count that it gave
abbrev pub count_by : List Step → ℕ
count_by [] = 0
count_by (s ∷ h) = cond (is START s) s.member (count_by h)

-- a number is a member's if it is below the count
abbrev pub present_by : List Step → ℕ → Bool
present_by h m = ltb m (count_by h)

-- the stage to which a member's newest step since the last OPEN took it: LEARN to 1, SWITCH to 2, DROP to 3; without one, 0
abbrev pub reached_by : List Step → ℕ → ℕ
reached_by [] m = 0
reached_by (s ∷ h) m = cond (leb s.kind OPEN) 0 (cond (is_member_step s && eqb s.member m) (s.kind - OPEN) (reached_by h m))

-- whether a step, after the steps before it, is the DROP of the last member
abbrev pub closes : Step → List Step → Bool
closes s h = is DROP s && all_dropped (present_by h) (reached_by (s ∷ h))

-- whether a rollover is open: an OPEN, and neither a CANCEL nor the last member's DROP after it
abbrev pub open_by : List Step → Bool
open_by [] = false
open_by (s ∷ h) = is OPEN s || is_member_step s && open_by h && not (closes s h)

-- the secret of the last OPEN
abbrev pub opened_by : List Step → Secret
opened_by [] = no_secret
opened_by (s ∷ h) = cond (is OPEN s) s.secret (opened_by h)

-- the current secret: START's, or that of the last rollover that closed
abbrev pub current_by : List Step → Secret
current_by [] = no_secret
current_by (s ∷ h) = cond (is START s) s.secret (cond (closes s h) (opened_by h) (current_by h))

-- the time of the newest step
abbrev pub last_by : List Step → ℕ
last_by [] = 0
last_by (s ∷ h) = s.time

-- of the newest SWITCH
abbrev pub last_switch_by : List Step → ℕ
last_switch_by [] = 0
last_switch_by (s ∷ h) = cond (is SWITCH s) s.time (last_switch_by h)

-- the View that these make
unfoldable pub account : List Step → View
account h = record {
  started = started_by h;
  present = present_by h;
  current = current_by h;
  rolling = open_by h;
  new = cond (open_by h) (opened_by h) no_secret;
  stage = λ m. cond (open_by h) (reached_by h m) 0;
  last = last_by h;
  last_switch = last_switch_by h;
}
