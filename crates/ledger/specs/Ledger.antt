-- The ledger that is kept: what is seen of it, and what a step makes of it. Document 01, "The rollover ledger". Assumes nothing.
use Rattle.std.specs.Prelude.{ℕ, zero, suc, true, false, cond}
use Rattle.secret.specs.declared.Secret.{Secret}
use Rattle.stages.specs.Stages.{is_present, stage_of, all_dropped, no_stages, first_stages, reset_stages, learnt_by, switched_by, dropped_by}
use Rattle.stages.specs.declared.Stages.{Stages}
use Rattle.ledger.specs.declared.Step.{Step}
use Rattle.ledger.specs.Journal.{START, OPEN, LEARN, SWITCH, DROP, CANCEL, is}
use Rattle.ledger.specs.Rules.{View, no_secret, refusal}
use Rattle.ledger.specs.declared.Ledger.{Ledger}

-- what is seen of a ledger
abbrev pub view_of : Ledger → View
view_of l = record {
  started = l.started;
  present = is_present l.stages;
  current = l.current;
  rolling = l.rolling;
  new = l.new;
  stage = stage_of l.stages;
  last = l.last;
  last_switch = l.last_switch;
}

-- a fresh ledger is not started
unfoldable pub fresh_ledger : Ledger
fresh_ledger = record {
  started = false;
  rolling = false;
  current = no_secret;
  new = no_secret;
  stages = no_stages;
  last = 0;
  last_switch = 0;
}

-- ---- what an accepted step makes of a ledger

-- START: the members below the count, at stage 0, and the current secret
abbrev pub after_start : Ledger → Step → Ledger
after_start l s = record {
  started = true;
  rolling = false;
  current = s.secret;
  new = no_secret;
  stages = first_stages s.member;
  last = s.time;
  last_switch = l.last_switch;
}

-- OPEN: a rollover to the new secret
abbrev pub after_open : Ledger → Step → Ledger
after_open l s = record {
  started = l.started;
  rolling = true;
  current = l.current;
  new = s.secret;
  stages = reset_stages l.stages;
  last = s.time;
  last_switch = l.last_switch;
}

-- a member step: the stages afterwards, and the time of the last SWITCH
abbrev pub after_move : Ledger → Step → Stages → ℕ → Ledger
after_move l s stages at = record {
  started = l.started;
  rolling = l.rolling;
  current = l.current;
  new = l.new;
  stages = stages;
  last = s.time;
  last_switch = at;
}

-- nothing is open any more, all are at stage 0, this secret is current and the new one forgotten
abbrev pub after_close : Ledger → Step → Secret → Ledger
after_close l s current = record {
  started = l.started;
  rolling = false;
  current = current;
  new = no_secret;
  stages = reset_stages l.stages;
  last = s.time;
  last_switch = l.last_switch;
}

-- DROP: when the last member drops, the new secret becomes current
abbrev pub after_drop : Ledger → Step → Ledger
after_drop l s =
    let after = dropped_by l.stages s.member in
    cond (all_dropped (is_present after) (stage_of after)) (after_close l s l.new) (after_move l s after l.last_switch)

-- by the kind
unfoldable pub accept : Ledger → Step → Ledger
accept l s =
    cond (is START s) (after_start l s)
    (cond (is OPEN s) (after_open l s)
    (cond (is LEARN s) (after_move l s (learnt_by l.stages s.member) l.last_switch)
    (cond (is SWITCH s) (after_move l s (switched_by l.stages s.member) s.time)
    (cond (is DROP s) (after_drop l s)
    (cond (is CANCEL s) (after_close l s l.current)
    l)))))

-- ---- a step on a ledger

-- the answer, 0 or the refusal's number, and the ledger afterwards
pub record Outcome : Type 0 where
  pub answer : ℕ
  pub ledger : Ledger

infix 60 ◌leaving◌
-- an outcome as it is written
abbrev pub ◌leaving◌ : ℕ → Ledger → Outcome
n leaving l = record { answer = n; ledger = l }

-- a refusal leaves the ledger as it was
abbrev pub outcome : ℕ → Ledger → Step → Outcome
outcome zero l s = 0 leaving accept l s
outcome (suc n) l s = suc n leaving l

-- a step, by the refusal that the rules, with a wait, give for what is seen of the ledger
unfoldable pub stepped : ℕ → Ledger → Step → Outcome
stepped w l s = outcome (refusal w (view_of l) s) l s
