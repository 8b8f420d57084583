-- The ledger that is kept, with its sets of members, makes the move. Assumes nothing.
use Prim.Native.Nat.{ℕ}
use mathlib.Core.Path.{◌≡◌, refl, sym, ◌∙◌}
use mathlib.Core.Bool.{Bool, true, false}
use mathlib.Core.List.{[]}
use lib.Dec.{leb-suc-zero}
use Rattle.stages.specs.Stages.{is_present, stage_of, dropped_by, all_dropped}
use Rattle.ledger.specs.declared.Ledger.{Ledger}
use Rattle.ledger.specs.declared.Step.{Step}
use Rattle.ledger.specs.Account.{account}
use Rattle.ledger.specs.Claims.{step_of}
use Rattle.ledger.specs.Journal.{START, OPEN, LEARN, SWITCH, DROP, CANCEL}
use Rattle.ledger.specs.Rules.{refusal}
use Rattle.ledger.specs.Ledger.{view_of, fresh_ledger, accept}
use Rattle.stages.proofs.StageLaws.{learnt_stage, switched_stage, dropped_stage, reset_stage, first_stage, first_present, none_stage, none_present}
use Rattle.ledger.proofs.EachKind.{OfKind, EachKind, by_kind}
use Rattle.ledger.proofs.Facts.{Small, start_facts, learn_facts, switch_facts, drop_facts}
use Rattle.ledger.proofs.Move.{put, move, drops_all, view_path}

-- a fresh ledger, before the first step
pub sees_fresh : view_of fresh_ledger ≡ account []
unfolding fresh_ledger account
sees_fresh = view_path _ _ refl (λ k. none_present k ∙ sym (leb-suc-zero k)) refl refl refl none_stage refl refl

-- what an accepted step makes of a ledger
module _ (w : ℕ) (l : Ledger) (small : Small (is_present l.stages)) where
  abbrev Sees : Step → Type 0
  Sees s = view_of (accept l s) ≡ move (view_of l) s

  sees_start : OfKind w (view_of l) Sees START
  unfolding accept move
  sees_start m t b e = view_path _ _ refl (λ k. first_present m k (start_facts w (view_of l) m t b e).room) refl refl refl (first_stage m) refl refl

  sees_open : OfKind w (view_of l) Sees OPEN
  unfolding accept move
  sees_open m t b e = view_path _ _ refl (λ k. refl) refl refl refl (reset_stage l.stages) refl refl

  sees_learn : OfKind w (view_of l) Sees LEARN
  unfolding accept move
  sees_learn m t b e =
      let x = learn_facts w (view_of l) m t b e in
      view_path _ _ refl (λ k. refl) refl refl refl (λ k. learnt_stage l.stages m k (small m x.member) x.at) refl refl

  sees_switch : OfKind w (view_of l) Sees SWITCH
  unfolding accept move
  sees_switch m t b e =
      let x = switch_facts w (view_of l) m t b e in
      view_path _ _ refl (λ k. refl) refl refl refl (λ k. switched_stage l.stages m k (small m x.member) x.at) refl refl

  sees_drop : OfKind w (view_of l) Sees DROP
  unfolding accept move
  sees_drop m t b e = go (drops_all (view_of l) m) refl
    where
      stages : (k : ℕ) → stage_of (dropped_by l.stages m) k ≡ put (stage_of l.stages) m 3 k
      stages k = let x = drop_facts w (view_of l) m t b e in dropped_stage l.stages m k (small m x.member) x.at

      same_test : all_dropped (is_present l.stages) (stage_of (dropped_by l.stages m)) ≡ drops_all (view_of l) m
      same_test = λ i. all_dropped (is_present l.stages) (λ k. stages k i)

      go : (c : Bool) → drops_all (view_of l) m ≡ c → Sees (step_of DROP m t b)
      go true q = rw (same_test ∙ q, q) (view_path _ _ refl (λ k. refl) refl refl refl (reset_stage l.stages) refl refl)
      go false q = rw (same_test ∙ q, q) (view_path _ _ refl (λ k. refl) refl refl refl stages refl refl)

  sees_cancel : OfKind w (view_of l) Sees CANCEL
  unfolding accept move
  sees_cancel m t b e = view_path _ _ refl (λ k. refl) refl refl refl (reset_stage l.stages) refl refl

  each_sees : EachKind w (view_of l) Sees
  each_sees = record { starts = sees_start; opens = sees_open; learns = sees_learn; switches = sees_switch; drops = sees_drop; cancels = sees_cancel }

pub sees : (w : ℕ) (l : Ledger) → Small (is_present l.stages) → (s : Step) → refusal w (view_of l) s ≡ 0 → view_of (accept l s) ≡ move (view_of l) s
sees w l small = by_kind (each_sees w l small)
