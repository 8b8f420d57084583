-- A step of each kind. At a kind that is written every test of the rules computes. Assumes nothing.
use Prim.Native.Nat.{ℕ, zero, suc, ◌≤◌}
use mathlib.Core.Path.{◌≡◌}
use mathlib.Core.Bool.{true, false≢true}
use native.Mathlib.Omega.{arith}
use borrow.Author.Tests.{ltb-false}
use Rattle.secret.specs.declared.Secret.{Secret}
use Rattle.ledger.specs.declared.Step.{Step}
use Rattle.ledger.specs.Claims.{step_of}
use Rattle.ledger.specs.Journal.{START, OPEN, LEARN, SWITCH, DROP, CANCEL, is_member_step}
use Rattle.ledger.specs.Rules.{View, refusal}
use Rattle.ledger.proofs.Rows.{row}

module _ (w : ℕ) (v : View) (P : Step → Type 0) where
  -- something holds of every step of a kind that nothing refuses
  abbrev pub OfKind : ℕ → Type 0
  OfKind kind = (m t : ℕ) (b : Secret) → refusal w v (step_of kind m t b) ≡ 0 → P (step_of kind m t b)

  -- of each kind
  pub record EachKind : Type 0 where
    pub starts : OfKind START
    pub opens : OfKind OPEN
    pub learns : OfKind LEARN
    pub switches : OfKind SWITCH
    pub drops : OfKind DROP
    pub cancels : OfKind CANCEL

kind_of : {w : ℕ} {v : View} {P : Step → Type 0} → EachKind w v P → (kind : ℕ) → kind ≤ CANCEL → OfKind w v P kind
kind_of each zero low = each.starts
kind_of each (suc zero) low = each.opens
kind_of each (suc (suc zero)) low = each.learns
kind_of each (suc (suc (suc zero))) low = each.switches
kind_of each (suc (suc (suc (suc zero)))) low = each.drops
kind_of each (suc (suc (suc (suc (suc zero))))) low = each.cancels
kind_of each (suc (suc (suc (suc (suc (suc kind)))))) low = absurd (omega arith)

-- then it holds of every step that nothing refuses: each is of one of these kinds
pub by_kind : {w : ℕ} {v : View} {P : Step → Type 0} → EachKind w v P → (s : Step) → refusal w v s ≡ 0 → P s
by_kind {w} {v} each s e = kind_of each s.kind (ltb-false CANCEL s.kind (row w v s e 1)) s.member s.time s.secret e

-- what is said of member steps alone
pub of_members : {w : ℕ} {v : View} {P : Step → Type 0} → OfKind w v P LEARN → OfKind w v P SWITCH → OfKind w v P DROP
    → EachKind w v (λ s. is_member_step s ≡ true → P s)
of_members learns switches drops = record {
  starts = λ m t b e is. absurd (false≢true is);
  opens = λ m t b e is. absurd (false≢true is);
  learns = λ m t b e is. learns m t b e;
  switches = λ m t b e is. switches m t b e;
  drops = λ m t b e is. drops m t b e;
  cancels = λ m t b e is. absurd (false≢true is);
}
