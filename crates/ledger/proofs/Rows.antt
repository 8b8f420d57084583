-- Of a step that nothing refuses no row applies; a row is looked up by its number, so that a row that is inserted changes nothing here or above. Assumes nothing.
use Prim.Native.Nat.{ℕ}
use mathlib.Core.Path.{◌≡◌, refl}
use mathlib.Core.Bool.{false}
use Rattle.octets.specs.Refusals.{NoneApplies}
use Rattle.octets.proofs.RefusalLaws.{zero_none, look, clear, all_numbered}
use Rattle.ledger.specs.declared.Step.{Step}
use Rattle.ledger.specs.Rules.{View, refusals, refusal}

module _ (w : ℕ) (v : View) (s : Step) where
  -- of a step that nothing refuses, no row applies
  pub none_applies : refusal w v s ≡ 0 → NoneApplies (refusals w v s)
  unfolding refusal
  none_applies e = zero_none (refusals w v s) (all_numbered (refusals w v s) refl) e

  -- so the row of a number does not
  pub row : refusal w v s ≡ 0 → (n : ℕ) → look n (refusals w v s) ≡ false
  row e n = clear n (none_applies e)
