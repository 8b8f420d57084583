-- What proofs about replies cite, here and in the crates above. Assumes nothing.
use Rattle.std.proofs.Common.{◌≡◌, ℕ, ◌<◌, Bool, true, false, ◌&&◌, List, [], ◌∷◌, length, take, drop, refl, ◌∙◌, true≢false, arith, length-drop, length-take}
use Rattle.octets.specs.Runs.{same_run}
use Rattle.octets.proofs.RunLaws.{same_lengths}
use Rattle.verdict.specs.ReplyTable.{is_disabled, reserved_zero}
use Rattle.verdict.specs.declared.Mode.{Mode}
use Rattle.verdict.specs.declared.Mode.TheVariants.{Disabled, Enabled, Enforced}

-- outside mode Disabled cookies are judged
pub mode_on : (mode : Mode) → (mode ≡ Disabled → ⊥) → is_disabled mode ≡ false
mode_on Disabled on = absurd (on refl)
mode_on Enabled on = refl
mode_on Enforced on = refl

-- what holds in Enabled and in Enforced holds wherever they are
pub when_on : (P : Mode → Type 0) → P Enabled → P Enforced → (mode : Mode) → is_disabled mode ≡ false → P mode
when_on P enabled enforced Disabled on = absurd (true≢false on)
when_on P enabled enforced Enabled on = enabled
when_on P enabled enforced Enforced on = enforced

pub and_false : (x : Bool) → (x && false) ≡ false
and_false true = refl
and_false false = refl

-- the reserved bytes, where the body is long enough to have them and where it isn't
module _ (body : List ℕ) where
  pub reserved_there : (part : List ℕ) (t : Bool) → part ≡ take 3 (drop 9 body) → t ≡ same_run part (0 ∷ 0 ∷ 0 ∷ []) → t ≡ reserved_zero body
  unfolding reserved_zero
  reserved_there part t is e = e ∙ rw is refl

  pub reserved_short : length body < 12 → false ≡ reserved_zero body
  unfolding reserved_zero
  reserved_short short = same_lengths (take 3 (drop 9 body)) (0 ∷ 0 ∷ 0 ∷ []) (λ e. omega (arith, length-take 3 (drop 9 body), length-drop 9 body, e))
