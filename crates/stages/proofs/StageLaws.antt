-- Members and their stages, as sets keep them: who is at stage 0, and what a step changes. Assumes nothing.
use Prim.Native.Nat.{ℕ, ◌≤◌, ◌<◌}
use mathlib.Core.Path.{◌≡◌, refl}
use mathlib.Core.Bool.{Bool, true, false, cond, ◌||◌, or-false}
use native.Mathlib.Omega.{arith}
use borrow.Author.Tests.{eqb-true}
use lib.Dec.{eqb, ltb}
use Rattle.stages.proofs.SetLaws.{in_none, in_with, in_below}
use Rattle.stages.specs.Sets.{member_limit, is_in}
use Rattle.stages.specs.Stages.{is_present, stage_of, no_stages, first_stages, reset_stages, learnt_by, switched_by, dropped_by}
use Rattle.stages.specs.declared.Stages.{Stages}

-- the stage that the furthest of the steps tells
abbrev pub told : Bool → Bool → Bool → ℕ
told l s d = cond d 3 (cond s 2 (cond l 1 0))

pub stage_3 : (s : Stages) (m : ℕ) → stage_of s m ≤ 3
stage_3 s m = most (is_in s.learnt m) (is_in s.switched m) (is_in s.dropped m)
  where
    most : (l s d : Bool) → told l s d ≤ 3
    most l s true = omega arith
    most l true false = omega arith
    most true false false = omega arith
    most false false false = omega arith

-- ---- members that took no step

none_told : (k : ℕ) → told (is_in 0 k) (is_in 0 k) (is_in 0 k) ≡ 0
none_told k = rw (in_none k)

pub none_stage : (k : ℕ) → stage_of no_stages k ≡ 0
none_stage k = none_told k

pub first_stage : (n k : ℕ) → stage_of (first_stages n) k ≡ 0
first_stage n k = none_told k

pub reset_stage : (s : Stages) (k : ℕ) → stage_of (reset_stages s) k ≡ 0
reset_stage s k = none_told k

pub none_present : (k : ℕ) → is_present no_stages k ≡ false
none_present = in_none

pub first_present : (n k : ℕ) → n ≤ member_limit → is_present (first_stages n) k ≡ ltb k n
first_present = in_below

-- ---- a step: the member whose next one it is takes it, and no other moves

learn_told : (l s d t : Bool) → (t ≡ true → told l s d ≡ 0) → told (l || t) s d ≡ cond t 1 (told l s d)
learn_told l s d false at = rw (or-false l)
learn_told l s true true at = omega (arith, at refl)
learn_told l true false true at = omega (arith, at refl)
learn_told true false false true at = refl
learn_told false false false true at = refl

switch_told : (l s d t : Bool) → (t ≡ true → told l s d ≡ 1) → told l (s || t) d ≡ cond t 2 (told l s d)
switch_told l s d false at = rw (or-false s)
switch_told l s true true at = omega (arith, at refl)
switch_told l true false true at = refl
switch_told l false false true at = refl

drop_told : (l s d t : Bool) → told l s (d || t) ≡ cond t 3 (told l s d)
drop_told l s d false = rw (or-false d)
drop_told l s true true = refl
drop_told l s false true = refl

module _ (s : Stages) (m k : ℕ) (below : m < member_limit) where
  there : (n : ℕ) → stage_of s m ≡ n → eqb m k ≡ true → stage_of s k ≡ n
  there n is same = rw (eqb-true m k same) at is

  pub learnt_stage : stage_of s m ≡ 0 → stage_of (learnt_by s m) k ≡ cond (eqb m k) 1 (stage_of s k)
  learnt_stage at =
      rw (in_with s.learnt m k below)
      (learn_told (is_in s.learnt k) (is_in s.switched k) (is_in s.dropped k) (eqb m k) (there 0 at))

  pub switched_stage : stage_of s m ≡ 1 → stage_of (switched_by s m) k ≡ cond (eqb m k) 2 (stage_of s k)
  switched_stage at =
      rw (in_with s.switched m k below)
      (switch_told (is_in s.learnt k) (is_in s.switched k) (is_in s.dropped k) (eqb m k) (there 1 at))

  -- it holds at any stage, and is asked at this one as its like are
  pub dropped_stage : stage_of s m ≡ 2 → stage_of (dropped_by s m) k ≡ cond (eqb m k) 3 (stage_of s k)
  dropped_stage at =
      rw (in_with s.dropped m k below)
      (drop_told (is_in s.learnt k) (is_in s.switched k) (is_in s.dropped k) (eqb m k))
