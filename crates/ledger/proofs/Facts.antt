-- What a step that nothing refuses tells, by its kind: the rows of document 01's table, turned round. Assumes nothing.
use Prim.Native.Nat.{ℕ, ◌+◌, ◌≤◌, ◌<◌}
use mathlib.Core.Path.{◌≡◌, sym, ◌∙◌}
use mathlib.Core.Bool.{Bool, true, false, not, ◌&&◌, ◌||◌, true≢false}
use native.Mathlib.Omega.{arith}
use lib.Dec.{eqb, ltb}
use borrow.Author.Tests.{ltb-false, eqb-true, eqb-false, not-false}
use Rattle.secret.specs.declared.Secret.{Secret}
use Rattle.stages.specs.Sets.{member_limit}
use Rattle.ledger.specs.declared.Step.{Step}
use Rattle.ledger.specs.Claims.{step_of}
use Rattle.ledger.specs.Journal.{START, OPEN, LEARN, SWITCH, DROP, CANCEL}
use Rattle.ledger.specs.Rules.{View, refusal, any_at}
use Rattle.stages.proofs.BelowLaws.{any_none}
use Rattle.octets.proofs.RefusalLaws.{or_l, or_r}
use Rattle.ledger.proofs.Rows.{row}

-- row 3, of every kind
pub in_time : (w : ℕ) (v : View) (s : Step) → refusal w v s ≡ 0 → v.last ≤ s.time
in_time w v s e = ltb-false s.time v.last (row w v s e 3)

-- START, with a count
pub record Starts (v : View) (count : ℕ) : Type 0 where
  pub unstarted : v.started ≡ false
  pub some_member : 0 < count
  pub room : count ≤ member_limit

-- OPEN
pub record Opens (v : View) : Type 0 where
  pub begun : v.started ≡ true
  pub shut : v.rolling ≡ false

-- LEARN, SWITCH, DROP: in an open rollover, of a member that is at a stage
pub record Steps (v : View) (m stage : ℕ) : Type 0 where
  pub begun : v.started ≡ true
  pub rolling : v.rolling ≡ true
  pub member : v.present m ≡ true
  pub at : v.stage m ≡ stage

-- so the rollover is not shut
pub not_shut : {v : View} {m stage : ℕ} → Steps v m stage → v.rolling ≡ false → ⊥
not_shut x shut = true≢false (sym x.rolling ∙ shut)

module _ (w : ℕ) (v : View) (m t : ℕ) (b : Secret) where
  pub start_facts : refusal w v (step_of START m t b) ≡ 0 → Starts v m
  start_facts e =
      let r = row w v (step_of START m t b) e in
      let count : eqb m 0 || ltb member_limit m ≡ false = or_l (eqb m 0 || ltb member_limit m) false (r 7) in
      let some : ¬ (m ≡ 0) = eqb-false m 0 (or_l (eqb m 0) (ltb member_limit m) count) in
      record { unstarted = or_l v.started false (r 4); some_member = omega arith; room = ltb-false member_limit m (or_r (eqb m 0) (ltb member_limit m) count) }

  pub open_facts : refusal w v (step_of OPEN m t b) ≡ 0 → Opens v
  open_facts e =
      let r = row w v (step_of OPEN m t b) e in
      record { begun = not-false v.started (or_l (not v.started) false (r 5)); shut = r 4 }

  -- rows 5, 7 and 8 of a member step
  steps : (n : ℕ) → not v.started || not v.rolling ≡ false → not (v.present m) ≡ false → not (eqb (v.stage m) n) ≡ false → Steps v m n
  steps n five seven eight = record {
    begun = not-false v.started (or_l (not v.started) (not v.rolling) five);
    rolling = not-false v.rolling (or_r (not v.started) (not v.rolling) five);
    member = not-false (v.present m) seven;
    at = eqb-true (v.stage m) n (not-false (eqb (v.stage m) n) eight);
  }

  pub learn_facts : refusal w v (step_of LEARN m t b) ≡ 0 → Steps v m 0
  learn_facts e = let r = row w v (step_of LEARN m t b) e in steps 0 (r 5) (r 7) (r 8)

  pub switch_facts : refusal w v (step_of SWITCH m t b) ≡ 0 → Steps v m 1
  switch_facts e = let r = row w v (step_of SWITCH m t b) e in steps 1 (r 5) (r 7) (r 8)

  pub drop_facts : refusal w v (step_of DROP m t b) ≡ 0 → Steps v m 2
  drop_facts e = let r = row w v (step_of DROP m t b) e in steps 2 (r 5) (r 7) (r 8)

  -- row 10
  pub drop_waited : refusal w v (step_of DROP m t b) ≡ 0 → v.last_switch + w ≤ t
  drop_waited e = ltb-false t (v.last_switch + w) (row w v (step_of DROP m t b) e 10)

-- ---- row 9, of SWITCH, DROP and CANCEL: it looks at the numbers that can be a member's

abbrev pub Small : (ℕ → Bool) → Type 0
Small present = (k : ℕ) → present k ≡ true → k < member_limit

none_at : (v : View) → Small v.present → (n : ℕ) → any_at v n ≡ false → (k : ℕ) → v.present k ≡ true → ¬ (v.stage k ≡ n)
none_at v small n e k here = eqb-false (v.stage k) n (rw here at (any_none member_limit (λ j. v.present j && eqb (v.stage j) n) e k (small k here)))

module _ (w : ℕ) (v : View) (small : Small v.present) (m t : ℕ) (b : Secret) where
  pub all_learnt : refusal w v (step_of SWITCH m t b) ≡ 0 → (k : ℕ) → v.present k ≡ true → 1 ≤ v.stage k
  all_learnt e k here =
      let nine = or_l (any_at v 0) false (or_l (any_at v 0 || false) false (row w v (step_of SWITCH m t b) e 9)) in
      omega (arith, none_at v small 0 nine k here)

  pub all_switched : refusal w v (step_of DROP m t b) ≡ 0 → (k : ℕ) → v.present k ≡ true → 2 ≤ v.stage k
  all_switched e k here =
      let nine = or_l (any_at v 0 || any_at v 1) false (row w v (step_of DROP m t b) e 9) in
      omega (arith, none_at v small 0 (or_l (any_at v 0) (any_at v 1) nine) k here, none_at v small 1 (or_r (any_at v 0) (any_at v 1) nine) k here)

  -- nobody is at 2 or 3
  pub none_switched : refusal w v (step_of CANCEL m t b) ≡ 0 → (k : ℕ) → v.present k ≡ true → v.stage k ≤ 3 → v.stage k ≤ 1
  none_switched e k here low =
      let nine = row w v (step_of CANCEL m t b) e 9 in
      omega (arith, none_at v small 2 (or_l (any_at v 2) (any_at v 3) nine) k here, none_at v small 3 (or_r (any_at v 2) (any_at v 3) nine) k here)
