-- What the functions' proofs cite, one law for each answer; `src` names them all as `cited`. Assumes nothing.
use Prim.Native.Nat.{ℕ, ◌-◌, ◌*◌, ◌/◌, ◌%◌, ◌^◌, ◌≤◌, ◌<◌}
use mathlib.Core.Path.{◌≡◌, refl, sym, ap, ◌∙◌}
use mathlib.Core.Bool.{Bool, true, false, not, ◌&&◌, ◌||◌, and-false, and_assoc, not-not}
use native.Mathlib.Nat.{lt_of_le_of_lt}
use native.Mathlib.Omega.{arith}
use borrow.Author.Tests.{lt-ltb, le-ltb, ne_eqb}
use lib.Bits.{bit_and, bit_or, or_lt, and_le_l, and_mask}
use lib.Count.{ones}
use lib.Dec.{eqb}
use lib.Pow.{shl_exact}
use Rattle.stages.proofs.BelowLaws.{any_same, count_same}
use Rattle.stages.proofs.SetLaws.{in_none, in_both, in_either, in_others, in_past, any_in, ones_in}
use Rattle.stages.proofs.StageLaws.{told, stage_3}
use Rattle.stages.specs.Sets.{member_limit, is_in, with_member, numbers_below, any_below, count_below, SetOf}
use Rattle.stages.specs.Stages.{all_dropped, is_present, stage_of}
use Rattle.stages.specs.declared.Stages.{Stages}

-- ---- `is_in`, `with`, `below`

pub read_in_lem : (w m : ℕ) → eqb (bit_and (w / 2 ^ m) 1) 1 ≡ is_in w m
unfolding is_in
read_in_lem w m = ap (λ (x : ℕ). eqb x 1) (and_mask (w / 2 ^ m) 1)

-- of a number that a member can have
module _ (m : ℕ) (below : m < member_limit) where
  shifted : (1 * 2 ^ m) % 4294967296 ≡ 2 ^ m
  shifted = shl_exact 1 m 32 (omega arith) (omega arith) ∙ omega arith

  pub put_in : (w : ℕ) → bit_or w ((1 * 2 ^ m) % 4294967296) ≡ with_member w m
  unfolding with_member
  put_in w = rw (shifted, lt-ltb m member_limit below)

  pub put_first : (1 * 2 ^ m) % 4294967296 - 1 ≡ numbers_below m
  unfolding numbers_below
  put_first = rw (shifted, lt-ltb m member_limit below)

-- and of one past all
module _ (m : ℕ) (past : member_limit ≤ m) where
  pub read_past : (w : ℕ) → w < 4294967296 → false ≡ is_in w m
  read_past w fits = sym (in_past member_limit w m fits past)

  pub put_past : (w : ℕ) → w ≡ with_member w m
  unfolding with_member
  put_past w = rw (le-ltb m member_limit past)

  pub put_all : 4294967295 ≡ numbers_below m
  unfolding numbers_below
  put_all = rw (le-ltb m member_limit past)

-- ---- `any_at`, `count_at`: a word is asked for the members that pass a test

module _ (w : ℕ) (test : ℕ → Bool) (set : SetOf w test) (fits : w < 4294967296) where
  pub set_any : not (eqb w 0) ≡ any_below member_limit test
  set_any = any_in member_limit w fits ∙ any_same member_limit (is_in w) test set

  pub set_count : ones w ≡ count_below member_limit test
  set_count = ones_in member_limit w fits ∙ count_same member_limit (is_in w) test set

-- ---- `at`, `all_dropped`

-- the sets that a member at each stage is in
abbrev Tells : Bool → Bool → Bool → Type 0
Tells l s d =
    (not (l || s || d) ≡ eqb (told l s d) 0) × ((l && not (s || d)) ≡ eqb (told l s d) 1) × ((s && not d) ≡ eqb (told l s d) 2) × (d ≡ eqb (told l s d) 3)

tells : (l s d : Bool) → Tells l s d
tells true true true = (refl, refl, refl, refl)
tells true true false = (refl, refl, refl, refl)
tells true false true = (refl, refl, refl, refl)
tells true false false = (refl, refl, refl, refl)
tells false true true = (refl, refl, refl, refl)
tells false true false = (refl, refl, refl, refl)
tells false false true = (refl, refl, refl, refl)
tells false false false = (refl, refl, refl, refl)

module _ (s : Stages) where
  now : (m : ℕ) → Tells (is_in s.learnt m) (is_in s.switched m) (is_in s.dropped m)
  now m = tells (is_in s.learnt m) (is_in s.switched m) (is_in s.dropped m)

  abbrev At : ℕ → ℕ → Type 0
  At k w = SetOf w (λ m. is_present s m && eqb (stage_of s m) k)

  pub set_3 : (k : ℕ) → k ≡ 3 → At k (bit_and s.members s.dropped)
  set_3 k e m h = rw (e, in_both) (ap (λ (t : Bool). is_present s m && t) (now m).3)

  pub set_past : (k : ℕ) → (k ≡ 0 → ⊥) → (k ≡ 1 → ⊥) → (k ≡ 2 → ⊥) → (k ≡ 3 → ⊥) → At k 0
  set_past k n0 n1 n2 n3 m h =
      rw (in_none m, ne_eqb (stage_of s m) k (λ e. omega (arith, stage_3 s m, e))) (sym (and-false (is_present s m)))

  module _ (fit-d : s.dropped < 4294967296) where
    pub set_2 : (k : ℕ) → k ≡ 2 → At k (bit_and (bit_and s.members s.switched) (4294967295 - s.dropped))
    set_2 k e m h = rw (e, in_both, in_both, in_others member_limit s.dropped m fit-d h, and_assoc, (now m).2)

    pub set_all : s.members < 4294967296 → eqb (bit_and s.members (4294967295 - s.dropped)) 0 ≡ all_dropped (is_present s) (stage_of s)
    set_all fit-m =
        let w = bit_and s.members (4294967295 - s.dropped) in
        let left : SetOf w (λ m. is_present s m && not (eqb (stage_of s m) 3)) =
        λ m h. rw (in_both, in_others member_limit s.dropped m fit-d h) (ap (λ (t : Bool). is_present s m && not t) (now m).3) in
        sym (not-not (eqb w 0)) ∙ ap not (set_any w _ left (lt_of_le_of_lt (and_le_l s.members _) fit-m))

    module _ (fit-s : s.switched < 4294967296) where
      pub set_1 : (k : ℕ) → k ≡ 1 → At k (bit_and (bit_and s.members s.learnt) (4294967295 - bit_or s.switched s.dropped))
      set_1 k e m h =
          let others = in_others member_limit (bit_or s.switched s.dropped) m (or_lt 32 _ _ fit-s fit-d) h in
          rw (e, in_both, in_both, others, in_either, and_assoc, (now m).1)

      pub set_0 : (k : ℕ) → k ≡ 0 → s.learnt < 4294967296 → At k (bit_and s.members (4294967295 - bit_or (bit_or s.learnt s.switched) s.dropped))
      set_0 k e fit-l m h =
          let others = in_others member_limit (bit_or (bit_or s.learnt s.switched) s.dropped) m (or_lt 32 _ _ (or_lt 32 _ _ fit-l fit-s) fit-d) h in
          rw (e, in_both, others, in_either, in_either, (now m).0)

-- ---- all of them

pub ruleset cited = (read_in_lem, read_past, put_in, put_past, put_first, put_all, set_any, set_count, set_all, set_0, set_1, set_2, set_3, set_past)
