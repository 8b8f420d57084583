-- Where a name ends, by one label at a time and with no count of turns. Assumes nothing.
use Prim.Native.Nat.{ℕ, zero, suc, ◌+◌, ◌*◌, ◌^◌, ◌≤◌, ◌<◌}
use mathlib.Core.Path.{◌≡◌, refl, sym, ap, subst, ◌∙◌}
use mathlib.Core.Bool.{Bool, true, false, cond, and-false}
use mathlib.Core.List.{List}
use mathlib.Core.Option.{Option, none, some, none-ne-some}
use native.Mathlib.Decide.{dec_lt, dec_le}
use native.Mathlib.Omega.{arith}
use borrow.Author.Tests.{le-leb, lt-leb, ne_eqb}
use lib.Dec.{eqb, leb}
use lib.ListN.{length, get_or, get_or-eq_default}
use mir.Syntax.{w64}
use mir.Val.{Fits}
use Rattle.octets.proofs.EachLaws.{IfOne}
use Rattle.message.specs.Name.{within, is_label, past_labels, labels_end, terminator, name_end}

-- ---- labels

no_label_zero : (s : List ℕ) (at : ℕ) → get_or s at 0 ≡ 0 → is_label s at ≡ false
no_label_zero s at zero-here = simp zero-here

no_label_past : (s : List ℕ) (at : ℕ) → length s ≤ at → is_label s at ≡ false
no_label_past s at past = no_label_zero s at (get_or-eq_default s 0 past)

no_label_long : (s : List ℕ) (at : ℕ) → 63 < get_or s at 0 → is_label s at ≡ false
no_label_long s at long = simp (lt-leb _ _ long, and-false)

-- turns beyond the end change nothing
enough : (f g : ℕ) (s : List ℕ) (at : ℕ) → length s ≤ at + f → length s ≤ at + g → past_labels f s at ≡ past_labels g s at
unfolding past_labels
enough zero zero s at hf hg = refl
enough zero (suc g) s at hf hg = simp (no_label_past s at (omega arith))
enough (suc f) zero s at hf hg = simp (no_label_past s at (omega arith))
enough (suc f) (suc g) s at hf hg =
    ap (λ (k : ℕ). cond (is_label s at) k at) (enough f g s (at + 1 + get_or s at 0) (omega arith) (omega arith))

once : (s : List ℕ) (at : ℕ) → labels_end s at ≡ cond (is_label s at) (labels_end s (at + 1 + get_or s at 0)) at
unfolding labels_end past_labels
once s at = enough (length s) (suc (length s)) s at (omega arith) (omega arith)

stop : (s : List ℕ) (at : ℕ) → is_label s at ≡ false → labels_end s at ≡ at
stop s at h = once s at ∙ ap (λ (b : Bool). cond b (labels_end s (at + 1 + get_or s at 0)) at) h

-- the labels from here are those from a place before, if they are so far
module _ (s : List ℕ) (at from : ℕ) (so_far : labels_end s at ≡ labels_end s from) where
  pub labels_past : length s ≤ at → at ≡ labels_end s from
  labels_past past = sym (stop s at (no_label_past s at past)) ∙ so_far

  pub labels_zero : get_or s at 0 ≡ 0 → at ≡ labels_end s from
  labels_zero zero-here = sym (stop s at (no_label_zero s at zero-here)) ∙ so_far

  pub labels_long : 63 < get_or s at 0 → at ≡ labels_end s from
  labels_long long = sym (stop s at (no_label_long s at long)) ∙ so_far

  pub labels_go : (get_or s at 0 ≡ 0 → ⊥) → get_or s at 0 ≤ 63 → labels_end s (at + 1 + get_or s at 0) ≡ labels_end s from
  labels_go not_zero short =
      let is-label : is_label s at ≡ true = simp (le-leb 1 (get_or s at 0) (omega (arith, not_zero)), le-leb _ _ short) in
      sym (once s at ∙ ap (λ (b : Bool). cond b (labels_end s (at + 1 + get_or s at 0)) at) is-label) ∙ so_far

-- ---- what ends a name

module _ (s : List ℕ) (t : ℕ) where
  pub ends_past : length s ≤ t → none ≡ terminator s t
  unfolding terminator
  ends_past past = simp (get_or-eq_default s 0 past, lt-leb (t + 1) (length s) (omega arith))

  pub ends_zero : t < length s → get_or s t 0 ≡ 0 → some (t + 1) ≡ terminator s t
  unfolding terminator
  ends_zero inside z = simp (z, le-leb (t + 1) (length s) (omega arith))

  pub ends_pointer : (get_or s t 0 ≡ 0 → ⊥) → 192 ≤ get_or s t 0 → t + 2 ≤ length s → some (t + 2) ≡ terminator s t
  unfolding terminator
  ends_pointer n b inside = simp (ne_eqb _ _ n, le-leb _ _ b, le-leb _ _ inside)

pub name_is : (s : List ℕ) (at t : ℕ) (end : Option ℕ) → t ≡ labels_end s at → end ≡ terminator s t → end ≡ name_end s at
unfolding name_end
name_is s at t end labels e = e ∙ ap (terminator s) labels

-- ---- the name from here

pub name_past : (s : List ℕ) (at : ℕ) → length s ≤ at → none ≡ name_end s at
name_past s at past = name_is s at at none (labels_past s at at refl past) (ends_past s at past)

pub name_zero : (s : List ℕ) (at : ℕ) → at < length s → get_or s at 0 ≡ 0 → some (at + 1) ≡ name_end s at
name_zero s at inside z = name_is s at at (some (at + 1)) (labels_zero s at at refl z) (ends_zero s at inside z)

-- is that from a place before, if it is so far
module _ (s : List ℕ) (at from : ℕ) (so_far : name_end s at ≡ name_end s from) where
  pub rest_past : length s ≤ at → none ≡ name_end s from
  rest_past past = name_past s at past ∙ so_far

  pub rest_zero : at < length s → get_or s at 0 ≡ 0 → some (at + 1) ≡ name_end s from
  rest_zero inside z = name_zero s at inside z ∙ so_far

  pub rest_long : 63 < get_or s at 0 → (end : Option ℕ) → end ≡ terminator s at → end ≡ name_end s from
  rest_long long end e = name_is s at at end (labels_long s at at refl long) e ∙ so_far

  pub rest_go : (get_or s at 0 ≡ 0 → ⊥) → get_or s at 0 ≤ 63 → name_end s (at + 1 + get_or s at 0) ≡ name_end s from
  unfolding name_end
  rest_go not_zero short = ap (terminator s) (labels_go s at at refl not_zero short) ∙ so_far

-- ---- a name lies within the message

abbrev EndInside : List ℕ → Option ℕ → Type 0
EndInside s = IfOne (λ (e : ℕ). e ≤ length s)

end_inside : (s : List ℕ) (t : ℕ) → EndInside s (within s t)
end_inside s t =
    elim (dec_le t (length s)) [
      | yes l ↦ rw (le-leb _ _ l) l
      | no m ↦ rw (lt-leb t (length s) (omega arith)) tt
    ]

terminator_inside : (s : List ℕ) (t : ℕ) → EndInside s (terminator s t)
unfolding terminator
terminator_inside s t = pick (eqb (get_or s t 0) 0) (leb 192 (get_or s t 0))
  where
    pick : (z p : Bool) → EndInside s (cond z (within s (t + 1)) (cond p (within s (t + 2)) none))
    pick true p = end_inside s (t + 1)
    pick false true = end_inside s (t + 2)
    pick false false = tt

module _ (s : List ℕ) (at e : ℕ) (named : some e ≡ name_end s at) where
  pub name_inside : at < length s
  name_inside =
      elim (dec_lt at (length s)) [
        | yes l ↦ l
        | no m ↦ let past : none ≡ some e = name_past s at (omega arith) ∙ sym named in absurd (none-ne-some e past)
      ]

  pub name_within : e ≤ length s
  unfolding name_end
  name_within = subst (EndInside s) (sym named) (terminator_inside s (labels_end s at))

  -- so that a place some bytes behind it does not wrap: a slice has less than 2 ^ 63
  pub name_fits : length s * 1 < 2 ^ 63 → (more : ℕ) → more < 2 ^ 63 → Fits w64 (e + more)
  name_fits bounded more small = record { fits = omega (arith, name_within) }
