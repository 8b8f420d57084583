-- Laws of an age's bounds that docs/PORT.md names: too old for a good cookie, and too old to be kept. No answer cites them today. Assumes nothing.
use Rattle.std.proofs.Common.{◌≡◌, ℕ, true, false, cond, not, ◌&&◌, ltb, leb, List, ℤ, pos, negsuc, refl, sym, ap, ◌∙◌, arith, w32, SFits, to_z, of_z, le-ltb, lt-ltb, le-leb}
use native.Mathlib.Decide.{dec_lt}
use borrow.Author.Tests.{lt-leb}
use lib.Signed.{le_z, lt_z}
use mir.ValLaws.{to_z-of_z}
use Rattle.verdict.proofs.ReplyLaws.{and_false}
use Rattle.verdict.specs.Findings.{is_timely, by_time}
use Rattle.verdict.specs.Findings.Finding.{bad}
use Rattle.verdict.specs.ReplyTable.{reserved_zero, is_young, kept_or_fresh}
use Rattle.verdict.specs.declared.Carried.TheVariants.{Fresh, Kept}
use Rattle.verdict.specs.declared.Which.{Which}
use Rattle.verdict.specs.declared.Which.TheVariants.{Generating}

leb_not : (m n : ℕ) → leb m n ≡ not (ltb n m)
leb_not m n =
    elim (dec_lt n m) [ yes h ↦ rw (lt-leb m n h, lt-ltb n m h) | no h ↦ rw (le-leb m n (omega arith), le-ltb n m (omega arith)) ]

-- what is not below is at least
le_not : (a b : ℤ) → le_z a b ≡ not (lt_z b a)
le_not (pos m) (pos n) = leb_not m n
le_not (pos m) (negsuc n) = refl
le_not (negsuc m) (pos n) = refl
le_not (negsuc m) (negsuc n) = leb_not n m

-- an age that is read from a local's bits
module _ (a : ℤ) (ok : SFits w32 a) where
  read : to_z w32 (of_z w32 a) ≡ a
  read = to_z-of_z w32 a ok

module _ (a : ℤ) (w : Which) where
  old : lt_z a (negsuc 299) ≡ false → lt_z (pos 3600) a ≡ true → bad 3 ≡ by_time a w
  unfolding by_time is_timely
  old not_below above = rw (le_not (negsuc 299) a, le_not a (pos 3600), not_below, above)

module _ (a : ℤ) (w : Which) (ok : SFits w32 a) where
  pub too_old : lt_z (to_z w32 (of_z w32 a)) (negsuc 299) ≡ false → lt_z (pos 3600) (to_z w32 (of_z w32 a)) ≡ true → bad 3 ≡ by_time a w
  too_old not_below above = old a w (rw (read a ok) at not_below) (rw (read a ok) at above)

module _ (a : ℤ) (which : Which) (body : List ℕ) (is : which ≡ Generating) (ok : SFits w32 a) where
  whole : kept_or_fresh a which body ≡ cond (reserved_zero body && is_young a) Kept Fresh
  whole = ap (λ (w : Which). kept_or_fresh a w body) is

  pub fresh_old : lt_z (pos 1800) (to_z w32 (of_z w32 a)) ≡ true → Fresh ≡ kept_or_fresh a which body
  unfolding is_young
  fresh_old above = sym (whole ∙ rw (past, and_false (reserved_zero body)))
    where
      past : is_young a ≡ false
      past = rw (le_not a (pos 1800), (rw (read a ok) at above), and_false (le_z (pos 0) a))
