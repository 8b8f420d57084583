-- What the proofs of reading a snapshot cite. Assumes nothing.
use mathlib.Core.Path.{◌≡◌, refl, sym, ◌∙◌}
use mathlib.Core.Bool.{Bool, true, false}
use mathlib.Core.List.{List}
use Prim.Native.Nat.{ℕ}
use borrow.Author.Tests.{eqb-true}
use lib.Dec.{eqb}
use lib.ListN.{length}
use Rattle.snapshot.specs.Snapshot.{is_snapshot}

-- ---- whether there is one

module _ (s : List ℕ) where
  pub has_size : (b : Bool) → b ≡ is_snapshot s → b ≡ true → length s ≡ 68
  unfolding is_snapshot
  has_size b is yes' = go (eqb (length s) 68) refl (sym is ∙ yes')
    where
      go : (e : Bool) → eqb (length s) 68 ≡ e → is_snapshot s ≡ true → length s ≡ 68
      go true e h = eqb-true (length s) 68 e
      go false e h = let z : ◌≡◌ {A = Bool} false true = rw e at h in cc
