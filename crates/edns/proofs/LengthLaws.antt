-- Which lengths a COOKIE body may have. Assumes nothing.
use Prim.Native.Nat.{ℕ, ◌≤◌, ◌<◌}
use mathlib.Core.Path.{◌≡◌}
use mathlib.Core.Bool.{true, false}
use native.Mathlib.Omega.{arith}
use borrow.Author.Tests.{le-leb, lt-leb, ne_eqb}
use Rattle.edns.specs.Options.{is_cookie_length}

module _ (n : ℕ) where
  pub is_8 : n ≡ 8 → true ≡ is_cookie_length n
  unfolding is_cookie_length
  is_8 e = rw e

  module _ (not_8 : n ≡ 8 → ⊥) where
    pub is_between : 16 ≤ n → n < 41 → true ≡ is_cookie_length n
    unfolding is_cookie_length
    is_between low high = rw (ne_eqb n 8 not_8, le-leb 16 n low, le-leb n 40 (omega arith))

    pub is_short : n < 16 → false ≡ is_cookie_length n
    unfolding is_cookie_length
    is_short low = rw (ne_eqb n 8 not_8, lt-leb 16 n low)

    pub is_long : 41 ≤ n → false ≡ is_cookie_length n
    unfolding is_cookie_length
    is_long high = rw (ne_eqb n 8 not_8, le-leb 16 n (omega arith), lt-leb n 40 (omega arith))
