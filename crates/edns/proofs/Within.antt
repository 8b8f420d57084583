-- What a list of options says lies within the data. Assumes nothing.
use Prim.Native.Nat.{ℕ, zero, suc, ◌+◌}
use mathlib.Core.Path.{◌≡◌, sym, subst}
use mathlib.Core.Bool.{Bool, true, false, cond}
use mathlib.Core.List.{List, [], ◌∷◌}
use mathlib.Core.Option.{Option, none, some, bind}
use native.Mathlib.Decide.{dec_le}
use native.Mathlib.Omega.{arith}
use borrow.Author.Tests.{le-leb, lt-leb}
use lib.Dec.{leb}
use lib.ListN.{length}
use Rattle.octets.specs.Numbers.{be16_at}
use Rattle.octets.specs.Refusals.{◌when◌, first, answered}
use Rattle.octets.proofs.EachLaws.{Inside, Each, IfOne, IfList, each_bind, each_listed}
use Rattle.edns.specs.Options.{option_at, options_in, options_from, options, options_of, option_past, is_cookie, first_cookie, Listed, refused, no_cookie, cookie, place, cookie_in}
use Rattle.edns.specs.declared.EdnsOption.{EdnsOption}

-- an option's body lies in so many bytes
abbrev pub BodyInside : ℕ → EdnsOption → Type 0
BodyInside n o = Inside n o.start o.end

option_inside : (d : List ℕ) (at : ℕ) → IfOne (BodyInside (length d)) (option_at d at)
unfolding option_at
option_inside d at =
    elim (dec_le (at + 4 + be16_at d (at + 2)) (length d)) [
      | yes l ↦ rw (le-leb _ _ l) (record { ordered = omega arith; within = l })
      | no n ↦ rw (lt-leb (at + 4 + be16_at d (at + 2)) (length d) (omega arith)) tt
    ]

options_inside : (turns : ℕ) (d : List ℕ) (at : ℕ) → IfList (BodyInside (length d)) (options_in turns d at)
unfolding options_in
options_inside zero d at = tt
options_inside (suc turns) d at =
    pick (leb (length d) at) (bind (option_at d at) (λ o. bind (options_in turns d o.end) (λ rest. some (o ∷ rest))))
    (each_bind (BodyInside (length d)) (option_at d at) (λ o. options_in turns d o.end) (option_inside d at) (λ o. options_inside turns d o.end))
  where
    pick : (b : Bool) (x : Option (List EdnsOption)) → IfList (BodyInside (length d)) x → IfList (BodyInside (length d)) (cond b (some []) x)
    pick true x is = tt
    pick false x is = is

first_inside : (n : ℕ) (os : List EdnsOption) → Each (BodyInside n) os → IfOne (BodyInside n) (first_cookie os)
unfolding first_cookie
first_inside n [] is = tt
first_inside n (o ∷ os) is = pick (is_cookie o) is.0 (first_inside n os is.1)
  where
    pick : (b : Bool) → BodyInside n o → IfOne (BodyInside n) (first_cookie os) → IfOne (BodyInside n) (cond b (some o) (first_cookie os))
    pick true i js = i
    pick false i js = js

-- the first COOKIE option of any data
pub cookie_within : (d : List ℕ) → IfOne (BodyInside (length d)) (first_cookie (options_of d))
unfolding options_from
cookie_within d = first_inside (length d) (options_of d) (each_listed (BodyInside (length d)) (options d) (options_inside (length d) d 0))

abbrev PlaceInside : ℕ → Listed → Type 0
PlaceInside n (refused k) = Unit {0}
PlaceInside n no_cookie = Unit {0}
PlaceInside n (cookie start end) = Inside n start end

place_inside : (d : List ℕ) → PlaceInside (length d) (cookie_in d)
unfolding cookie_in
place_inside d = pick (first (9 when option_past d ∷ [])) (first_cookie (options_of d)) (cookie_within d)
  where
    pick : (k : ℕ) (c : Option EdnsOption) → IfOne (BodyInside (length d)) c → PlaceInside (length d) (answered refused k (place c))
    pick zero none i = tt
    pick zero (some o) i = i
    pick (suc k) c i = tt

-- the COOKIE body that a walk found
pub cookie_inside : (d : List ℕ) (start end : ℕ) → cookie start end ≡ cookie_in d → Inside (length d) start end
cookie_inside d start end walked = subst (PlaceInside (length d)) (sym walked) (place_inside d)
