-- What holds of each part that was found, over any kind of part: of a list of parts that are read one after the other. Assumes nothing.
use Prim.Native.Nat.{ℕ, ◌≤◌}
use mathlib.Core.List.{List, [], ◌∷◌}
use mathlib.Core.Option.{Option, none, some, bind, get_or}

-- from one place to another, within so many bytes
pub record Inside (n start end : ℕ) : Type 0 where
  pub ordered : start ≤ end
  pub within : end ≤ n

module _ {A : Type 0} (P : A → Type 0) where
  abbrev pub Each : List A → Type 0
  Each [] = Unit {0}
  Each (x ∷ xs) = P x × Each xs

  -- if there is one
  abbrev pub IfOne : Option A → Type 0
  IfOne none = Unit {0}
  IfOne (some x) = P x

  -- if there is a list
  abbrev pub IfList : Option (List A) → Type 0
  IfList none = Unit {0}
  IfList (some xs) = Each xs

  each_push : (x : A) (rest : Option (List A)) → P x → IfList rest → IfList (bind rest (λ xs. some (x ∷ xs)))
  unfolding bind
  each_push x none one rest = tt
  each_push x (some xs) one rest = (one, rest)

  -- one and those behind it
  pub each_bind : (o : Option A) (rest : A → Option (List A)) → IfOne o → ((x : A) → IfList (rest x)) → IfList (bind o (λ x. bind (rest x) (λ xs. some (x ∷ xs))))
  unfolding bind
  each_bind none rest one is = tt
  each_bind (some x) rest one is = each_push x (rest x) one (is x)

  pub each_listed : (o : Option (List A)) → IfList o → Each (get_or o [])
  each_listed none is = tt
  each_listed (some xs) is = is
