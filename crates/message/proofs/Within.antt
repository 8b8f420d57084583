-- What a message's records say lies within the message. Assumes nothing.
use Prim.Native.Nat.{ℕ, zero, suc, ◌+◌}
use mathlib.Core.Path.{◌≡◌, sym, subst}
use mathlib.Core.Bool.{Bool, true, false, cond}
use mathlib.Core.List.{List, [], ◌∷◌}
use mathlib.Core.Option.{Option, none, some, bind}
use native.Mathlib.Decide.{dec_le}
use native.Mathlib.Omega.{arith}
use borrow.Author.Tests.{le-leb, lt-leb}
use lib.Dec.{eqb}
use lib.ListN.{length}
use Rattle.octets.specs.Numbers.{be16_at}
use Rattle.octets.specs.Refusals.{◌when◌, first, answered}
use Rattle.octets.proofs.EachLaws.{Inside, Each, IfOne, IfList, each_bind, each_listed}
use Rattle.message.specs.Message.{qdcount, ancount, nscount, arcount, questions_end, records, sections, records_of, malformed, wrong_opt, is_opt, opts, Outlined, refused, no_opt, the_opt, first_opt, outline}
use Rattle.message.specs.Name.{name_end}
use Rattle.message.specs.Record.{fields, whole, record_at}
use Rattle.message.specs.declared.Record.{Record}

-- a record's data lies in so many bytes
abbrev pub DataInside : ℕ → Record → Type 0
DataInside n r = Inside n r.start r.end

record_inside : (s : List ℕ) (at : ℕ) (e : Option ℕ) → IfOne (DataInside (length s)) (bind e (λ end. whole s (fields s at end)))
unfolding bind
record_inside s at none = tt
record_inside s at (some end) =
    elim (dec_le (end + 10 + be16_at s (end + 8)) (length s)) [
      | yes l ↦ rw (le-leb _ _ l) (record { ordered = omega arith; within = l })
      | no n ↦ rw (lt-leb (end + 10 + be16_at s (end + 8)) (length s) (omega arith)) tt
    ]

records_inside : (n : ℕ) (s : List ℕ) (at : ℕ) → IfList (DataInside (length s)) (records n s at)
unfolding records record_at
records_inside zero s at = pick (eqb at (length s))
  where
    pick : (b : Bool) → IfList (DataInside (length s)) (cond b (some []) none)
    pick true = tt
    pick false = tt
records_inside (suc n) s at =
    each_bind (DataInside (length s)) (record_at s at) (λ r. records n s r.end) (record_inside s at (name_end s at)) (λ r. records_inside n s r.end)

sections_inside : (s : List ℕ) → IfList (DataInside (length s)) (sections s)
unfolding sections bind
sections_inside s = pick (questions_end (qdcount s) s 12)
  where
    pick : (x : Option ℕ) → IfList (DataInside (length s)) (bind x (λ at. records (ancount s + nscount s + arcount s) s at))
    pick none = tt
    pick (some at) = records_inside (ancount s + nscount s + arcount s) s at

opts_inside : (n : ℕ) (rs : List Record) → Each (DataInside n) rs → Each (DataInside n) (opts rs)
opts_inside n [] is = tt
opts_inside n (r ∷ rs) is = pick (is_opt r) is.0 (opts_inside n rs is.1)
  where
    pick : (b : Bool) → DataInside n r → Each (DataInside n) (opts rs) → Each (DataInside n) (cond b (r ∷ opts rs) (opts rs))
    pick true i js = (i, js)
    pick false i js = js

-- the OPTs of any message
pub opts_within : (s : List ℕ) → Each (DataInside (length s)) (opts (records_of s))
opts_within s = opts_inside (length s) (records_of s) (each_listed (DataInside (length s)) (sections s) (sections_inside s))

abbrev OutlineInside : ℕ → Outlined → Type 0
OutlineInside n (refused k) = Unit {0}
OutlineInside n no_opt = Unit {0}
OutlineInside n (the_opt r) = DataInside n r

outline_inside : (s : List ℕ) → OutlineInside (length s) (outline s)
unfolding outline
outline_inside s = unless (first (6 when malformed s ∷ 7 when wrong_opt s ∷ [])) (opts (records_of s)) (opts_within s)
  where
    unless : (k : ℕ) (rs : List Record) → Each (DataInside (length s)) rs → OutlineInside (length s) (answered refused k (first_opt rs))
    unless zero [] is = tt
    unless zero (r ∷ rs) is = is.0
    unless (suc k) rs is = tt

-- the OPT that a walk found
pub opt_inside : (s : List ℕ) (r : Record) → the_opt r ≡ outline s → DataInside (length s) r
opt_inside s r walked = subst (OutlineInside (length s)) (sym walked) (outline_inside s)
