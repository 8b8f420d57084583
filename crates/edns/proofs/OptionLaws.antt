-- Options one at a time, with no count of turns, and the first COOKIE option among them. Assumes nothing.
use Prim.Native.Nat.{ℕ, zero, suc, ◌+◌, ◌-◌, ◌≤◌, ◌<◌}
use mathlib.Core.Path.{◌≡◌, refl, sym, ap, ◌∙◌}
use mathlib.Core.Bool.{Bool, true, false, not, cond}
use mathlib.Core.List.{List, [], ◌∷◌}
use mathlib.Core.Option
use mathlib.Core.Option.{Option, none, some, bind, none-ne-some, some-injective}
use native.Mathlib.Decide.{dec_le}
use native.Mathlib.Omega.{arith}
use borrow.Author.Tests.{le-leb, lt-leb, eq-eqb, ne_eqb, not-true, not-false}
use lib.Dec.{leb}
use lib.ListN.{length}
use Rattle.octets.specs.Numbers.{be16_at}
use Rattle.octets.specs.Runs.{part_end}
use Rattle.octets.proofs.ReadLaws.{part_told, part_lacks}
use Rattle.octets.specs.Refusals.{◌when◌, first, answered, is_none}
use Rattle.std.specs.Prelude as code
use Rattle.std.specs.Prelude.{Some, None, Ok, Err}
use Rattle.std.specs.Option.{ok_or}
use Rattle.edns.specs.Answers.{found_of}
use Rattle.edns.specs.Options.{fields, option_at, options_in, options_from, is_cookie, first_cookie, Listed, refused, no_cookie, cookie, place, cookie_in}
use Rattle.edns.specs.declared.EdnsOption.{EdnsOption}
use Rattle.edns.specs.declared.Past.{Past}

-- ---- one option

-- where an option lies
pub record Lies (d : List ℕ) (at : ℕ) (o : EdnsOption) : Type 0 where
  pub begins : o.start ≡ at + 4
  pub ordered : o.start ≤ o.end
  pub within : o.end ≤ length d

pub option_lies : (d : List ℕ) (at : ℕ) (o : EdnsOption) → option_at d at ≡ some o → Lies d at o
unfolding option_at
option_lies d at o h =
    elim (dec_le (at + 4 + be16_at d (at + 2)) (length d)) [
      | yes l ↦
          let there : some (fields d at) ≡ option_at d at = simp (le-leb _ _ l) in
          let is : fields d at ≡ o = some-injective _ _ (there ∙ h) in
          let start_is : at + 4 ≡ o.start = ap (λ (x : EdnsOption). x.start) is in
          let end_is : at + 4 + be16_at d (at + 2) ≡ o.end = ap (λ (x : EdnsOption). x.end) is in
          record { begins = sym start_is; ordered = omega arith; within = omega arith }
      | no n ↦
          let there : none ≡ option_at d at = simp (lt-leb (at + 4 + be16_at d (at + 2)) (length d) (omega arith)) in
          absurd (none-ne-some o (there ∙ h))
    ]

-- one that is past the end: docs/PORT.md names this law, and no answer cites it today
module _ (d : List ℕ) (at end : ℕ) (end_is : end ≡ at + 4 + be16_at d (at + 2)) where
  pub option_past_lem : length d < end → none ≡ option_at d at
  unfolding option_at
  option_past_lem past = simp (lt-leb (at + 4 + be16_at d (at + 2)) (length d) (omega (arith, end_is)))

-- one whose body's end the code has asked for
module _ (d : List ℕ) (at : ℕ) where
  pub option_lacks : None ≡ part_end d (at + 2) → none ≡ option_at d at
  unfolding option_at
  option_lacks is = simp (lt-leb (at + 4 + be16_at d (at + 2)) (length d) (omega (arith, part_lacks d (at + 2) is)))

  pub option_there : (end : ℕ) → Some end ≡ part_end d (at + 2) → (code : ℕ) → code ≡ be16_at d at
      → some (record { code = code; start = at + 4; end = end }) ≡ option_at d at
  unfolding option_at
  option_there end is code typed =
      let told = part_told d (at + 2) end is in
      let end_is : end ≡ at + 4 + be16_at d (at + 2) = omega (arith, told.0) in
      rw (typed, end_is) (simp (le-leb (at + 4 + be16_at d (at + 2)) (length d) (omega (arith, end_is, told.1))))

-- ---- all from here on

on_option : {A : Type 0} (x : Option EdnsOption) (f g : EdnsOption → Option A) → ((o : EdnsOption) → x ≡ some o → f o ≡ g o) → bind x f ≡ bind x g
unfolding bind
on_option none f g h = refl
on_option (some o) f g h = h o refl

-- turns beyond the end change nothing
enough : (f g : ℕ) (d : List ℕ) (at : ℕ) → length d ≤ at + f → length d ≤ at + g → options_in f d at ≡ options_in g d at
unfolding options_in
enough zero zero d at hf hg = refl
enough zero (suc g) d at hf hg = simp (le-leb (length d) at (omega arith))
enough (suc f) zero d at hf hg = simp (le-leb (length d) at (omega arith))
enough (suc f) (suc g) d at hf hg =
    ap (λ (x : Option (List EdnsOption)). cond (leb (length d) at) (some []) x)
    (on_option (option_at d at) _ _
    (λ o h.
    let l : Lies d at o = option_lies d at o h in
    ap (λ (x : Option (List EdnsOption)). bind x (λ rest. some (o ∷ rest))) (enough f g d o.end (omega (arith, l.begins, l.ordered)) (omega (arith, l.begins, l.ordered)))))

pub options_end : (d : List ℕ) (at : ℕ) → length d ≤ at → options_from d at ≡ some []
unfolding options_from options_in
options_end d at h = enough (length d) (suc (length d)) d at (omega arith) (omega arith) ∙ simp (le-leb _ _ h)

pub options_step : (d : List ℕ) (at : ℕ) → at < length d → options_from d at ≡ bind (option_at d at) (λ o. bind (options_from d o.end) (λ rest. some (o ∷ rest)))
unfolding options_from options_in
options_step d at h = enough (length d) (suc (length d)) d at (omega arith) (omega arith) ∙ simp (lt-leb _ _ h)

-- ---- the walks: what is found from here on is what is found from before, if it is so far

-- the next option, as the code finds it
module _ (d : List ℕ) (at : ℕ) (here : at < length d) where
  next_is : (o : EdnsOption) → some o ≡ option_at d at → options_from d at ≡ bind (options_from d o.end) (λ rest. some (o ∷ rest))
  unfolding bind
  next_is o found = options_step d at here ∙ rw (← found)

  next_past : none ≡ option_at d at → options_from d at ≡ none
  unfolding bind
  next_past found = options_step d at here ∙ rw (← found)

  pub next_less : (o : EdnsOption) → some o ≡ option_at d at → length d - o.end < length d - at
  next_less o found =
      let l : Lies d at o = option_lies d at o (sym found) in
      omega (arith, l.begins, l.ordered)

-- whether all are within the data
push_none : (o : EdnsOption) (rest : Option (List EdnsOption)) → is_none (bind rest (λ os. some (o ∷ os))) ≡ is_none rest
unfolding bind
push_none o none = refl
push_none o (some os) = refl

module _ (d : List ℕ) (at : ℕ) (all : Bool) (so_far : not (is_none (options_from d at)) ≡ all) where
  pub whole_end : length d ≤ at → true ≡ all
  whole_end past = sym (ap (λ (x : Option (List EdnsOption)). not (is_none x)) (options_end d at past)) ∙ so_far

  module _ (here : at < length d) where
    pub whole_past : none ≡ option_at d at → false ≡ all
    whole_past found = sym (ap (λ (x : Option (List EdnsOption)). not (is_none x)) (next_past d at here found)) ∙ so_far

    pub whole_next : (o : EdnsOption) → some o ≡ option_at d at → not (is_none (options_from d o.end)) ≡ all
    whole_next o found = ap not (sym (push_none o (options_from d o.end)) ∙ sym (ap is_none (next_is d at here o found))) ∙ so_far

-- the answer, over the options from here on
abbrev pub found_from : Option (List EdnsOption) → Listed
found_from x = answered refused (first (9 when is_none x ∷ [])) (place (first_cookie (Option.get_or x [])))

pub found_all : (d : List ℕ) → found_from (options_from d 0) ≡ cookie_in d
unfolding cookie_in
found_all d = refl

push_other : (o : EdnsOption) (rest : Option (List EdnsOption)) → is_cookie o ≡ false → found_from (bind rest (λ os. some (o ∷ os))) ≡ found_from rest
unfolding bind first_cookie
push_other o none other = refl
push_other o (some os) other = rw other

push_cookie : (o : EdnsOption) (rest : Option (List EdnsOption)) → is_cookie o ≡ true
    → found_from (bind rest (λ os. some (o ∷ os))) ≡ cond (not (is_none rest)) (cookie o.start o.end) (refused 9)
unfolding bind first_cookie
push_cookie o none is = refl
push_cookie o (some os) is = rw is

module _ (past : Past) (d : List ℕ) (at : ℕ) (all : Listed) (so_far : found_from (options_from d at) ≡ all) where
  pub found_end : length d ≤ at → no_cookie ≡ all
  unfolding first_cookie
  found_end past = sym (ap found_from (options_end d at past)) ∙ so_far

  -- behind an option as the code asks for it
  module _ (here : at < length d) (f : code.Option EdnsOption) (found : found_of f ≡ option_at d at) where
    pub found_past : (e : Past) → Err e ≡ ok_or f past → refused 9 ≡ all
    found_past e is = by f found is
      where
        by : (g : code.Option EdnsOption) → found_of g ≡ option_at d at → Err e ≡ ok_or g past → refused 9 ≡ all
        by None k h = sym (ap found_from (next_past d at here k)) ∙ so_far
        by (Some o) k h = cc

    module _ (o : EdnsOption) (is : Ok o ≡ ok_or f past) where
      pub there : some o ≡ option_at d at
      there = by f found is
        where
          by : (g : code.Option EdnsOption) → found_of g ≡ option_at d at → Ok o ≡ ok_or g past → some o ≡ option_at d at
          by None k h = cc
          by (Some p) k h = let same : o ≡ p = cc in rw same k

      pub found_less : length d - o.end < length d - at
      found_less = next_less d at here o there

      pub found_next : (o.code ≡ 10 → ⊥) → found_from (options_from d o.end) ≡ all
      found_next other =
          sym (push_other o (options_from d o.end) (ne_eqb o.code 10 other)) ∙ sym (ap found_from (next_is d at here o there)) ∙ so_far

      -- by whether those behind the COOKIE are within the data
      module _ (is-cookie : o.code ≡ 10) (whole : Bool) (whole_is : whole ≡ not (is_none (options_from d o.end))) where
        found_cookie : cond whole (cookie o.start o.end) (refused 9) ≡ all
        found_cookie =
            ap (λ (b : Bool). cond b (cookie o.start o.end) (refused 9)) whole_is
            ∙ sym (push_cookie o (options_from d o.end) (eq-eqb o.code 10 is-cookie)) ∙ sym (ap found_from (next_is d at here o there)) ∙ so_far

        pub found_first : not whole ≡ false → cookie o.start o.end ≡ all
        found_first w = sym (ap (λ (b : Bool). cond b (cookie o.start o.end) (refused 9)) (not-false whole w)) ∙ found_cookie

        pub found_first_past : not whole ≡ true → refused 9 ≡ all
        found_first_past w = sym (ap (λ (b : Bool). cond b (cookie o.start o.end) (refused 9)) (not-true whole w)) ∙ found_cookie
