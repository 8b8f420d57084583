-- The claims of specs/Claims.antt. Assumes nothing.
use Prim.Native.Nat.{ℕ, ◌+◌, ◌-◌, ◌≤◌}
use mathlib.Core.Path.{◌≡◌, refl, sym, ap, subst, ◌∙◌}
use mathlib.Core.Bool.{Bool, true, false, not, cond, ◌||◌, true≢false, false≢true}
use mathlib.Core.List.{List, [], ◌∷◌, ◌++◌}
use mathlib.Core.Option.{Option, none, some, get_or}
use native.Mathlib.Omega.{arith}
use borrow.Author.Tests.{eqb-true, eq-eqb, ne_eqb, not-false}
use lib.Dec.{eqb}
use lib.ListN.{length, take, drop, length-drop}
use lib.Seq.{length-take-le}
use Rattle.octets.specs.Refusals.{NoneApplies}
use Rattle.octets.proofs.EachLaws.{Each, IfOne}
use Rattle.octets.proofs.RefusalLaws.{is_first, none_is, is_none_lem, first_is, this_not, none_behind, is_some}
use Rattle.edns.proofs.Within.{BodyInside, cookie_within}
use Rattle.edns.specs.Options.{options, options_from, options_in, options_of, option_past, is_cookie, first_cookie}
use Rattle.edns.specs.declared.EdnsOption.{EdnsOption}
use Rattle.message.proofs.Within.{DataInside, opts_within}
use Rattle.message.specs.Message.{qdcount, ancount, nscount, sections, records_of, opts, is_any, is_second, any_foreign, wrong_among}
use Rattle.message.specs.declared.Record.{Record}
use Rattle.request.proofs.RestLaws.{or_parts, numbered}
use Rattle.request.specs.Claims.{TheFirstIsGiven, NoCookies, OnlyOpt, TheCookie, WithoutCookie, no_opt_case, no_option, TheFirstIsFound}
use Rattle.request.specs.Request.{opts_in, cookie_of, data_of, opt_data, version_of, checks, Answer, refused, no_cookie, cookie, start_of, found, found_in, request, body_at, cookie_body}

-- ---- answers

is_refused : Answer → Bool
is_refused (refused n) = true
is_refused (no_cookie q) = false
is_refused (cookie q a e) = false

refused_by : Answer → ℕ
refused_by (refused n) = n
refused_by (no_cookie q) = 0
refused_by (cookie q a e) = 0

-- ---- the first claim

found_passes : (q base : ℕ) (c : Option EdnsOption) (n : ℕ) → found q base c ≡ refused n → ⊥
unfolding is_refused
found_passes q base none n e = false≢true (ap is_refused e)
found_passes q base (some o) n e = false≢true (ap is_refused e)

pub first_is_given : TheFirstIsGiven
unfolding request refused_by
first_is_given s =
    let passes : (n : ℕ) → found_in s ≡ refused n → ⊥ = found_passes (qdcount s) (start_of (opts_in s)) (cookie_of s) in
    record {
      refused_when = first_is refused (found_in s) refused_by (λ n. refl) passes (checks s) (numbered s);
      when_refused = is_first refused (found_in s) (checks s) (numbered s);
      passed_when = is_none_lem refused (found_in s) (checks s) (numbered s);
      when_passed = λ nothing n e. passes n (sym (none_is refused (found_in s) (checks s) nothing) ∙ e);
    }

-- ---- what it means that a check does not apply

no_any : (rs : List Record) → is_any rs ≡ false → rs ≡ []
no_any [] e = refl
no_any (r ∷ rs) e = absurd (true≢false e)

-- the first COOKIE option splits the list
abbrev Split : List EdnsOption → Option EdnsOption → Type 0
Split os none = NoCookies os
Split os (some o) = (before : List EdnsOption) × (after : List EdnsOption) × (os ≡ before ++ o ∷ after) × NoCookies before × (o.code ≡ 10)

split : (os : List EdnsOption) → Split os (first_cookie os)
unfolding first_cookie
split [] = tt
split (o ∷ os) = pick (is_cookie o) refl (first_cookie os) (split os)
  where
    push : (p : Option EdnsOption) → (o.code ≡ 10 → ⊥) → Split os p → Split (o ∷ os) p
    push none other is = (other, is)
    push (some p) other is = (o ∷ is.0, is.1, ap (λ (l : List EdnsOption). o ∷ l) is.2, (other, is.3), is.4)

    pick : (b : Bool) → is_cookie o ≡ b → (p : Option EdnsOption) → Split os p → Split (o ∷ os) (cond b (some o) p)
    pick true e p is = ([], os, refl, tt, eqb-true o.code 10 e)
    pick false e p is = push p (λ c. true≢false (sym (eq-eqb o.code 10 c) ∙ e)) is

-- the first COOKIE option behind others
cookie_behind : (before : List EdnsOption) (o : EdnsOption) (after : List EdnsOption) → NoCookies before → o.code ≡ 10 → first_cookie (before ++ o ∷ after) ≡ some o
unfolding first_cookie
cookie_behind [] o after others code = rw (eq-eqb o.code 10 code)
cookie_behind (b ∷ before) o after others code = rw (ne_eqb b.code 10 others.0) (cookie_behind before o after others.1 code)

first_none : (os : List EdnsOption) → NoCookies os → first_cookie os ≡ none
unfolding first_cookie
first_none [] others = refl
first_none (o ∷ os) others = rw (ne_eqb o.code 10 others.0) (first_none os others.1)

-- ---- the second claim

-- what each answer that is no refusal tells
abbrev Told : List ℕ → Answer → Type 0
Told s (refused n) = Unit {0}
Told s (no_cookie q) = (q ≡ qdcount s) × WithoutCookie s
Told s (cookie q a e) = (q ≡ qdcount s) × TheCookie s a e

module _ (s : List ℕ) (all : List Record) (opt : Record) (sole_opt : OnlyOpt s all opt) (os : List EdnsOption) (listed : options (data_of s opt) ≡ some os) where
  told_cookie : (c : Option EdnsOption) → Split os c → IfOne (BodyInside (length (data_of s opt))) c → Told s (found (qdcount s) opt.start c)
  told_cookie none is i = (refl, no_option all opt sole_opt os listed is)
  told_cookie (some o) is i =
      let o-ordered : o.start ≤ o.end = i.ordered in
      let long : length (data_of s opt) ≡ opt.end - opt.start =
      length-take-le (opt.end - opt.start) (drop opt.start s) (omega (arith, length-drop opt.start s, sole_opt.ordered, sole_opt.inside)) in (
        refl,
        record {
          all = all;
          opt = opt;
          sole_opt = sole_opt;
          before = is.0;
          option = o;
          after = is.1;
          listed = listed ∙ ap (λ (l : List EdnsOption). some l) is.2;
          none_before = is.3;
          code = is.4;
          starts = refl;
          ends = refl;
          ordered = omega arith;
          in_data = omega (arith, i.within, long, sole_opt.ordered);
        },
      )

module _ (s : List ℕ) where
  abbrev found_from : List Record → Answer
  found_from os = found (qdcount s) (start_of os) (first_cookie (options_of (opt_data s os)))

  told_opts : (all : List Record) → sections s ≡ some all → opts (take (ancount s + nscount s) all) ≡ [] → (os : List Record) → opts all ≡ os
      → any_foreign os ≡ false → is_second os ≡ false → not (eqb (version_of os) 0) ≡ false → option_past (opt_data s os) ≡ false → Each (DataInside (length s)) os
      → Told s (found_from os)
  unfolding options_from options_in first_cookie
  told_opts all sectioned before [] is owned single version whole inside = (refl, no_opt_case all sectioned is)
  told_opts all sectioned before (r ∷ []) is owned single version whole inside =
      let one : (os : List EdnsOption) × (options (data_of s r) ≡ some os) = is_some (options (data_of s r)) whole in
      let sole_opt : OnlyOpt s all r = record {
        sectioned = sectioned;
        only = is;
        none_before = before;
        owned = not-false r.root (or_parts (not r.root) false owned).0;
        version_0 = eqb-true r.version 0 (not-false (eqb r.version 0) version);
        ordered = inside.0.ordered;
        inside = inside.0.within;
      } in
      let cookie_is : first_cookie (options_of (data_of s r)) ≡ first_cookie one.0 = ap (λ (x : Option (List EdnsOption)). first_cookie (get_or x [])) one.1 in
      subst (λ (c : Option EdnsOption). Told s (found (qdcount s) r.start c)) (sym cookie_is)
      (told_cookie s all r sole_opt one.0 one.1 (first_cookie one.0) (split one.0) (subst (IfOne (BodyInside (length (data_of s r)))) cookie_is (cookie_within (data_of s r))))
  told_opts all sectioned before (r ∷ q ∷ rs) is owned single version whole inside = absurd (true≢false single)

  -- rows 3 to 5, then 6, 7, 8 and 9, by what they say
  told : NoneApplies (checks s) → Told s (found_in s)
  unfolding wrong_among
  told nothing =
      let from_6 = none_behind _ _ (none_behind _ _ (none_behind _ _ nothing)) in
      let from-7 = none_behind _ _ from_6 in
      let from-8 = none_behind _ _ from-7 in
      let from-9 = none_behind _ _ from-8 in
      let one : (all : List Record) × (sections s ≡ some all) = is_some (sections s) (this_not _ _ from_6) in
      let listed-is : records_of s ≡ one.0 = ap (λ (x : Option (List Record)). get_or x []) one.1 in
      let seven : wrong_among (ancount s + nscount s) one.0 ≡ false = subst (λ (rs : List Record). wrong_among (ancount s + nscount s) rs ≡ false) listed-is (this_not _ _ from-7) in
      let seven-parts = or_parts (is_any (opts (take (ancount s + nscount s) one.0)) || any_foreign (opts one.0)) (is_second (opts one.0)) seven in
      let placed-owned = or_parts (is_any (opts (take (ancount s + nscount s) one.0))) (any_foreign (opts one.0)) seven-parts.0 in
      let opts_are : opts_in s ≡ opts one.0 = ap opts listed-is in
      subst (λ (os : List Record). Told s (found_from os)) (sym opts_are)
      (told_opts one.0 one.1 (no_any (opts (take (ancount s + nscount s) one.0)) placed-owned.0) (opts one.0) refl placed-owned.1 seven-parts.1
      (subst (λ (os : List Record). not (eqb (version_of os) 0) ≡ false) opts_are (this_not _ _ from-8))
      (subst (λ (os : List Record). option_past (opt_data s os) ≡ false) opts_are (this_not _ _ from-9))
      (subst (Each (DataInside (length s))) opts_are (opts_within s)))

  -- an answer that is no refusal is what was found
  passed : (a : Answer) → is_refused a ≡ false → request s ≡ a → NoneApplies (checks s)
  unfolding is_refused
  passed a passes e = (first_is_given s).passed_when (λ n refused-n. true≢false (ap is_refused (sym refused-n ∙ e) ∙ passes))

  told_of : (a : Answer) → is_refused a ≡ false → request s ≡ a → Told s a
  unfolding request
  told_of a passes e = let nothing = passed a passes e in subst (Told s) (sym (none_is refused (found_in s) (checks s) nothing) ∙ e) (told nothing)

  -- ---- and back: what there is, is found

  -- the answer by the records and the options that there are
  found_opts : NoneApplies (checks s) → (all os : List Record) → sections s ≡ some all → opts all ≡ os → request s ≡ found_from os
  unfolding request
  found_opts nothing all os sectioned is =
      none_is refused (found_in s) (checks s) nothing
      ∙ ap found_from (ap (λ (x : Option (List Record)). opts (get_or x [])) sectioned ∙ is)

  found_options : NoneApplies (checks s) → (all : List Record) (opt : Record) → OnlyOpt s all opt → (os : List EdnsOption) → options (data_of s opt) ≡ some os
      → request s ≡ found (qdcount s) opt.start (first_cookie os)
  found_options nothing all opt sole_opt os listed =
      found_opts nothing all (opt ∷ []) sole_opt.sectioned sole_opt.only
      ∙ ap (λ (x : Option (List EdnsOption)). found (qdcount s) opt.start (first_cookie (get_or x []))) listed

  when_found : NoneApplies (checks s) → (start end : ℕ) → TheCookie s start end → request s ≡ cookie (qdcount s) start end
  when_found nothing start end c =
      found_options nothing c.all c.opt c.sole_opt (c.before ++ c.option ∷ c.after) c.listed
      ∙ rw (cookie_behind c.before c.option c.after c.none_before c.code, c.starts, c.ends)

  when_not_found : NoneApplies (checks s) → WithoutCookie s → request s ≡ no_cookie (qdcount s)
  unfolding options_from options_in first_cookie
  when_not_found nothing (no_opt_case all sectioned is) = found_opts nothing all [] sectioned is
  when_not_found nothing (no_option all opt sole_opt os listed none_there) =
      found_options nothing all opt sole_opt os listed ∙ rw (first_none os none_there)

pub first_is_found : TheFirstIsFound
unfolding is_refused cookie_body
first_is_found s =
    record {
      found = λ q a e is. told_of s (cookie q a e) refl is;
      not_found = λ q is. told_of s (no_cookie q) refl is;
      when_found = when_found s;
      when_not_found = when_not_found s;
      part = λ q a e is. ap (body_at s) is;
      no_part = λ q is. ap (body_at s) is;
      no_part_refused = λ n is. ap (body_at s) is;
    }
