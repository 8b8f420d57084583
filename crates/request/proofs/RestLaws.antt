-- The checks in the order in which the code comes to them. Assumes nothing.
use Prim.Native.Nat.{ℕ, suc, ◌+◌, ◌-◌, ◌≤◌, ◌<◌}
use mathlib.Core.Path.{◌≡◌, refl, sym, ◌∙◌}
use mathlib.Core.Bool.{Bool, true, false, not, ◌||◌}
use mathlib.Core.List.{List, [], ◌∷◌}
use mathlib.Core.Option
use mathlib.Core.Option.{Option, none, some}
use native.Mathlib.Omega.{arith}
use borrow.Author.Tests.{lt-ltb, le-ltb, le-leb, eq-eqb, ltb-false}
use lib.Dec.{eqb, ltb}
use lib.ListN.{length, take, drop, get_or, length-drop}
use Rattle.octets.specs.Refusals.{◌when◌, first, answered, is_none, NoneApplies}
use Rattle.octets.proofs.RefusalLaws.{Numbered, or_l, or_r, this_not, first_front, zero_none, first_behind}
use Rattle.edns.specs.Options.{options, options_from, options_in, options_of, option_past, first_cookie, is_cookie_length, place, cookie_in}
use Rattle.edns.specs.Options as edns
use Rattle.edns.specs.declared.EdnsOption.{EdnsOption}
use Rattle.message.specs.Message.{qdcount, malformed, wrong_opt, first_opt, outline}
use Rattle.message.specs.Message as message
use Rattle.message.specs.declared.Record.{Record}
use Rattle.message.proofs.Within.{opt_inside}
use Rattle.edns.proofs.Within.{cookie_inside}
use lib.Seq.{length-take-le}
use Rattle.std.specs.Prelude.{Err}
use Rattle.message.specs.Answers.{outline_of}
use Rattle.message.specs.declared.Fault.{Fault}
use Rattle.message.specs.declared.Fault.TheVariants as fault-as
use Rattle.request.specs.Answers.{refusal_number, of_fault}
use Rattle.request.specs.declared.Refusal.{Refusal}
use Rattle.request.specs.declared.Refusal.TheVariants as refusal-as
use Rattle.request.specs.declared.Refusal.TheVariants.{Size, Response, Questions, Version, OptionPast, CookieLength}
use Rattle.request.specs.Request.{opts_in, data_of, opt_data, version_of, is_illegal, wrong_size, many_questions, head_checks, rest_checks, checks, Answer, refused, no_cookie, start_of, found, request}
use Rattle.request.specs.Rest.{after_list, after_opt, after_outline, after_head}

-- each row has its number
pub numbered : (s : List ℕ) → Numbered (checks s)
numbered s = ((2, refl), ((3, refl), ((4, refl), ((5, refl), ((6, refl), ((7, refl), ((8, refl), ((9, refl), tt))))))))

-- ---- what is left behind each step is what the checks say

module _ (q base : ℕ) where
  from_cookie : (c : Option EdnsOption) → answered refused (first (10 when is_illegal c ∷ [])) (found q base c) ≡ after_list q base (place c)
  from_cookie none = refl
  from_cookie (some o) = refl

  from_list : (x : Option (List EdnsOption))
      → answered refused (first (9 when is_none x ∷ 10 when is_illegal (first_cookie (Option.get_or x [])) ∷ [])) (found q base (first_cookie (Option.get_or x [])))
      ≡ after_list q base (answered edns.refused (first (9 when is_none x ∷ [])) (place (first_cookie (Option.get_or x []))))
  from_list none = refl
  from_list (some os) = from_cookie (first_cookie os)

  -- over whether the version is wrong, and the options
  from_opt : (wrong : Bool) (x : Option (List EdnsOption))
      → answered refused (first (8 when wrong ∷ 9 when is_none x ∷ 10 when is_illegal (first_cookie (Option.get_or x [])) ∷ [])) (found q base (first_cookie (Option.get_or x [])))
      ≡ answered refused (first (8 when wrong ∷ [])) (after_list q base (answered edns.refused (first (9 when is_none x ∷ [])) (place (first_cookie (Option.get_or x [])))))
  from_opt true x = refl
  from_opt false x = from_list x

-- over checks 6 and 7, and the OPTs
from_outline : (s : List ℕ) (q : ℕ) (six seven : Bool) (os : List Record)
    → answered refused
    (first
    (6 when six
    ∷ 7 when seven
    ∷ 8 when not (eqb (version_of os) 0)
    ∷ 9 when option_past (opt_data s os)
    ∷ 10 when is_illegal (first_cookie (options_of (opt_data s os)))
    ∷ []))
    (found q (start_of os) (first_cookie (options_of (opt_data s os))))
    ≡ after_outline s q (answered message.refused (first (6 when six ∷ 7 when seven ∷ [])) (first_opt os))
unfolding cookie_in options_from options_in first_cookie
from_outline s q true seven os = refl
from_outline s q false true os = refl
from_outline s q false false [] = refl
from_outline s q false false (r ∷ rs) = from_opt q r.start (not (eqb r.version 0)) (options (data_of s r))

rest_is : (s : List ℕ) → many_questions s ≡ false → after_head s ≡ after_outline s (qdcount s) (outline s)
unfolding after_head outline
rest_is s few = rw few (from_outline s (qdcount s) (malformed s) (wrong_opt s) (opts_in s))

-- ---- checks 8 to 10

-- an OPT without a COOKIE option: docs/PORT.md names this law, and no answer cites it today
pub no_cookie_lem : (s : List ℕ) (q : ℕ) (r : Record) → r.version ≡ 0 → edns.no_cookie ≡ cookie_in (data_of s r) → no_cookie q ≡ after_opt s q r
no_cookie_lem s q r version walked = rw (← walked) (simp (eq-eqb r.version 0 version))

-- a COOKIE body that was found in a part of the message
module _ (s : List ℕ) (start end from to : ℕ) (walked : edns.cookie from to ≡ cookie_in (take (end - start) (drop start s))) where
  pub cookie_ordered : from ≤ to
  cookie_ordered = (cookie_inside (take (end - start) (drop start s)) from to walked).ordered

  pub cookie_fits : start ≤ end → end ≤ length s → length s ≤ 65535 → start + to ≤ 65535
  cookie_fits ordered within small =
      let long : length (take (end - start) (drop start s)) ≡ end - start = length-take-le (end - start) (drop start s) (omega (arith, length-drop start s)) in
      omega (arith, (cookie_inside (take (end - start) (drop start s)) from to walked).within, long)

-- ---- checks 5 to 7

module _ (s : List ℕ) (q : ℕ) (q-is : q ≡ qdcount s) where
  pub refuse_5 : 1 < q → refused 5 ≡ after_head s
  unfolding after_head
  refuse_5 many = simp (lt-ltb 1 (qdcount s) (omega (arith, q-is)))

  module _ (few : q ≤ 1) where
    head_is : (o : message.Outlined) → o ≡ outline s → after_outline s q o ≡ after_head s
    head_is o walked = sym (rest_is s (le-ltb 1 (qdcount s) (omega (arith, q-is))) ∙ rw (← q-is, ← walked))

    -- check 6 or 7
    pub refuse_fault : (f : Fault) → outline_of (Err f) ≡ outline s → refused (refusal_number (of_fault f)) ≡ after_head s
    refuse_fault fault-as.Malformed walked = head_is (message.refused 6) walked
    refuse_fault fault-as.WrongOpt walked = head_is (message.refused 7) walked

    pub no_opt_lem : message.no_opt ≡ outline s → no_cookie q ≡ after_head s
    no_opt_lem walked = head_is message.no_opt walked

    pub with_opt_lem : (r : Record) → message.the_opt r ≡ outline s → (x : Answer) → x ≡ after_opt s q r → x ≡ after_head s
    with_opt_lem r walked x e = e ∙ head_is (message.the_opt r) walked

module _ (s : List ℕ) (r : Record) (walked : message.the_opt r ≡ outline s) where
  pub opt_ordered : r.start ≤ r.end
  opt_ordered = (opt_inside s r walked).ordered

  pub opt_within : r.end ≤ length s
  opt_within = (opt_inside s r walked).within

-- ---- checks 3 and 4

pub or_parts : (a b : Bool) → (a || b) ≡ false → (a ≡ false) × (b ≡ false)
or_parts a b e = (or_l a b e, or_r a b e)

pub head_numbered : (s : List ℕ) → Numbered (head_checks s)
head_numbered s = ((2, refl), ((3, refl), tt))

-- a response is refused by 4, if its length is right: docs/PORT.md names this law, and no answer cites it today
pub head_4 : (s : List ℕ) → 12 ≤ length s → length s ≤ 65535 → 128 ≤ get_or s 2 0 → 4 ≡ first (head_checks s)
head_4 s low high qr = simp (le-ltb _ _ low, le-ltb _ _ high, le-leb _ _ qr)

-- ---- and behind them the rest

-- no refusal's number is 0
pub positive : (f : Refusal) → (k : ℕ) × (refusal_number f ≡ suc k)
positive Size = (2, refl)
positive Response = (3, refl)
positive Questions = (4, refl)
positive refusal-as.Malformed = (5, refl)
positive refusal-as.WrongOpt = (6, refl)
positive Version = (7, refl)
positive OptionPast = (8, refl)
positive CookieLength = (9, refl)

module _ (s : List ℕ) where
  pub refuse_head : (f : Refusal) → refusal_number f ≡ first (head_checks s) → refused (refusal_number f) ≡ request s
  unfolding request
  refuse_head f told =
      let n = positive f in
      let is : first (head_checks s) ≡ suc n.0 = sym told ∙ n.1 in
      rw (first_front (head_checks s) (rest_checks s) n.0 is, n.1)

  module _ (none_told : 0 ≡ first (head_checks s)) where
    passed : NoneApplies (head_checks s)
    passed = zero_none (head_checks s) (head_numbered s) (sym none_told)

    size : wrong_size s ≡ false
    size = this_not _ _ passed

    pub long_enough : 12 ≤ length s
    long_enough = ltb-false (length s) 12 (or_parts (ltb (length s) 12) (ltb 65535 (length s)) size).0

    pub short_enough : length s ≤ 65535
    short_enough = ltb-false 65535 (length s) (or_parts (ltb (length s) 12) (ltb 65535 (length s)) size).1

    pub rest_of : (x : Answer) → x ≡ after_head s → x ≡ request s
    unfolding request after_head
    rest_of x e = e ∙ rw (first_behind (head_checks s) (rest_checks s) passed)
