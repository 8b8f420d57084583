-- The COOKIE body that is found lies within the message and has a legal length. Assumes nothing.
use Prim.Native.Nat.{ℕ, zero, suc, ◌+◌, ◌-◌, ◌≤◌}
use mathlib.Core.Path.{◌≡◌, refl, sym, ap, subst}
use mathlib.Core.Bool.{true, false}
use mathlib.Core.List.{List, [], ◌∷◌}
use mathlib.Core.Option.{Option, none, some}
use native.Mathlib.Omega.{arith}
use borrow.Author.Tests.{not-false, ltb-false}
use lib.Dec.{ltb}
use lib.ListN.{length, take, drop, length-drop}
use lib.Seq.{length-take-le}
use Rattle.octets.specs.Refusals.{first, answered}
use Rattle.octets.proofs.RefusalLaws.{or_r, first_most, this_not, none_behind, zero_none}
use Rattle.octets.proofs.EachLaws.{Each, IfOne}
use Rattle.edns.proofs.Within.{BodyInside, cookie_within}
use Rattle.edns.specs.Options.{options_from, options_in, options_of, first_cookie, is_cookie_length}
use Rattle.edns.specs.declared.EdnsOption.{EdnsOption}
use Rattle.message.proofs.Within.{DataInside, opts_within}
use Rattle.message.specs.declared.Record.{Record}
use Rattle.message.specs.Message.{qdcount}
use Rattle.request.proofs.RestLaws.{numbered}
use Rattle.request.specs.Request.{opts_in, cookie_of, data_of, opt_data, is_illegal, Answer, refused, no_cookie, cookie, start_of, found, found_in, checks, request, body_at, cookie_body}

abbrev pub AnswerInside : ℕ → Answer → Type 0
AnswerInside n (refused k) = Unit {0}
AnswerInside n (no_cookie q) = Unit {0}
AnswerInside n (cookie q start end) = (start ≤ end) × (end ≤ n)

-- from the data to the message
found_inside : (s : List ℕ) (r : Record) (q : ℕ) (c : Option EdnsOption) → r.start ≤ r.end → r.end ≤ length s → IfOne (BodyInside (length (data_of s r))) c
    → AnswerInside (length s) (found q r.start c)
found_inside s r q none ordered within i = tt
found_inside s r q (some o) ordered within i =
    let long : length (data_of s r) ≡ r.end - r.start = length-take-le (r.end - r.start) (drop r.start s) (omega (arith, length-drop r.start s)) in
    (omega (arith, i.ordered), omega (arith, i.within, long))

opts_found : (s : List ℕ) (q : ℕ) (os : List Record) → Each (DataInside (length s)) os
    → AnswerInside (length s) (found q (start_of os) (first_cookie (options_of (opt_data s os))))
unfolding options_from options_in first_cookie
opts_found s q [] is = tt
opts_found s q (r ∷ rs) is = found_inside s r q (first_cookie (options_of (data_of s r))) is.0.ordered is.0.within (cookie_within (data_of s r))

pub request_inside : (s : List ℕ) → AnswerInside (length s) (request s)
unfolding request
request_inside s = pick (first (checks s)) (found_in s) (opts_found s (qdcount s) (opts_in s) (opts_within s))
  where
    pick : (k : ℕ) (a : Answer) → AnswerInside (length s) a → AnswerInside (length s) (answered refused k a)
    pick zero a i = i
    pick (suc k) a i = tt

-- ---- and it has a legal length

-- by its places
abbrev PlacesLegal : Answer → Type 0
PlacesLegal (refused k) = Unit {0}
PlacesLegal (no_cookie q) = Unit {0}
PlacesLegal (cookie q start end) = is_cookie_length (end - start) ≡ true

-- as a part of the message
abbrev pub AnswerLegal : List ℕ → Answer → Type 0
AnswerLegal s (refused k) = Unit {0}
AnswerLegal s (no_cookie q) = Unit {0}
AnswerLegal s (cookie q start end) = is_cookie_length (length (take (end - start) (drop start s))) ≡ true

part_legal : (s : List ℕ) (a : Answer) → AnswerInside (length s) a → PlacesLegal a → AnswerLegal s a
part_legal s (refused k) i is = tt
part_legal s (no_cookie q) i is = tt
part_legal s (cookie q start end) i is =
    let long : length (take (end - start) (drop start s)) ≡ end - start = length-take-le (end - start) (drop start s) (omega (arith, length-drop start s, i.0, i.1)) in
    rw long is

found_legal : (q base : ℕ) (c : Option EdnsOption) → is_illegal c ≡ false → PlacesLegal (found q base c)
found_legal q base none legal = tt
found_legal q base (some o) legal =
    let long : base + o.end - (base + o.start) ≡ o.end - o.start = omega arith in
    rw long (not-false (is_cookie_length (o.end - o.start)) legal)

pub request_legal : (s : List ℕ) → AnswerLegal s (request s)
unfolding request
request_legal s = part_legal s (request s) (request_inside s) (pick (first (checks s)) refl)
  where
    pick : (k : ℕ) → first (checks s) ≡ k → PlacesLegal (answered refused k (found_in s))
    pick zero e =
        let from_6 = none_behind _ _ (none_behind _ _ (none_behind _ _ (zero_none (checks s) (numbered s) e))) in
        let from-10 = none_behind _ _ (none_behind _ _ (none_behind _ _ (none_behind _ _ from_6))) in
        found_legal (qdcount s) (start_of (opts_in s)) (cookie_of s) (this_not _ _ from-10)
    pick (suc k) e = tt

-- ---- a refusal is one of ten, at most one question is asked, and places are those of a message of at most 65,535 bytes

abbrev pub AnswerSmall : Answer → Type 0
AnswerSmall (refused k) = (1 ≤ k) × (k ≤ 10)
AnswerSmall (no_cookie q) = q ≤ 1
AnswerSmall (cookie q start end) = (q ≤ 1) × (start ≤ end) × (end ≤ 65535)

found_small : (n q base : ℕ) (c : Option EdnsOption) → n ≤ 65535 → q ≤ 1 → AnswerInside n (found q base c) → AnswerSmall (found q base c)
found_small n q base none small one i = one
found_small n q base (some o) small one i = (one, i.0, omega (arith, i.1))

pub request_small : (s : List ℕ) → AnswerSmall (request s)
unfolding request
request_small s = pick (first (checks s)) refl (request_inside s)
  where
    pick : (k : ℕ) → first (checks s) ≡ k → AnswerInside (length s) (answered refused k (found_in s)) → AnswerSmall (answered refused k (found_in s))
    pick zero e i =
        let pass = zero_none (checks s) (numbered s) e in
        let small : length s ≤ 65535 = ltb-false 65535 (length s) (or_r (ltb (length s) 12) (ltb 65535 (length s)) (this_not _ _ pass)) in
        let one : qdcount s ≤ 1 = ltb-false 1 (qdcount s) (this_not _ _ (none_behind _ _ (none_behind _ _ pass))) in
        found_small (length s) (qdcount s) (start_of (opts_in s)) (cookie_of s) small one i
    pick (suc k) e i =
        let most = first_most 10 (checks s) (omega arith, (omega arith, (omega arith, (omega arith, (omega arith, (omega arith, (omega arith, (omega arith, tt)))))))) in
        (omega arith, omega (arith, most, e))

-- ---- the finder

module _ (s : List ℕ) where
  pub body_is : (a : Answer) → a ≡ request s → body_at s a ≡ cookie_body s
  unfolding cookie_body
  body_is a read = ap (body_at s) read

  module _ (q start end : ℕ) (read : cookie q start end ≡ request s) where
    -- what is read is the part that was found: docs/PORT.md names this law, and no answer cites it today
    pub body_at_lem : take (end - start) (drop start s) ≡ cookie_body s
    body_at_lem = body_is (cookie q start end) read

    inside : (start ≤ end) × (end ≤ length s)
    inside = subst (AnswerInside (length s)) (sym read) (request_inside s)

    pub body_ordered : start ≤ end
    body_ordered = inside.0

    pub body_within : end ≤ length s
    body_within = inside.1

    -- check 10 let it through
    pub body_legal : is_cookie_length (length (take (end - start) (drop start s))) ≡ true
    body_legal = subst (AnswerLegal s) (sym read) (request_legal s)
