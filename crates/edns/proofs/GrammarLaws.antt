-- The claims `NineExactlyWhen` and `ListedAreThese` of specs/Grammar.antt. Assumes nothing.
use Prim.Native.Nat.{ℕ, zero, suc, ◌+◌, ◌≤◌}
use mathlib.Core.Path.{◌≡◌, refl, ap, ◌∙◌}
use mathlib.Core.Bool.{Bool, true, false, cond}
use mathlib.Core.List.{List, [], ◌∷◌, ◌++◌, map}
use mathlib.Core.Option.{some, bind}
use native.Mathlib.Omega.{arith}
use borrow.Author.Tests.{le-leb, lt-leb, leb-true}
use lib.Dec.{leb}
use lib.ListN.{length, drop, length-append, drop_of_length-le}
use Rattle.octets.specs.Numbers.{be_number, be16_at}
use Rattle.octets.specs.Runs.{Stands, Standing}
use Rattle.octets.proofs.PartLaws.{join, left, right, all_stands, filled, taken, bytes, number, bind_told, test_told}
use Rattle.octets.proofs.RefusalLaws.{is_some}
use Rattle.octets.specs.Refusals.{is_none}
use Rattle.edns.specs.Options.{fields, option_at, options_in, options_from, options, option_past}
use Rattle.edns.specs.Grammar.{AnOption, Run, Said, saying_of, sayings, said, NineExactlyWhen, ListedAreThese, AtEveryPlace}
use Rattle.edns.specs.Grammar.AnOption.{an_option}
use Rattle.edns.specs.Grammar.Run.{nothing, more}
use Rattle.edns.specs.declared.EdnsOption.{EdnsOption}

-- ---- one option

module _ (d : List ℕ) (at : ℕ) where
  option_here : (n : ℕ) → n ≡ be16_at d (at + 2) → at + 4 + n ≤ length d → Standing AnOption d at (at + 4 + n)
  option_here n read fits =
      let code = bytes d at 2 (at + 2) refl (omega (arith, fits)) in
      let size = bytes d (at + 2) 2 (at + 4) (omega arith) (omega (arith, fits)) in
      let body = bytes d (at + 4) n (at + 4 + n) refl fits in
      let size_is = body.holds ∙ read ∙ number d (at + 2) (at + 4) size.part size.stands size.holds in
      record {
        part = code.part ++ size.part ++ body.part;
        stands = join (join code.stands size.stands) body.stands;
        holds = an_option code.part size.part body.part code.holds size.holds size_is;
      }

  option_spans : (o : EdnsOption) → option_at d at ≡ some o → Standing AnOption d at o.end × (at + 4 ≤ o.end)
  unfolding option_at
  option_spans o h =
      let test = test_told (at + 4 + be16_at d (at + 2)) (length d) (fields d at) o h in
      let end : at + 4 + be16_at d (at + 2) ≡ o.end = ap (λ (q : EdnsOption). q.end) test.1 in
      (rw end at (option_here (be16_at d (at + 2)) refl test.0), omega (arith, end))

  -- the option that is listed for one of the shape
  record Found (p : List ℕ) (a : AnOption p) (end : ℕ) : Type 0 where
    the : EdnsOption
    found : option_at d at ≡ some the
    ends : the.end ≡ end
    says : said d the ≡ saying_of a
    fits : end ≤ length d
    four : at + 4 ≤ end

  option_found : (p : List ℕ) (a : AnOption p) (end : ℕ) → Stands d at end p → Found p a end
  unfolding option_at
  option_found p (an_option code size body c2 s2 long) end w =
      let w2 = left d at end (code ++ size) body w in
      let l2 : at + length code ≡ at + 2 = omega (arith, c2) in
      let l4 : at + length (code ++ size) ≡ at + 4 = omega (arith, c2, s2, length-append code size) in
      let size_is : be16_at d (at + 2) ≡ be_number size = number d (at + 2) _ size (rw l2 at (right d at _ code size w2)) s2 in
      let all : at + 4 + be16_at d (at + 2) ≡ end = omega (arith, w.ends, l4, long, size_is, length-append (code ++ size) body) in
      let fits = filled d at end p w (omega (arith, w.ends, all)) in
      let body_is = taken d (at + 4) end body (rw l4 at (right d at end (code ++ size) body w)) in
      record {
        the = fields d at;
        found = simp (le-leb (at + 4 + be16_at d (at + 2)) (length d) (omega (arith, fits, all)));
        ends = all;
        says = rw (all, number d at _ code (left d at _ code size w2) c2, body_is);
        fits = fits;
        four = omega (arith, all);
      }

-- ---- all of them

-- with turns enough for what is left
run_here : (turns : ℕ) (d : List ℕ) (at : ℕ) (os : List EdnsOption) → length d ≤ at + turns → options_in turns d at ≡ some os → Run (drop at d)
unfolding options_in
run_here zero d at os enough h = rw (drop_of_length-le d {i = at} (omega (arith, enough))) nothing
run_here (suc turns) d at os enough h = go (leb (length d) at) refl h (λ end qs l. run_here turns d end qs l)
  where
    go : (t : Bool) → leb (length d) at ≡ t
        → cond t (some []) (bind (option_at d at) (λ o. bind (options_in turns d o.end) (λ rest. some (o ∷ rest)))) ≡ some os
        → ((end : ℕ) (qs : List EdnsOption) → length d ≤ end + turns → options_in turns d end ≡ some qs → Run (drop end d)) → Run (drop at d)
    go true over f ih = rw (drop_of_length-le d {i = at} (leb-true (length d) at over)) nothing
    go false not-over f ih =
        let told = bind_told (option_at d at) (λ (o : EdnsOption). bind (options_in turns d o.end) (λ (rest : List EdnsOption). some (o ∷ rest))) os f in
        let o = told.0 in
        let told-rest = bind_told (options_in turns d o.end) (λ (rest : List EdnsOption). some (o ∷ rest)) os told.2 in
        let one = option_spans d at o told.1 in
        let rest = ih o.end told-rest.0 (omega (arith, enough, one.1)) told-rest.1 in
        rw one.0.stands.here (more one.0.part (drop o.end d) one.0.holds rest)

record Listed (turns : ℕ) (d : List ℕ) (at : ℕ) (say : List Said) : Type 0 where
  list : List EdnsOption
  found : options_in turns d at ≡ some list
  says : map (said d) list ≡ say

run_found : (d p : List ℕ) (run : Run p) (turns at : ℕ) → length d ≤ at + turns → Stands d at (length d) p → Listed turns d at (sayings run)
unfolding options_in bind
run_found d p nothing zero at enough w = record { list = []; found = refl; says = refl }
run_found d p nothing (suc turns) at enough w =
    record { list = []; found = simp (le-leb (length d) at (omega (arith, w.ends))); says = refl }
run_found d p (more one rest o os) zero at enough w =
    let here = option_found d at one o (at + length one) (left d at (length d) one rest w) in
    absurd (omega (arith, enough, here.fits, here.four))
run_found d p (more one rest o os) (suc turns) at enough w =
    let here = option_found d at one o (at + length one) (left d at (length d) one rest w) in
    let after = run_found d rest os turns (at + length one) (omega (arith, enough, here.four)) (right d at (length d) one rest w) in
    record {
      list = here.the ∷ after.list;
      found = rw (lt-leb (length d) at (omega (arith, here.fits, here.four)), here.found, here.ends, after.found);
      says = rw (here.says, after.says);
    }

module _ (d : List ℕ) where
  run_told : option_past d ≡ false → Run d
  unfolding options_from
  run_told h =
      let got = is_some (options d) h in
      run_here (length d) d 0 got.0 (omega arith) got.1

  all_found : (run : Run d) → (list : List EdnsOption) × (options d ≡ some list) × (map (said d) list ≡ sayings run)
  unfolding options_from
  all_found run =
      let all = run_found d d run (length d) 0 (omega arith) (all_stands d) in
      (all.list, all.found, all.says)

pub nine_exactly_when : NineExactlyWhen
nine_exactly_when d = (run_told d, λ run. ap is_none (all_found d run).1)

pub listed_are_these : ListedAreThese
listed_are_these d run = let all = all_found d run in rw all.1 all.2

-- ---- at every place

pub at_every_place : AtEveryPlace
at_every_place d at end =
    record {
      found_stands = λ o e. (option_spans d at o e).0;
      standing_found = λ x. let f = option_found d at x.part x.holds end x.stands in (f.the, f.found, f.ends, f.says);
    }
