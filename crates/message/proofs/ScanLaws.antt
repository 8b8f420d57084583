-- The OPT by one record at a time, and that this is the OPT of the definition. Assumes nothing.
use Prim.Native.Nat.{ℕ, zero, suc, ◌-◌, ◌≤◌, ◌<◌}
use mathlib.Core.Path.{◌≡◌, refl, sym, ap, ◌∙◌}
use mathlib.Core.Bool.{Bool, true, false, not, cond, ◌||◌, or-true}
use mathlib.Core.List.{List, [], ◌∷◌}
use mathlib.Core.Option.{Option, none, some, bind}
use native.Mathlib.Decide.{dec_lt}
use native.Mathlib.Omega.{arith}
use borrow.Author.Tests.{lt-ltb, le-ltb, eq-eqb, ne_eqb}
use lib.Dec.{eqb, ltb}
use lib.ListN.{length, take}
use Rattle.std.specs.Prelude as code
use Rattle.std.specs.Prelude.{Some, None, Ok, Err}
use Rattle.message.specs.Message.{records, is_opt, opts, is_any, is_second, any_foreign, wrong_among}
use Rattle.message.specs.Record.{record_at}
use Rattle.message.specs.Scan.{Outline, is_wrong, with_records, scan, scanned}
use Rattle.message.specs.declared.Fault.TheVariants.{Malformed, WrongOpt}
use Rattle.message.specs.declared.Record.{Record}

-- ---- so many of them

-- the next one is in the additional section, if fewer than its number are behind it
is_placed : (left a : ℕ) → 0 < left → ltb (left - 1) a ≡ eqb (left - a) 0
is_placed left a one_left =
    elim (dec_lt (left - 1) a) [
      | yes l ↦ lt-ltb (left - 1) a l ∙ sym (eq-eqb (left - a) 0 (omega arith))
      | no m ↦ le-ltb (left - 1) a (omega arith) ∙ sym (ne_eqb (left - a) 0 (λ e. omega (arith, e)))
    ]

-- the ones that are left, of which a are in the additional section, give what all do, if they do so far
module _ (s : List ℕ) (a at left : ℕ) (opt : code.Option Record) (wrong : Bool) (all : Outline) (so_far : scanned (left - a) opt wrong left s at ≡ all) where
  pub scan_end : left ≤ 0 → at ≡ length s → cond wrong (Err WrongOpt) (Ok opt) ≡ all
  unfolding scanned records with_records
  scan_end none_left e = let zero_is : left ≡ 0 = omega arith in sym (rw (eq-eqb at (length s) e)) ∙ rw zero_is at so_far

  pub scan_over : left ≤ 0 → (at ≡ length s → ⊥) → Err Malformed ≡ all
  unfolding scanned records with_records
  scan_over none_left e = let zero_is : left ≡ 0 = omega arith in sym (rw (ne_eqb at (length s) e)) ∙ rw zero_is at so_far

  pub scan_wrong : left ≤ 0 → at ≡ length s → wrong ≡ true → Err WrongOpt ≡ all
  scan_wrong none_left e w = sym (rw w) ∙ scan_end none_left e

  pub scan_right : left ≤ 0 → at ≡ length s → wrong ≡ false → Ok opt ≡ all
  scan_right none_left e w = sym (rw w) ∙ scan_end none_left e

  push_other : (c : ℕ) (r : Record) (rest : Option (List Record)) → is_opt r ≡ false → scan c opt wrong (bind rest (λ rs. some (r ∷ rs))) ≡ scan (c - 1) opt wrong rest
  unfolding bind with_records
  push_other c r none other = refl
  push_other c r (some rs) other = rw other

  push_opt : (c : ℕ) (r : Record) (rest : Option (List Record)) → is_opt r ≡ true
      → scan c opt wrong (bind rest (λ rs. some (r ∷ rs))) ≡ scan (c - 1) (Some r) (wrong || is_wrong opt (eqb c 0) r) rest
  unfolding bind with_records
  push_opt c r none is = refl
  push_opt c r (some rs) is = rw is

  module _ (one_left : 0 < left) where
    one_more : scanned (left - a) opt wrong (suc (left - 1)) s at ≡ all
    one_more = let left_is : suc (left - 1) ≡ left = omega arith in rw left_is so_far

    pub scan_cut : none ≡ record_at s at → Err Malformed ≡ all
    unfolding scanned records bind
    scan_cut found = sym (rw (← found)) ∙ one_more

    module _ (r : Record) (there : some r ≡ record_at s at) where
      before_is : left - 1 - a ≡ left - a - 1
      before_is = omega arith

      pub scan_other : (r.kind ≡ 41 → ⊥) → scanned (left - 1 - a) opt wrong (left - 1) s r.end ≡ all
      unfolding scanned records bind
      scan_other other =
          let one : scan (left - a) opt wrong (records (suc (left - 1)) s at) ≡ scan (left - a - 1) opt wrong (records (left - 1) s r.end) =
          rw (← there) (push_other (left - a) r (records (left - 1) s r.end) (ne_eqb r.kind 41 other)) in
          rw before_is (sym one ∙ one_more)

      pub scan_opt : r.kind ≡ 41 → (w : Bool) → w ≡ is_wrong opt (ltb (left - 1) a) r → scanned (left - 1 - a) (Some r) (wrong || w) (left - 1) s r.end ≡ all
      unfolding scanned records bind
      scan_opt is w told =
          let one : scan (left - a) opt wrong (records (suc (left - 1)) s at)
          ≡ scan (left - a - 1) (Some r) (wrong || is_wrong opt (eqb (left - a) 0) r) (records (left - 1) s r.end) =
          rw (← there) (push_opt (left - a) r (records (left - 1) s r.end) (eq-eqb r.kind 41 is)) in
          rw (before_is, told, is_placed left a one_left) (sym one ∙ one_more)

-- ---- all of them: the OPT of the definition

wrong_stays : (b : ℕ) (opt : code.Option Record) (rs : List Record) → with_records b opt true rs ≡ Err WrongOpt
unfolding with_records
wrong_stays b opt [] = refl
wrong_stays b opt (r ∷ rs) = pick (wrong_stays (b - 1) (Some r) rs) (wrong_stays (b - 1) opt rs) (is_opt r)
  where
    pick : with_records (b - 1) (Some r) true rs ≡ Err WrongOpt → with_records (b - 1) opt true rs ≡ Err WrongOpt → (x : Bool)
        → cond x (with_records (b - 1) (Some r) true rs) (with_records (b - 1) opt true rs) ≡ Err WrongOpt
    pick one other true = one
    pick one other false = other

-- behind an OPT there must be none
abbrev unless_any : List Record → Outline → Outline
unless_any [] known = known
unless_any (r ∷ rs) known = Err WrongOpt

second_wrong : (b : ℕ) (q : Record) (rs : List Record) → with_records b (Some q) false rs ≡ unless_any (opts rs) (Ok (Some q))
unfolding with_records
second_wrong b q [] = refl
second_wrong b q (r ∷ rs) = pick (second_wrong (b - 1) q rs) (is_opt r)
  where
    pick : with_records (b - 1) (Some q) false rs ≡ unless_any (opts rs) (Ok (Some q)) → (x : Bool)
        → cond x (with_records (b - 1) (Some r) (is_wrong (Some q) (eqb b 0) r) rs) (with_records (b - 1) (Some q) false rs)
        ≡ unless_any (cond x (r ∷ opts rs) (opts rs)) (Ok (Some q))
    pick ih true = simp or-true (wrong_stays (b - 1) (Some r) rs)
    pick ih false = ih

abbrev pub outcome : Bool → List Record → Outline
outcome true os = Err WrongOpt
outcome false [] = Ok None
outcome false (r ∷ rs) = Ok (Some r)

-- the first OPT in its place, by its owner and those behind it
one_placed : (r : Record) (rs os : List Record) (owned : Bool) → with_records 0 (Some r) false rs ≡ unless_any os (Ok (Some r))
    → with_records 0 (Some r) (not owned || false) rs ≡ outcome (not owned || any_foreign os || is_second (r ∷ os)) (r ∷ os)
one_placed r rs os false behind = wrong_stays 0 (Some r) rs
one_placed r rs [] true behind = behind
one_placed r rs (q ∷ qs) true behind = behind ∙ ap (λ (x : Bool). outcome x (r ∷ q ∷ qs)) (sym (or-true (any_foreign (q ∷ qs))))

pub scan_is : (b : ℕ) (rs : List Record) → with_records b None false rs ≡ outcome (wrong_among b rs) (opts rs)
unfolding with_records wrong_among
scan_is zero [] = refl
scan_is (suc b) [] = refl
scan_is zero (r ∷ rs) = pick (scan_is zero rs) (is_opt r)
  where
    pick : with_records 0 None false rs ≡ outcome (any_foreign (opts rs) || is_second (opts rs)) (opts rs) → (x : Bool)
        → cond x (with_records 0 (Some r) (not r.root || false) rs) (with_records 0 None false rs)
        ≡ outcome (any_foreign (cond x (r ∷ opts rs) (opts rs)) || is_second (cond x (r ∷ opts rs) (opts rs))) (cond x (r ∷ opts rs) (opts rs))
    pick ih true = one_placed r rs (opts rs) r.root (second_wrong 0 r rs)
    pick ih false = ih
scan_is (suc b) (r ∷ rs) =
    let one_less : suc b - 1 ≡ b = omega arith in
    let not_yet : suc b ≡ 0 → ⊥ = λ e. omega (arith, e) in
    rw (one_less, ne_eqb (suc b) 0 not_yet) (pick (scan_is b rs) (is_opt r))
  where
    pick : with_records b None false rs ≡ outcome (is_any (opts (take b rs)) || any_foreign (opts rs) || is_second (opts rs)) (opts rs) → (x : Bool)
        → cond x (with_records b (Some r) true rs) (with_records b None false rs)
        ≡ outcome
        (is_any (cond x (r ∷ opts (take b rs)) (opts (take b rs))) || any_foreign (cond x (r ∷ opts rs) (opts rs)) || is_second (cond x (r ∷ opts rs) (opts rs)))
        (cond x (r ∷ opts rs) (opts rs))
    pick ih true = wrong_stays b (Some r) rs
    pick ih false = ih
