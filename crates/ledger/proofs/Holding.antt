-- A member's secrets, by the account of the steps that were accepted. Assumes nothing.
use Prim.Native.Nat.{ℕ, ◌-◌, ◌≤◌, ◌<◌}
use mathlib.Core.Path.{◌≡◌, refl, ap, ◌∙◌}
use mathlib.Core.Bool.{Bool, true, false, cond, ◌&&◌, ◌||◌, and-false}
use mathlib.Core.List.{List, [], ◌∷◌}
use mathlib.Core.Option.{some}
use native.Mathlib.Omega.{arith}
use lib.Dec.{eqb, leb}
use borrow.Author.Tests.{ltb-true, lt-ltb, le-ltb, leb-true}
use Rattle.secret.specs.declared.Secrets.{Secrets}
use Rattle.ledger.specs.declared.Step.{Step}
use Rattle.ledger.specs.Account.{account, started_by, count_by, open_by, opened_by, current_by, reached_by}
use Rattle.ledger.specs.Claims.{HeldBy}
use Rattle.ledger.specs.Journal.{START, OPEN, LEARN, DROP, is, is_member_step}
use Rattle.ledger.specs.Rules.{View, no_secret, stage_table, secrets_of}

-- the stage table's, at what is seen of a ledger
abbrev pub secrets_at : View → ℕ → Secrets
secrets_at v m = stage_table (v.stage m) v.current v.new

-- no step takes a member past stage 3
step_most : (s : Step) (m n : ℕ) → n ≤ 3 → cond (is_member_step s && eqb s.member m) (s.kind - OPEN) n ≤ 3
step_most s m n low = go (leb LEARN s.kind) (leb s.kind DROP) refl (eqb s.member m)
  where
    go : (a b : Bool) → leb s.kind DROP ≡ b → (c : Bool) → cond ((a && b) && c) (s.kind - OPEN) n ≤ 3
    go true true q true = omega (arith, leb-true s.kind DROP q)
    go true true q false = low
    go true false q c = low
    go false b q c = low

reached_most : (h : List Step) (m : ℕ) → reached_by h m ≤ 3
reached_most [] m = omega arith
reached_most (s ∷ h) m = go (leb s.kind OPEN) (step_most s m (reached_by h m) (reached_most h m))
  where
    go : (c : Bool) → cond (is_member_step s && eqb s.member m) (s.kind - OPEN) (reached_by h m) ≤ 3
        → cond c 0 (cond (is_member_step s && eqb s.member m) (s.kind - OPEN) (reached_by h m)) ≤ 3
    go true low = omega arith
    go false low = low

stage_most : (h : List Step) (m : ℕ) → (account h).stage m ≤ 3
unfolding account
stage_most h m = go (open_by h)
  where
    go : (c : Bool) → cond c (reached_by h m) 0 ≤ 3
    go true = reached_most h m
    go false = omega arith

-- where there is a number below the count there was a START
begun : (h : List Step) (m : ℕ) → m < count_by h → started_by h ≡ true
begun [] m low = absurd (omega arith)
begun (s ∷ h) m low = go (begun h m) (is START s) low
  where
    go : (m < count_by h → started_by h ≡ true) → (c : Bool) → m < cond c s.member (count_by h) → c || started_by h ≡ true
    go ih true low = refl
    go ih false low = ih low

module _ (h : List Step) (m : ℕ) where
  -- so its member holds the stage table's secrets
  holds_table : m < count_by h → secrets_of (account h) m ≡ some (secrets_at (account h) m)
  unfolding account secrets_of
  holds_table low = rw (begun h m low, lt-ltb m (count_by h) low)

  -- with nothing open all are at stage 0, where the new secret is not looked at; otherwise it is that of the last OPEN
  by_opened : secrets_at (account h) m ≡ stage_table ((account h).stage m) (current_by h) (opened_by h)
  unfolding account
  by_opened = go (open_by h)
    where
      go : (c : Bool) → stage_table (cond c (reached_by h m) 0) (current_by h) (cond c (opened_by h) no_secret)
          ≡ stage_table (cond c (reached_by h m) 0) (current_by h) (opened_by h)
      go true = refl
      go false = refl

  -- so a member at a stage holds what the table has for it, by the steps alone
  held_at : (n : ℕ) → m < count_by h → (account h).stage m ≡ n → secrets_of (account h) m ≡ some (stage_table n (current_by h) (opened_by h))
  held_at n low at = holds_table low ∙ ap some by_opened ∙ ap (λ (k : ℕ). some (stage_table k (current_by h) (opened_by h))) at

  -- the claim's record: who is not below the count holds nothing
  pub held_by : HeldBy h m (secrets_of (account h) m)
  unfolding account secrets_of
  held_by = record {
    at_most = stage_most h m;
    none_held = λ high. rw (le-ltb m (count_by h) high, and-false (started_by h));
    at_0 = held_at 0;
    at_1 = held_at 1;
    at_2 = held_at 2;
    at_3 = held_at 3;
  }

  -- whoever is seen to be a member holds some
  pub member_holds : (account h).present m ≡ true → (held : Secrets) × (secrets_of (account h) m ≡ some held)
  unfolding account
  member_holds here = (secrets_at (account h) m, holds_table (ltb-true m (count_by h) here))
