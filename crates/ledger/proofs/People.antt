-- Who the members are, at every ledger that accepted steps give. Assumes nothing.
use Prim.Native.Nat.{ℕ}
use mathlib.Core.Path.{◌≡◌}
use mathlib.Core.Bool.{Bool, true, false≢true}
use mathlib.Core.List.{List, []}
use native.Mathlib.Omega.{arith}
use borrow.Author.Tests.{ltb-true, lt-ltb}
use Rattle.ledger.specs.declared.Step.{Step}
use Rattle.ledger.specs.Account.{account}
use Rattle.ledger.specs.Journal.{START}
use Rattle.ledger.specs.Rules.{View, refusal}
use Rattle.ledger.proofs.EachKind.{OfKind, EachKind, by_kind}
use Rattle.ledger.proofs.Facts.{Small, start_facts}
use Rattle.ledger.proofs.Move.{move, drop_either, Accepted, of_account}

-- their numbers are small, and a fleet that is started has one
pub record Members (started : Bool) (present : ℕ → Bool) : Type 0 where
  pub small : Small present
  pub someone : started ≡ true → (k : ℕ) × (present k ≡ true)

abbrev pub Peopled : View → Type 0
Peopled v = Members v.started v.present

module _ (w : ℕ) (v : View) (p : Peopled v) where
  abbrev Stays : Step → Type 0
  Stays s = Peopled (move v s)

  first_members : OfKind w v Stays START
  unfolding move
  first_members m t b e =
      let x = start_facts w v m t b e in
      record { small = λ k here. omega (arith, ltb-true k m here); someone = λ q. (0, lt-ltb 0 m x.some_member) }

  each_stays : EachKind w v Stays
  unfolding move
  each_stays = record {
    starts = first_members;
    opens = λ m t b e. p;
    learns = λ m t b e. p;
    switches = λ m t b e. p;
    drops = λ m t b e. drop_either Peopled v m t b (λ q. p) (λ q. p);
    cancels = λ m t b e. p;
  }

-- every accepted step keeps it so
pub peopled : (w : ℕ) (v : View) (s : Step) → refusal w v s ≡ 0 → Peopled v → Peopled (move v s)
peopled w v s e p = by_kind (each_stays w v p) s e

pub peopled_fresh : Peopled (account [])
unfolding account
peopled_fresh = record { small = λ k here. absurd (omega (arith, ltb-true k 0 here)); someone = λ q. absurd (false≢true q) }

pub peopled_account : {w : ℕ} {h : List Step} → Accepted w h → Peopled (account h)
peopled_account {w} = of_account Peopled peopled_fresh (peopled w)
