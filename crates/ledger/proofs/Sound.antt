-- What every accepted step keeps of members and their stages, for every wait, and the claim `EverybodyAccepts`. Assumes nothing.
use Prim.Native.Nat.{ℕ, zero, suc, ◌+◌, ◌≤◌}
use mathlib.Core.Path.{◌≡◌, refl, sym, ap, subst}
use mathlib.Core.Bool.{Bool, true, false, cond, ◌&&◌}
use mathlib.Core.List.{List, []}
use mathlib.Core.Logic.{inl, inr}
use mathlib.Core.Option.{none, some}
use native.Mathlib.Omega.{arith}
use lib.Dec.{eqb, leb}
use borrow.Author.Tests.{leb-true, leb-false, eqb-true}
use Rattle.secret.specs.Secrets.{generating_of}
use Rattle.secret.specs.declared.Secret.{Secret}
use Rattle.secret.specs.declared.Secrets.{Secrets}
use Rattle.ledger.specs.declared.Step.{Step}
use Rattle.ledger.specs.Account.{account}
use Rattle.ledger.specs.Claims.{step_of, StageByStage, Accepts, EverybodyAccepts}
use Rattle.ledger.specs.Journal.{LEARN, SWITCH, DROP}
use Rattle.ledger.specs.Ledger.{view_of}
use Rattle.ledger.specs.Rules.{View, refusal, stage_table, secrets_of}
use Rattle.ledger.specs.Run.{ledger_after, history}
use Rattle.ledger.proofs.EachKind.{OfKind, EachKind, by_kind}
use Rattle.ledger.proofs.Facts.{Small, Steps, not_shut, learn_facts, switch_facts, drop_facts, drop_waited, all_learnt, all_switched}
use Rattle.ledger.proofs.Move.{put, steps, move, drop_either, Accepted, of_account}
use Rattle.ledger.proofs.People.{Peopled, peopled, peopled_fresh}
use Rattle.ledger.proofs.Holding.{secrets_at, member_holds}
use Rattle.ledger.proofs.Along.{follows}

-- ---- the stages after one member's step: its own, and those that stay

pub data Placed (f : ℕ → ℕ) (m n k : ℕ) : Type 0 where
  own : m ≡ k → put f m n k ≡ n → Placed f m n k
  as_before : put f m n k ≡ f k → Placed f m n k

pub placed : (f : ℕ → ℕ) (m n k : ℕ) → Placed f m n k
placed f m n k = go (eqb m k) refl
  where
    go : (c : Bool) → eqb m k ≡ c → Placed f m n k
    go true q = own (eqb-true m k q) (rw q)
    go false q = as_before (rw q)

-- no member goes back
pub put_up : (f : ℕ → ℕ) (m n k : ℕ) → f m ≤ n → f k ≤ put f m n k
put_up f m n k up = go (placed f m n k)
  where
    go : Placed f m n k → f k ≤ put f m n k
    go (own p q) = omega (arith, ap f p)
    go (as_before q) = omega arith

-- ---- stage by stage

-- with all at 0
pub at_zero : {w : ℕ} (v : View) → ((k : ℕ) → v.stage k ≡ 0) → StageByStage w v
at_zero v z = record {
  at_rest = λ q. z;
  at_most = λ k. omega (arith, z k);
  learnt = λ m k _ _ far. absurd (omega (arith, z m));
  switched = λ m k _ _ far. absurd (omega (arith, z m));
  waited = λ m _ far. absurd (omega (arith, z m));
}

module _ {w : ℕ} (v : View) (i : StageByStage w v) where
  -- a member goes from the stage n to the next: all are at n or past it; from 2, after the wait
  module _ (s : Step) (n at : ℕ) (x : Steps v s.member n) (low : n ≤ 2) (gate : (k : ℕ) → v.present k ≡ true → n ≤ v.stage k)
      (rest : 2 ≤ n → at + w ≤ s.time) where
    abbrev after : ℕ → ℕ
    after = put v.stage s.member (suc n)

    abbrev At : ℕ → Type 0
    At k = Placed v.stage s.member (suc n) k

    up : (k : ℕ) → v.stage k ≤ after k
    up k = put_up v.stage s.member (suc n) k (omega (arith, x.at))

    three : (k : ℕ) → At k → after k ≤ 3
    three k (own p q) = omega arith
    three k (as_before q) = omega (arith, i.at_most k)

    learnt : (m k : ℕ) → v.present m ≡ true → v.present k ≡ true → At m → 2 ≤ after m → 1 ≤ after k
    learnt m k hm hk (own p q) far = omega (arith, gate k hk, up k)
    learnt m k hm hk (as_before q) far = omega (arith, i.learnt m k hm hk (omega arith), up k)

    switched : (m k : ℕ) → v.present m ≡ true → v.present k ≡ true → At m → 3 ≤ after m → 2 ≤ after k
    switched m k hm hk (own p q) far = omega (arith, gate k hk, up k)
    switched m k hm hk (as_before q) far = omega (arith, i.switched m k hm hk (omega arith), up k)

    waited : (m : ℕ) → v.present m ≡ true → At m → 3 ≤ after m → at + w ≤ s.time
    waited m hm (own p q) far = rest (omega arith)
    waited m hm (as_before q) far = rest (omega (arith, i.switched m s.member hm x.member (omega arith), x.at))

    stepped_on : StageByStage w (steps v s (suc n) at)
    stepped_on = record {
      at_rest = λ q. absurd (not_shut x q);
      at_most = λ k. three k (placed v.stage s.member (suc n) k);
      learnt = λ m k hm hk. learnt m k hm hk (placed v.stage s.member (suc n) m);
      switched = λ m k hm hk. switched m k hm hk (placed v.stage s.member (suc n) m);
      waited = λ m hm. waited m hm (placed v.stage s.member (suc n) m);
    }

  module _ (small : Small v.present) where
    abbrev Stays : Step → Type 0
    Stays s = StageByStage w (move v s)

    stays_learn : OfKind w v Stays LEARN
    unfolding move
    stays_learn m t b e =
        stepped_on (step_of LEARN m t b) 0 v.last_switch (learn_facts w v m t b e) (omega arith) (λ k here. omega arith) (λ far. absurd (omega arith))

    stays_switch : OfKind w v Stays SWITCH
    unfolding move
    stays_switch m t b e =
        stepped_on (step_of SWITCH m t b) 1 t (switch_facts w v m t b e) (omega arith) (all_learnt w v small m t b e) (λ far. absurd (omega arith))

    stays_drop : OfKind w v Stays DROP
    stays_drop m t b e =
        drop_either (StageByStage w) v m t b (λ q. at_zero _ (λ k. refl))
        (λ q.
        stepped_on (step_of DROP m t b) 2 v.last_switch (drop_facts w v m t b e) (omega arith) (all_switched w v small m t b e) (λ far. drop_waited w v m t b e))

    each_stays : EachKind w v Stays
    unfolding move
    each_stays = record {
      starts = λ m t b e. at_zero _ (λ k. refl);
      opens = λ m t b e. at_zero _ (λ k. refl);
      learns = stays_learn;
      switches = stays_switch;
      drops = stays_drop;
      cancels = λ m t b e. at_zero _ (λ k. refl);
    }

-- what holds of every ledger that accepted steps give
pub record Sound (w : ℕ) (v : View) : Type 0 where
  pub people : Peopled v
  pub stages : StageByStage w v

pub sound : {w : ℕ} (v : View) (s : Step) → refusal w v s ≡ 0 → Sound w v → Sound w (move v s)
sound {w} v s e i = record {
  people = peopled w v s e i.people;
  stages = by_kind (each_stays v i.stages i.people.small) s e;
}

sound_fresh : {w : ℕ} → Sound w (account [])
unfolding account
sound_fresh = record { people = peopled_fresh; stages = at_zero _ (λ k. refl) }

pub sound_account : {w : ℕ} {h : List Step} → Accepted w h → Sound w (account h)
sound_account {w} = of_account (Sound w) sound_fresh sound

-- ---- who accepts what

-- the current secret up to stage 2, the new one from stage 1
pub accepts_current : (n : ℕ) (current new : Secret) → n ≤ 2 → Accepts (stage_table n current new) current
accepts_current zero current new low = inl refl
accepts_current (suc zero) current new low = inl refl
accepts_current (suc (suc zero)) current new low = inr refl
accepts_current (suc (suc (suc n))) current new low = absurd (omega arith)

pub accepts_new : (n : ℕ) (current new : Secret) → 1 ≤ n → Accepts (stage_table n current new) new
accepts_new zero current new far = absurd (omega arith)
accepts_new (suc zero) current new far = inr refl
accepts_new (suc (suc zero)) current new far = inl refl
accepts_new (suc (suc (suc n))) current new far = inl refl

-- who holds secrets is a member, and holds the stage table's
pub holds : (v : View) (m : ℕ) (held : Secrets) → secrets_of v m ≡ some held → (v.present m ≡ true) × (secrets_at v m ≡ held)
unfolding secrets_of
holds v m held e = go v.started (v.present m) refl e
  where
    go : (c d : Bool) → v.present m ≡ d → cond (c && d) (some (secrets_at v m)) none ≡ some held → (v.present m ≡ true) × (secrets_at v m ≡ held)
    go true true here e = (here, cc)
    go true false here e = let z : ◌≡◌ {A = ℕ} 0 1 = cc in absurd (omega arith)
    go false d here e = let z : ◌≡◌ {A = ℕ} 0 1 = cc in absurd (omega arith)

-- everybody accepts what anybody makes with
module _ {w : ℕ} (v : View) (i : StageByStage w v) (m k : ℕ) (maker : v.present m ≡ true) (holder : v.present k ≡ true) where
  -- where one makes with the current secret nobody has dropped it
  undropped : v.stage m ≤ 1 → v.stage k ≤ 2
  undropped low = go (leb (v.stage k) 2) refl
    where
      go : (c : Bool) → leb (v.stage k) 2 ≡ c → v.stage k ≤ 2
      go true q = leb-true (v.stage k) 2 q
      go false q = absurd (omega (arith, i.switched k m holder maker (leb-false (v.stage k) 2 q)))

  pub accepts_made : Accepts (secrets_at v k) (generating_of (secrets_at v m))
  accepts_made = go (v.stage m) refl
    where
      go : (n : ℕ) → v.stage m ≡ n → Accepts (secrets_at v k) (generating_of (stage_table n v.current v.new))
      go zero at = accepts_current (v.stage k) v.current v.new (undropped (omega arith))
      go (suc zero) at = accepts_current (v.stage k) v.current v.new (undropped (omega arith))
      go (suc (suc zero)) at = accepts_new (v.stage k) v.current v.new (i.learnt m k maker holder (omega arith))
      go (suc (suc (suc n))) at = accepts_new (v.stage k) v.current v.new (i.learnt m k maker holder (omega arith))

agreed : {w : ℕ} (v : View) → StageByStage w v → (m k : ℕ) (makers others : Secrets) → secrets_of v m ≡ some makers → secrets_of v k ≡ some others
    → Accepts others (generating_of makers)
agreed v i m k makers others maker holder =
    let a = holds v m makers maker in
    let b = holds v k others holder in
    subst (λ (x : Secrets). Accepts x (generating_of makers)) b.1
    (subst (λ (x : Secrets). Accepts (secrets_at v k) (generating_of x)) a.1 (accepts_made v i m k a.0 b.0))

-- every member holds secrets
abbrev AllHold : View → Type 0
AllHold v = (m : ℕ) → v.present m ≡ true → (held : Secrets) × (secrets_of v m ≡ some held)

pub everybody_accepts : EverybodyAccepts
everybody_accepts w records =
    let f = follows w records in
    let stages = subst (StageByStage w) (sym f.seen) (sound_account f.steps).stages in
    record {
      stages = stages;
      holds = subst AllHold (sym f.seen) (member_holds (history w records));
      accepts = agreed (view_of (ledger_after w records)) stages;
    }
