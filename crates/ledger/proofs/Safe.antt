-- Why a cookie stays good, for every wait: what holds of a secret with which somebody made a cookie at a time, that every accepted step from that time on keeps it, and
-- that every member accepts the secret until the wait after the making is over. Assumes nothing.
use Prim.Native.Nat.{ℕ, zero, suc, ◌+◌, ◌≤◌, ◌<◌}
use mathlib.Core.Path.{◌≡◌, refl, sym, subst, ◌∙◌}
use mathlib.Core.Bool.{Bool, true, false, true≢false, false≢true}
use native.Mathlib.Omega.{arith}
use lib.Dec.{leb}
use borrow.Author.Tests.{leb-true, leb-false, eq-eqb}
use Rattle.secret.specs.Secrets.{generating_of}
use Rattle.secret.specs.declared.Secret.{Secret}
use Rattle.ledger.specs.declared.Step.{Step}
use Rattle.ledger.specs.Claims.{step_of, Accepts}
use Rattle.ledger.specs.Journal.{LEARN, SWITCH, DROP}
use Rattle.ledger.specs.Rules.{View, refusal, stage_table}
use Rattle.ledger.proofs.EachKind.{OfKind, EachKind, by_kind}
use Rattle.ledger.proofs.Facts.{Steps, in_time, start_facts, open_facts, learn_facts, switch_facts, drop_facts, drop_waited, all_switched, none_switched}
use Rattle.ledger.proofs.Move.{put, steps, move, drop_either}
use Rattle.ledger.proofs.Holding.{secrets_at}
use Rattle.ledger.proofs.Sound.{put_up, Sound, accepts_current, accepts_new}

-- ---- the last time is the accepted step's

each_last : (w : ℕ) (v : View) → EachKind w v (λ s. (move v s).last ≡ s.time)
unfolding move
each_last w v = record {
  starts = λ m t b e. refl;
  opens = λ m t b e. refl;
  learns = λ m t b e. refl;
  switches = λ m t b e. refl;
  drops = λ m t b e. drop_either (λ (u : View). u.last ≡ t) v m t b (λ q. refl) (λ q. refl);
  cancels = λ m t b e. refl;
}

pub last_time : (w : ℕ) (v : View) (s : Step) → refusal w v s ≡ 0 → (move v s).last ≡ s.time
last_time w v = by_kind (each_last w v)

-- ---- a secret with which somebody made a cookie at the time t

-- where all have switched in an open rollover, the last SWITCH was not before that time
abbrev pub SwitchedSince : View → ℕ → Type 0
SwitchedSince v t = v.rolling ≡ true → ((k : ℕ) → v.present k ≡ true → 2 ≤ v.stage k) → t ≤ v.last_switch

pub data Safe (w : ℕ) (v : View) (g : Secret) (t : ℕ) : Type 0 where
  -- it is the current one, which a member accepts until its DROP. That is accepted only when all have switched, and waits from the last SWITCH, so from the making or later
  current_safe : v.started ≡ true → v.current ≡ g → SwitchedSince v t → Safe w v g t
  -- it is the new one, and everybody accepts it. Somebody makes with it, so that no CANCEL is accepted: the rollover stays open until it makes this secret current
  new_safe : v.started ≡ true → v.rolling ≡ true → v.new ≡ g → ((k : ℕ) → v.present k ≡ true → 1 ≤ v.stage k)
      → (j : ℕ) → v.present j ≡ true → 2 ≤ v.stage j → Safe w v g t
  -- the wait after the making is over, and nobody need accept it any more
  too_old : t + w ≤ v.last → Safe w v g t

-- ---- every accepted step from that time on keeps it safe

module _ {w : ℕ} {v : View} (i : Sound w v) {g : Secret} {made : ℕ} (begun : v.started ≡ true) where
  -- while it is current
  module _ (is : v.current ≡ g) (since : SwitchedSince v made) where
    abbrev Keeps : Step → Type 0
    Keeps s = made ≤ s.time → Safe w (move v s) g made

    -- who has learnt has yet to switch
    keeps_learn : OfKind w v Keeps LEARN
    unfolding move
    keeps_learn m t b e later =
        current_safe begun is (λ o all. absurd (omega (arith, rw (eq-eqb m m refl) at (all m (learn_facts w v m t b e).member))))

    -- all have switched, and the wait is over
    keeps_drop : OfKind w v Keeps DROP
    keeps_drop m t b e later =
        let switch = since (drop_facts w v m t b e).rolling (all_switched w v i.people.small m t b e) in
        drop_either (λ (u : View). Safe w u g made) v m t b (λ q. too_old (omega (arith, drop_waited w v m t b e))) (λ q. current_safe begun is (λ o all. switch))

    each_keeps : EachKind w v Keeps
    unfolding move
    each_keeps = record {
      starts = λ m t b e later. absurd (true≢false (sym begun ∙ (start_facts w v m t b e).unstarted));
      opens = λ m t b e later. let who = i.people.someone begun in current_safe begun is (λ o all. absurd (omega (arith, all who.0 who.1)));
      learns = keeps_learn;
      switches = λ m t b e later. current_safe begun is (λ o all. later);
      drops = keeps_drop;
      cancels = λ m t b e later. current_safe begun is (λ o all. absurd (false≢true o));
    }

  -- while it is new
  module _ (rolling : v.rolling ≡ true) (is : v.new ≡ g) (learnt : (k : ℕ) → v.present k ≡ true → 1 ≤ v.stage k)
      (j : ℕ) (here : v.present j ≡ true) (far : 2 ≤ v.stage j) where
    -- no member goes back
    stays_new : (s : Step) (n at : ℕ) → Steps v s.member n → Safe w (steps v s (suc n) at) g made
    stays_new s n at x =
        let up : (k : ℕ) → v.stage k ≤ put v.stage s.member (suc n) k = λ k. put_up v.stage s.member (suc n) k (omega (arith, x.at)) in
        new_safe begun rolling is (λ k there. omega (arith, learnt k there, up k)) j here (omega (arith, up j))

    each_stays_new : EachKind w v (λ s. Safe w (move v s) g made)
    unfolding move
    each_stays_new = record {
      starts = λ m t b e. absurd (true≢false (sym begun ∙ (start_facts w v m t b e).unstarted));
      opens = λ m t b e. absurd (true≢false (sym rolling ∙ (open_facts w v m t b e).shut));
      learns = λ m t b e. stays_new (step_of LEARN m t b) 0 v.last_switch (learn_facts w v m t b e);
      switches = λ m t b e. stays_new (step_of SWITCH m t b) 1 t (switch_facts w v m t b e);
      drops = λ m t b e.
          drop_either (λ (u : View). Safe w u g made) v m t b (λ q. current_safe begun is (λ o all. absurd (false≢true o)))
          (λ q. stays_new (step_of DROP m t b) 2 v.last_switch (drop_facts w v m t b e));
      cancels = λ m t b e. absurd (omega (arith, none_switched w v i.people.small m t b e j here (i.stages.at_most j)));
    }

pub saves : {w : ℕ} {v : View} {g : Secret} {t : ℕ} → Sound w v → (s : Step) → t ≤ s.time → refusal w v s ≡ 0 → Safe w v g t → Safe w (move v s) g t
saves i s later e (current_safe begun is since) = by_kind (each_keeps i begun is since) s e later
saves i s later e (new_safe begun rolling is learnt j here far) = by_kind (each_stays_new i begun rolling is learnt j here far) s e
saves {w} {v} i s later e (too_old over) = too_old (omega (arith, in_time w v s e, last_time w v s e))

-- ---- what a member makes with is safe

-- who is past stage 0 is in an open rollover
rolls : {w : ℕ} {v : View} → Sound w v → (m : ℕ) → 1 ≤ v.stage m → v.rolling ≡ true
rolls {w} {v} i m far = go v.rolling refl
  where
    go : (c : Bool) → v.rolling ≡ c → v.rolling ≡ true
    go true q = q
    go false q = absurd (omega (arith, i.stages.at_rest q m))

-- a member that makes with the current secret has yet to switch; where one makes with the new secret everybody accepts it
pub safe_made : {w : ℕ} {v : View} → Sound w v → v.started ≡ true → (m : ℕ) → v.present m ≡ true → (t : ℕ) → Safe w v (generating_of (secrets_at v m)) t
safe_made {w} {v} i begun m here t = go (v.stage m) refl
  where
    with_current : v.stage m ≤ 1 → Safe w v v.current t
    with_current low = current_safe begun refl (λ o all. absurd (omega (arith, all m here)))

    with_new : 2 ≤ v.stage m → Safe w v v.new t
    with_new far = new_safe begun (rolls i m (omega arith)) refl (λ k there. i.stages.learnt m k here there far) m here far

    go : (n : ℕ) → v.stage m ≡ n → Safe w v (generating_of (stage_table n v.current v.new)) t
    go zero at = with_current (omega arith)
    go (suc zero) at = with_current (omega arith)
    go (suc (suc zero)) at = with_new (omega arith)
    go (suc (suc (suc n))) at = with_new (omega arith)

-- ---- everybody accepts what is safe, until the wait after the making is over

-- who has dropped the current secret waited from a SWITCH that was not before the making
dropped_late : {w : ℕ} {v : View} → Sound w v → (m t : ℕ) → v.present m ≡ true → 3 ≤ v.stage m → SwitchedSince v t → t + w ≤ v.last
dropped_late i m t here far since =
    omega (arith, since (rolls i m (omega arith)) (λ k there. i.stages.switched m k here there far), i.stages.waited m here far)

pub accepts_safe : {w : ℕ} {v : View} {g : Secret} {t : ℕ} → Sound w v → Safe w v g t → (now : ℕ) → v.last ≤ now → now < t + w
    → (m : ℕ) → v.present m ≡ true → Accepts (secrets_at v m) g
accepts_safe {w} {v} {g} {t} i (current_safe begun is since) now reached soon m here = go (leb (v.stage m) 2) refl
  where
    go : (c : Bool) → leb (v.stage m) 2 ≡ c → Accepts (secrets_at v m) g
    go true q = subst (Accepts (secrets_at v m)) is (accepts_current (v.stage m) v.current v.new (leb-true (v.stage m) 2 q))
    go false q = absurd (omega (arith, dropped_late i m t here (leb-false (v.stage m) 2 q) since))
accepts_safe {w} {v} i (new_safe begun rolling is learnt j there far) now reached soon m here =
    subst (Accepts (secrets_at v m)) is (accepts_new (v.stage m) v.current v.new (learnt m here))
accepts_safe i (too_old over) now reached soon m here = absurd (omega arith)
