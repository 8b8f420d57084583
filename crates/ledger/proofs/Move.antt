-- What an accepted step makes of what is seen of a ledger, by the step's kind, and that the account makes that move. Assumes nothing.
use Prim.Native.Nat.{ℕ}
use mathlib.Core.Path.{◌≡◌, refl, sym, subst, ◌∙◌}
use mathlib.Core.Bool.{Bool, true, false, cond}
use mathlib.Core.List.{List, [], ◌∷◌}
use lib.Dec.{eqb, ltb}
use Rattle.secret.specs.declared.Secret.{Secret}
use Rattle.stages.specs.Stages.{all_dropped}
use Rattle.ledger.specs.declared.Step.{Step}
use Rattle.ledger.specs.Claims.{step_of}
use Rattle.ledger.specs.Journal.{START, OPEN, LEARN, SWITCH, DROP, is}
use Rattle.ledger.specs.Rules.{View, refusal, no_secret}
use Rattle.ledger.specs.Account.{account, open_by, present_by, reached_by, closes}
use Rattle.ledger.proofs.EachKind.{OfKind, EachKind, by_kind}
use Rattle.ledger.proofs.Facts.{learn_facts, switch_facts, drop_facts}

-- ---- the moves

-- START: the members are the numbers below the count
abbrev pub starts : View → Step → View
starts v s = record {
  started = true;
  present = λ k. ltb k s.member;
  current = s.secret;
  rolling = false;
  new = no_secret;
  stage = λ k. 0;
  last = s.time;
  last_switch = v.last_switch;
}

-- OPEN
abbrev pub opens : View → Step → View
opens v s = record {
  started = v.started;
  present = v.present;
  current = v.current;
  rolling = true;
  new = s.secret;
  stage = λ k. 0;
  last = s.time;
  last_switch = v.last_switch;
}

-- the stages, with a member at n
abbrev pub put : (ℕ → ℕ) → ℕ → ℕ → ℕ → ℕ
put f m n = λ k. cond (eqb m k) n (f k)

-- the member of a step is at n, and the last SWITCH was at that time
abbrev pub steps : View → Step → ℕ → ℕ → View
steps v s n at = record {
  started = v.started;
  present = v.present;
  current = v.current;
  rolling = v.rolling;
  new = v.new;
  stage = put v.stage s.member n;
  last = s.time;
  last_switch = at;
}

-- nothing is open any more, and this secret is current
abbrev pub shuts : View → Step → Secret → View
shuts v s current = record {
  started = v.started;
  present = v.present;
  current = current;
  rolling = false;
  new = no_secret;
  stage = λ k. 0;
  last = s.time;
  last_switch = v.last_switch;
}

-- with this member's DROP all have dropped
abbrev pub drops_all : View → ℕ → Bool
drops_all v m = all_dropped v.present (put v.stage m 3)

-- by the kind
unfoldable pub move : View → Step → View
move v s =
    cond (is START s) (starts v s)
    (cond (is OPEN s) (opens v s)
    (cond (is LEARN s) (steps v s 1 v.last_switch)
    (cond (is SWITCH s) (steps v s 2 s.time)
    (cond (is DROP s) (cond (drops_all v s.member) (shuts v s v.new) (steps v s 3 v.last_switch))
    (shuts v s v.current)))))

-- a DROP shuts the rollover, or it is one more step
pub drop_either : (P : View → Type 0) (v : View) (m t : ℕ) (b : Secret) → (drops_all v m ≡ true → P (shuts v (step_of DROP m t b) v.new))
    → (drops_all v m ≡ false → P (steps v (step_of DROP m t b) 3 v.last_switch)) → P (move v (step_of DROP m t b))
unfolding move
drop_either P v m t b last more = go (drops_all v m) refl
  where
    go : (c : Bool) → drops_all v m ≡ c → P (move v (step_of DROP m t b))
    go true q = rw q (last q)
    go false q = rw q (more q)

-- two views are equal if their parts are, members and stages one by one
pub view_path : (v u : View) → v.started ≡ u.started → ((k : ℕ) → v.present k ≡ u.present k) → v.current ≡ u.current → v.rolling ≡ u.rolling
    → v.new ≡ u.new → ((k : ℕ) → v.stage k ≡ u.stage k) → v.last ≡ u.last → v.last_switch ≡ u.last_switch → v ≡ u
view_path v u started present current rolling new stage last last_switch = λ i. record {
  started = started i;
  present = λ k. present k i;
  current = current i;
  rolling = rolling i;
  new = new i;
  stage = λ k. stage k i;
  last = last i;
  last_switch = last_switch i;
}

-- ---- the account makes the move

module _ (w : ℕ) (h : List Step) where
  abbrev Moves : Step → Type 0
  Moves s = account (s ∷ h) ≡ move (account h) s

  learn_move : OfKind w (account h) Moves LEARN
  unfolding account move
  learn_move m t b e = let o = (learn_facts w (account h) m t b e).rolling in view_path _ _ refl (λ k. refl) refl (rw o) (rw o) (λ k. rw o) refl refl

  switch_move : OfKind w (account h) Moves SWITCH
  unfolding account move
  switch_move m t b e = let o = (switch_facts w (account h) m t b e).rolling in view_path _ _ refl (λ k. refl) refl (rw o) (rw o) (λ k. rw o) refl refl

  -- the account's test for the last DROP is the view's
  closes_all : open_by h ≡ true → (m t : ℕ) (b : Secret) → drops_all (account h) m ≡ closes (step_of DROP m t b) h
  unfolding account
  closes_all o m t b = λ i. all_dropped (present_by h) (λ k. stages k i)
    where
      stages : (k : ℕ) → put (account h).stage m 3 k ≡ reached_by (step_of DROP m t b ∷ h) k
      stages k = rw o

  drop_move : OfKind w (account h) Moves DROP
  unfolding account move
  drop_move m t b e = go (closes (step_of DROP m t b) h) refl
    where
      o : open_by h ≡ true
      o = (drop_facts w (account h) m t b e).rolling

      go : (c : Bool) → closes (step_of DROP m t b) h ≡ c → Moves (step_of DROP m t b)
      go true q = rw (closes_all o m t b ∙ q) (view_path _ _ refl (λ k. refl) (rw (o, q)) (rw (o, q)) (rw (o, q)) (λ k. rw (o, q)) refl refl)
      go false q = rw (closes_all o m t b ∙ q) (view_path _ _ refl (λ k. refl) (rw q) (rw (o, q)) (rw (o, q)) (λ k. rw (o, q)) refl refl)

  each_moves : EachKind w (account h) Moves
  unfolding account move
  each_moves = record {
    starts = λ m t b e. refl;
    opens = λ m t b e. refl;
    learns = learn_move;
    switches = switch_move;
    drops = drop_move;
    cancels = λ m t b e. refl;
  }

pub account_move : (w : ℕ) (h : List Step) (s : Step) → refusal w (account h) s ≡ 0 → account (s ∷ h) ≡ move (account h) s
account_move w h = by_kind (each_moves w h)

-- ---- along accepted steps

-- steps that are accepted one after the other, the newest first
pub data Accepted (w : ℕ) : List Step → Type 0 where
  nothing_yet : Accepted w []
  and_then : {h : List Step} (s : Step) → Accepted w h → refusal w (account h) s ≡ 0 → Accepted w (s ∷ h)

-- what holds before the first, and is kept by every accepted step, holds of the account
pub of_account : {w : ℕ} (P : View → Type 0) → P (account []) → ((v : View) (s : Step) → refusal w v s ≡ 0 → P v → P (move v s)) → {h : List Step}
    → Accepted w h → P (account h)
of_account P fresh keep nothing_yet = fresh
of_account {w} P fresh keep (and_then {h = h} s a e) = subst P (sym (account_move w h s e)) (keep (account h) s e (of_account P fresh keep a))
