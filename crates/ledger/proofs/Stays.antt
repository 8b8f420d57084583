-- The claims `LongerIsEnough` and `WaitIsEnough`: what anybody makes with stays accepted for as long as a cookie is good. Assumes nothing.
use Prim.Native.Nat.{ℕ, zero, suc, ◌+◌, ◌≤◌, ◌<◌}
use mathlib.Core.Path.{◌≡◌, refl, sym, subst, ◌∙◌}
use mathlib.Core.Bool.{Bool, true, false, cond, ◌&&◌}
use mathlib.Core.List.{List, [], ◌∷◌, ◌++◌}
use mathlib.Core.Option.{none, some}
use native.Mathlib.Omega.{arith}
use lib.Dec.{eqb-suc-zero}
use Rattle.secret.specs.Secrets.{generating_of}
use Rattle.secret.specs.declared.Secret.{Secret}
use Rattle.secret.specs.declared.Secrets.{Secrets}
use Rattle.ledger.specs.declared.Ledger.{Ledger}
use Rattle.ledger.specs.declared.Step.{Step}
use Rattle.ledger.specs.Account.{account}
use Rattle.ledger.specs.Claims.{AllFrom, Accepts, WaitIsEnough, LongerIsEnough}
use Rattle.ledger.specs.Journal.{read_step}
use Rattle.ledger.specs.Ledger.{view_of, fresh_ledger}
use Rattle.ledger.specs.Rules.{View, wait, refusal, secrets_of}
use Rattle.ledger.specs.Run.{offered, run, after, accepted, ledger_after, history}
use Rattle.ledger.proofs.Along.{answer_is, grown, Follows, follows_on, follows_along, follows}
use Rattle.ledger.proofs.Holding.{secrets_at}
use Rattle.ledger.proofs.Move.{account_move}
use Rattle.ledger.proofs.Safe.{Safe, saves, safe_made, accepts_safe}
use Rattle.ledger.proofs.Sound.{sound_account, holds}

-- ---- along the records

module _ (w made : ℕ) (g : Secret) where
  -- a secret that is safe by the account of the accepted steps
  abbrev SafeBy : List Step → Type 0
  SafeBy h = Safe w (account h) g made

  -- one record more, by its answer
  safe_on : (n : ℕ) (l : Ledger) (h : List Step) (bytes : List ℕ) → (offered w l bytes).answer ≡ n → ((offered w l bytes).answer ≡ 0 → made ≤ (read_step bytes).time) → Follows w l h
      → SafeBy h → SafeBy (grown w l bytes h)
  safe_on zero l h bytes e from f safe =
      let s = read_step bytes in
      let by_account : refusal w (account h) s ≡ 0 = subst (λ (v : View). refusal w v s ≡ 0) f.seen (sym (answer_is w l bytes) ∙ e) in
      rw e (subst (λ (v : View). Safe w v g made) (sym (account_move w h s by_account)) (saves (sound_account f.steps) s (from e) by_account safe))
  safe_on (suc n) l h bytes e from f safe = rw (e, eqb-suc-zero n) safe

  safe_along : (more : List (List ℕ)) (l : Ledger) (h : List Step) → AllFrom w made l more → Follows w l h → SafeBy h → SafeBy (accepted (run w l more) h)
  safe_along [] l h from f safe = safe
  safe_along (bytes ∷ rest) l h from f safe =
      safe_along rest (offered w l bytes).ledger (grown w l bytes h) from.1 (follows_on l h bytes f)
      (safe_on (offered w l bytes).answer l h bytes refl from.0 f safe)

-- records and then more
pub after_more : (w : ℕ) (records more : List (List ℕ)) (l : Ledger) → after w l (records ++ more) ≡ after w (after w l records) more
after_more w [] more l = refl
after_more w (bytes ∷ rest) more l = after_more w rest more (offered w l bytes).ledger

-- ---- by the accounts

begun : (v : View) (m : ℕ) (held : Secrets) → secrets_of v m ≡ some held → v.started ≡ true
unfolding secrets_of
begun v m held e = go v.started refl e
  where
    go : (c : Bool) → v.started ≡ c → cond (c && v.present m) (some (secrets_at v m)) none ≡ some held → v.started ≡ true
    go true q e = q
    go false q e = let z : ◌≡◌ {A = ℕ} 0 1 = cc in absurd (omega arith)

-- what a member makes with is safe, at any time
made_safe : {w : ℕ} (l : Ledger) (h : List Step) → Follows w l h → (maker made : ℕ) (makers : Secrets) → secrets_of (view_of l) maker ≡ some makers
    → Safe w (account h) (generating_of makers) made
made_safe {w} l h f maker made makers e =
    let by_account : secrets_of (account h) maker ≡ some makers = subst (λ (v : View). secrets_of v maker ≡ some makers) f.seen e in
    let here = holds (account h) maker makers by_account in
    subst (λ (x : Secrets). Safe w (account h) (generating_of x) made) here.1
    (safe_made (sound_account f.steps) (begun (account h) maker makers by_account) maker here.0 made)

-- what is safe is accepted while 3,600 seconds have not passed: here the wait has to be longer than that
safe_accepted : {w : ℕ} → 3600 < w → (l : Ledger) (h : List Step) → Follows w l h → (g : Secret) (made now other : ℕ) (others : Secrets) → Safe w (account h) g made
    → l.last ≤ now → now ≤ made + 3600 → secrets_of (view_of l) other ≡ some others → Accepts others g
safe_accepted {w} long l h f g made now other others safe last young e =
    let here = holds (account h) other others (subst (λ (v : View). secrets_of v other ≡ some others) f.seen e) in
    subst (λ (x : Secrets). Accepts x g) here.1
    (accepts_safe (sound_account f.steps) safe now (subst (λ (v : View). v.last ≤ now) f.seen last) (omega arith) other here.0)

-- ---- the claims

pub longer_is_enough : LongerIsEnough
longer_is_enough w long records more maker other made now makers others makes from last young holder =
    let l = ledger_after w records in
    let f = follows w records in
    let whole = after_more w records more fresh_ledger in
    let safe = safe_along w made (generating_of makers) more l (history w records) from f (made_safe l (history w records) f maker made makers makes) in
    safe_accepted long (after w l more) _ (follows_along more l (history w records) f) (generating_of makers) made now other others safe
    (subst (λ (x : Ledger). x.last ≤ now) whole last) young (subst (λ (x : Ledger). secrets_of (view_of x) other ≡ some others) whole holder)

pub wait_is_enough : WaitIsEnough
wait_is_enough = longer_is_enough wait (omega arith)
