-- Along the records offered to a fresh ledger, for every wait: what is seen of it is the account of the steps that it accepted. With it the claims `TheAccount`,
-- `RefusedKeeps` and `OneByOne`. Assumes nothing.
use Prim.Native.Nat.{ℕ, zero, suc}
use mathlib.Core.Path.{◌≡◌, refl, sym, ap, subst, ◌∙◌}
use mathlib.Core.Bool.{cond}
use mathlib.Core.List.{List, [], ◌∷◌, ◌++◌}
use native.Mathlib.Omega.{arith}
use lib.Dec.{eqb, eqb-suc-zero}
use Rattle.ledger.specs.declared.Ledger.{Ledger}
use Rattle.ledger.specs.declared.Step.{Step}
use Rattle.ledger.specs.Account.{account}
use Rattle.ledger.specs.Claims.{HeldBy, OneByOne, TheAccount, RefusedKeeps}
use Rattle.ledger.specs.Journal.{read_step}
use Rattle.ledger.specs.Ledger.{view_of, fresh_ledger, accept, outcome, stepped}
use Rattle.ledger.specs.Rules.{View, refusal, secrets_of}
use Rattle.ledger.specs.Run.{offered, run, after, accepted, ledger_after, history}
use Rattle.octets.proofs.RefusalLaws.{first_number, none_number, number_first}
use Rattle.ledger.proofs.Rows.{none_applies}
use Rattle.ledger.proofs.Facts.{Small}
use Rattle.ledger.proofs.Move.{move, account_move, Accepted, nothing_yet, and_then}
use Rattle.ledger.proofs.People.{peopled_account}
use Rattle.ledger.proofs.Holding.{held_by}
use Rattle.ledger.proofs.Machine.{sees_fresh, sees}

-- ---- one step

answer_of_lem : (n : ℕ) (l : Ledger) (s : Step) → (outcome n l s).answer ≡ n
answer_of_lem zero l s = refl
answer_of_lem (suc n) l s = refl

-- the answer is the number of the refusal
pub answer_is : (w : ℕ) (l : Ledger) (bytes : List ℕ) → (offered w l bytes).answer ≡ refusal w (view_of l) (read_step bytes)
unfolding stepped
answer_is w l bytes = answer_of_lem (refusal w (view_of l) (read_step bytes)) l (read_step bytes)

accepted_of : (n : ℕ) (l : Ledger) (s : Step) → n ≡ 0 → (outcome n l s).ledger ≡ accept l s
accepted_of zero l s e = refl
accepted_of (suc n) l s e = absurd (omega (arith, e))

-- a step that is accepted makes of the ledger what `accept` says
pub ledger_is : (w : ℕ) (l : Ledger) (bytes : List ℕ) → (offered w l bytes).answer ≡ 0 → (offered w l bytes).ledger ≡ accept l (read_step bytes)
unfolding stepped
ledger_is w l bytes e = accepted_of (refusal w (view_of l) (read_step bytes)) l (read_step bytes) (sym (answer_is w l bytes) ∙ e)

kept_of : (k : ℕ) (l : Ledger) (s : Step) (n : ℕ) → (outcome k l s).answer ≡ suc n → (outcome k l s).ledger ≡ l
kept_of zero l s n e = absurd (omega (arith, e))
kept_of (suc k) l s n e = refl

pub refused_keeps : RefusedKeeps
unfolding stepped
refused_keeps w l bytes = kept_of (refusal w (view_of l) (read_step bytes)) l (read_step bytes)

-- ---- one record more

module _ (w : ℕ) where
  -- the steps that were accepted, after a record more
  abbrev pub grown : Ledger → List ℕ → List Step → List Step
  grown l bytes h = cond (eqb (offered w l bytes).answer 0) (read_step bytes ∷ h) h

  -- the last record finds the ledger that those before it left
  more_ledger : (records : List (List ℕ)) (bytes : List ℕ) (l : Ledger) → after w l (records ++ (bytes ∷ [])) ≡ (offered w (after w l records) bytes).ledger
  more_ledger [] bytes l = refl
  more_ledger (early ∷ rest) bytes l = more_ledger rest bytes (offered w l early).ledger

  -- and its step joins those that were accepted, if it is accepted
  more_steps : (records : List (List ℕ)) (bytes : List ℕ) (l : Ledger) (h : List Step) → accepted (run w l (records ++ (bytes ∷ []))) h
      ≡ grown (after w l records) bytes (accepted (run w l records) h)
  more_steps [] bytes l h = refl
  more_steps (early ∷ rest) bytes l h = more_steps rest bytes (offered w l early).ledger (grown l early h)

pub one_by_one : OneByOne
one_by_one w records bytes = record { ledger = more_ledger w records bytes fresh_ledger; steps = more_steps w records bytes fresh_ledger [] }

-- ---- along the records

-- what holds of a ledger and the steps that it accepted, and is kept by every accepted step, is kept by any records
module _ (w : ℕ) (P : Ledger → List Step → Type 0)
    (keep : (l : Ledger) (h : List Step) (s : Step) → refusal w (view_of l) s ≡ 0 → P l h → P (accept l s) (s ∷ h)) where
  one_of : (n : ℕ) (l : Ledger) (h : List Step) (s : Step) → refusal w (view_of l) s ≡ n → P l h
      → P (outcome n l s).ledger (cond (eqb (outcome n l s).answer 0) (s ∷ h) h)
  one_of zero l h s e p = keep l h s e p
  one_of (suc n) l h s e p = rw (eqb-suc-zero n) p

  one : (l : Ledger) (h : List Step) (bytes : List ℕ) → P l h → P (offered w l bytes).ledger (grown w l bytes h)
  unfolding stepped
  one l h bytes = one_of (refusal w (view_of l) (read_step bytes)) l h (read_step bytes) refl

  pub along : (records : List (List ℕ)) (l : Ledger) (h : List Step) → P l h → P (after w l records) (accepted (run w l records) h)
  along [] l h p = p
  along (bytes ∷ rest) l h p = along rest (offered w l bytes).ledger (grown w l bytes h) (one l h bytes p)

-- what is seen of a ledger is the account of steps that were accepted
pub record Follows (w : ℕ) (l : Ledger) (h : List Step) : Type 0 where
  pub seen : view_of l ≡ account h
  pub steps : Accepted w h

-- then the next step that is accepted makes the move on the account
next_seen : {w : ℕ} (l : Ledger) (h : List Step) (s : Step) → refusal w (view_of l) s ≡ 0 → Follows w l h → view_of (accept l s) ≡ move (account h) s
next_seen {w} l h s e f =
    let small = subst (λ (v : View). Small v.present) (sym f.seen) (peopled_account f.steps).small in
    sees w l small s e ∙ ap (λ (v : View). move v s) f.seen

follows_one : {w : ℕ} (l : Ledger) (h : List Step) (s : Step) → refusal w (view_of l) s ≡ 0 → Follows w l h → Follows w (accept l s) (s ∷ h)
follows_one {w} l h s e f =
    let by_account = subst (λ (v : View). refusal w v s ≡ 0) f.seen e in
    record { seen = next_seen l h s e f ∙ sym (account_move w h s by_account); steps = and_then s f.steps by_account }

pub follows_on : {w : ℕ} (l : Ledger) (h : List Step) (bytes : List ℕ) → Follows w l h
    → Follows w (offered w l bytes).ledger (grown w l bytes h)
follows_on {w} = one w (Follows w) follows_one

pub follows_fresh : {w : ℕ} → Follows w fresh_ledger []
follows_fresh = record { seen = sees_fresh; steps = nothing_yet }

pub follows_along : {w : ℕ} (records : List (List ℕ)) (l : Ledger) (h : List Step) → Follows w l h → Follows w (after w l records) (accepted (run w l records) h)
follows_along {w} = along w (Follows w) follows_one

pub follows : (w : ℕ) (records : List (List ℕ)) → Follows w (ledger_after w records) (history w records)
follows w records = follows_along records fresh_ledger [] follows_fresh

-- the same of a record that is offered next
pub next_view : (w : ℕ) (records : List (List ℕ)) (bytes : List ℕ) → (offered w (ledger_after w records) bytes).answer ≡ 0
    → view_of (offered w (ledger_after w records) bytes).ledger ≡ move (account (history w records)) (read_step bytes)
next_view w records bytes e =
    let l = ledger_after w records in
    ap view_of (ledger_is w l bytes e) ∙ next_seen l (history w records) (read_step bytes) (sym (answer_is w l bytes) ∙ e) (follows w records)

-- ---- the account

-- the answer is the number of the refusal by the account
pub answer_by_account : (w : ℕ) (records : List (List ℕ)) (bytes : List ℕ)
    → (offered w (ledger_after w records) bytes).answer ≡ refusal w (account (history w records)) (read_step bytes)
answer_by_account w records bytes = answer_is w (ledger_after w records) bytes ∙ ap (λ (v : View). refusal w v (read_step bytes)) (follows w records).seen

pub the_account : TheAccount
unfolding refusal
the_account w records = record {
  seen = (follows w records).seen;
  refused = λ bytes n is. answer_by_account w records bytes ∙ first_number is;
  refused_when = λ bytes n e. number_first _ n (sym (answer_by_account w records bytes) ∙ e);
  accepted = λ bytes none. answer_by_account w records bytes ∙ none_number none;
  accepted_when = λ bytes e. none_applies w (account (history w records)) (read_step bytes) (sym (answer_by_account w records bytes) ∙ e);
  secrets = λ m. subst (λ (v : View). HeldBy (history w records) m (secrets_of v m)) (sym (follows w records).seen) (held_by (history w records) m);
}
