-- The claims `OneAnswer` and `LedgerAnswers`, for every wait: what answers by the account accepts what the ledger accepts, record by record. Assumes nothing.
use Prim.Native.Nat.{ℕ}
use mathlib.Core.Path.{◌≡◌, refl, sym, ap, ◌∙◌}
use mathlib.Core.List.{List, [], ◌∷◌, reverse_aux, reverse, reverse-cons}
use Rattle.ledger.specs.declared.Ledger.{Ledger}
use Rattle.ledger.specs.declared.Step.{Step}
use Rattle.ledger.specs.Account.{account}
use Rattle.ledger.specs.Journal.{read_step}
use Rattle.ledger.specs.OneAnswer.{Answerer, accepted_by, ByTheAccount, OneAnswer, LedgerAnswers}
use Rattle.ledger.specs.Rules.{View, refusals, refusal}
use Rattle.ledger.specs.Ledger.{fresh_ledger}
use Rattle.ledger.specs.Run.{offered, run, accepted, ledger_after, history}
use Rattle.octets.proofs.RefusalLaws.{told}
use Rattle.ledger.proofs.Along.{answer_is, grown, Follows, follows_on, follows_fresh, answer_by_account, one_by_one, the_account}

module _ {w : ℕ} (f : Answerer) (by : ByTheAccount w f) where
  -- it answers with the number of the refusal by its own account
  by_account : (earlier : List (List ℕ)) (bytes : List ℕ) → f earlier bytes ≡ refusal w (account (accepted_by f earlier)) (read_step bytes)
  unfolding refusal
  by_account earlier bytes =
      told (f earlier bytes) (refusals w (account (accepted_by f earlier)) (read_step bytes)) (by.refused earlier bytes) (by.accepted earlier bytes)

  -- as a ledger does that has accepted the same
  same_answer : (l : Ledger) (earlier : List (List ℕ)) → Follows w l (accepted_by f earlier) → (bytes : List ℕ) → (offered w l bytes).answer ≡ f earlier bytes
  same_answer l earlier follow bytes =
      answer_is w l bytes ∙ ap (λ (v : View). refusal w v (read_step bytes)) follow.seen ∙ sym (by_account earlier bytes)

  -- so the two accept the same of any records
  same_steps : (records : List (List ℕ)) (l : Ledger) (earlier : List (List ℕ)) → Follows w l (accepted_by f earlier)
      → accepted_by f (reverse_aux records earlier) ≡ accepted (run w l records) (accepted_by f earlier)
  same_steps [] l earlier follow = refl
  same_steps (bytes ∷ rest) l earlier follow =
      let same = same_answer l earlier follow bytes in
      rw same (same_steps rest (offered w l bytes).ledger (bytes ∷ earlier) (rw same at (follows_on l (accepted_by f earlier) bytes follow)))

pub one_answer : OneAnswer
one_answer w f by records =
    let same = same_steps f by records fresh_ledger [] follows_fresh in
    record {
      answers = λ bytes.
          by_account f by (reverse records) bytes ∙ ap (λ (h : List Step). refusal w (account h) (read_step bytes)) same
          ∙ sym (answer_by_account w records bytes);
      steps = same;
    }

-- ---- the ledger's own answers

-- after the earlier records from the oldest on
abbrev own : ℕ → Answerer
own w earlier bytes = (offered w (ledger_after w (reverse earlier)) bytes).answer

-- what is accepted by them is what the ledger accepted
own_steps : (w : ℕ) (earlier : List (List ℕ)) → accepted_by (own w) earlier ≡ history w (reverse earlier)
own_steps w [] = refl
own_steps w (bytes ∷ earlier) =
    ap (grown w (ledger_after w (reverse earlier)) bytes) (own_steps w earlier)
    ∙ sym (one_by_one w (reverse earlier) bytes).steps
    ∙ ap (history w) (sym (reverse-cons bytes earlier))

pub ledger_answers : LedgerAnswers
ledger_answers w = record {
  refused = λ earlier bytes n is. (the_account w (reverse earlier)).refused bytes n (rw (own_steps w earlier) at is);
  accepted = λ earlier bytes none. (the_account w (reverse earlier)).accepted bytes (rw (own_steps w earlier) at none);
}
