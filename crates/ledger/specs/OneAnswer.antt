-- The claim that there is one answer, for every wait: whatever answers by the account of what it has itself accepted answers as the ledger does, and accepts what the
-- ledger accepts. It need not keep a ledger. Document 01, "The rollover ledger". Assumes nothing.
use Rattle.std.specs.Prelude.{ℕ, ◌≡◌, cond, List, [], ◌∷◌, reverse, eqb}
use Rattle.octets.specs.Refusals.{FirstIs, NoneApplies}
use Rattle.ledger.specs.declared.Step.{Step}
use Rattle.ledger.specs.Account.{account}
use Rattle.ledger.specs.Journal.{read_step}
use Rattle.ledger.specs.Rules.{refusals}
use Rattle.ledger.specs.Run.{offered, ledger_after, history}

-- an answer to the record that is offered, by the records that were offered before it, the newest first
abbrev pub Answerer : Type 0
Answerer = List (List ℕ) → List ℕ → ℕ

-- the steps that it accepted, the newest first
abbrev pub accepted_by : Answerer → List (List ℕ) → List Step
accepted_by f [] = []
accepted_by f (bytes ∷ earlier) = cond (eqb (f earlier bytes) 0) (read_step bytes ∷ accepted_by f earlier) (accepted_by f earlier)

-- it answers with the number of the first row that applies by the account of those, and with 0 if none does
pub record ByTheAccount (w : ℕ) (f : Answerer) : Type 0 where
  pub refused : (earlier : List (List ℕ)) (bytes : List ℕ) (n : ℕ)
      → FirstIs (refusals w (account (accepted_by f earlier)) (read_step bytes)) n → f earlier bytes ≡ n
  pub accepted : (earlier : List (List ℕ)) (bytes : List ℕ)
      → NoneApplies (refusals w (account (accepted_by f earlier)) (read_step bytes)) → f earlier bytes ≡ 0

-- after some records, which it is told the newest first, it answers whatever is offered as the ledger does, and it has accepted the same steps
pub record AsTheLedger (w : ℕ) (f : Answerer) (records : List (List ℕ)) : Type 0 where
  pub answers : (bytes : List ℕ) → f (reverse records) bytes ≡ (offered w (ledger_after w records) bytes).answer
  pub steps : accepted_by f (reverse records) ≡ history w records

-- the claim
abbrev pub OneAnswer : Type 0
OneAnswer = (w : ℕ) (f : Answerer) → ByTheAccount w f → (records : List (List ℕ)) → AsTheLedger w f records

-- the claim that the ledger's own answers, after the earlier records from the oldest on, are by the account: so there is something of which the claim above speaks
abbrev pub LedgerAnswers : Type 0
LedgerAnswers = (w : ℕ) → ByTheAccount w (λ earlier bytes. (offered w (ledger_after w (reverse earlier)) bytes).answer)
