-- A list of records offered to a ledger one after the other, and which of them it accepted. Assumes nothing.
use Rattle.std.specs.Prelude.{ℕ, cond, List, [], ◌∷◌, eqb}
use Rattle.ledger.specs.declared.Ledger.{Ledger}
use Rattle.ledger.specs.declared.Step.{Step}
use Rattle.ledger.specs.Journal.{read_step}
use Rattle.ledger.specs.Ledger.{fresh_ledger, Outcome, stepped}

-- a record that was offered, and its answer
pub record Entry : Type 0 where
  pub bytes : List ℕ
  pub answer : ℕ

-- the steps that were accepted, the newest first, before those that were accepted earlier
abbrev pub accepted : List Entry → List Step → List Step
accepted [] earlier = earlier
accepted (e ∷ later) earlier = accepted later (cond (eqb e.answer 0) (read_step e.bytes ∷ earlier) earlier)

-- with a wait
module _ (w : ℕ) where
  -- what comes of a record
  abbrev pub offered : Ledger → List ℕ → Outcome
  offered l bytes = stepped w l (read_step bytes)

  -- the records, each with its answer; each finds the ledger that the one before left
  abbrev pub run : Ledger → List (List ℕ) → List Entry
  run l [] = []
  run l (bytes ∷ rest) = (record { bytes = bytes; answer = (offered l bytes).answer }) ∷ run (offered l bytes).ledger rest

  -- the ledger that they leave
  abbrev pub after : Ledger → List (List ℕ) → Ledger
  after l [] = l
  after l (bytes ∷ rest) = after (offered l bytes).ledger rest

  -- ---- from a fresh ledger

  -- the ledger after some records
  abbrev pub ledger_after : List (List ℕ) → Ledger
  ledger_after records = after fresh_ledger records

  -- the steps of them that were accepted, the newest first
  abbrev pub history : List (List ℕ) → List Step
  history records = accepted (run fresh_ledger records) []
