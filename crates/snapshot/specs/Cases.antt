-- Cases that pin the definitions of Snapshot.antt: ledgers that document 01's steps give, and two whose bytes all differ, against their bytes written out; bytes that are no snapshot, each by
-- one thing alone; and lent bytes that are too few or too many. Assumes nothing.
use Rattle.std.specs.Prelude.{ℕ, ◌≡◌, true, false, List, [], ◌∷◌, replicate, Some, None}
use Rattle.std.proofs.Math.Option.{none, some}
use Rattle.octets.specs.Numbers.{printed}
use Rattle.ledger.specs.Cases.{learning, dropping, closed, whole, s_a, s_b}
use Rattle.ledger.specs.Ledger.{fresh_ledger}
use Rattle.ledger.specs.Rules.{wait}
use Rattle.ledger.specs.Run.{ledger_after}
use Rattle.ledger.specs.declared.Ledger.{Ledger}
use Rattle.snapshot.specs.Answers.{found_of}
use Rattle.snapshot.specs.Snapshot.{snapshot_of, ledger_in, kept_in}

-- what the code's answer says, each of its cases
pub record NamesHold : Type 0 where
  pub nothing : found_of None ≡ none
  pub holds : (l : Ledger) → found_of (Some l) ≡ some l

-- ---- ledgers and their bytes

-- before START
abbrev pub fresh_bytes : List ℕ
fresh_bytes = 1 ∷ replicate 67 0

-- START of 2 at 1000 with sixteen bytes of 11 hex, OPEN at 1010 with 22, LEARN of 0 at 1020
abbrev pub learning_bytes : List ℕ
learning_bytes = printed 68 0x0101010003000000010000000000000000000000fc0300000000000000000000000000001111111111111111111111111111111122222222222222222222222222222222

-- then LEARN of 1, SWITCH of 0 and of 1, that at 1040, and DROP of 0 at 4641
abbrev pub dropping_bytes : List ℕ
dropping_bytes = printed 68 0x0101010003000000030000000300000001000000211200000000000010040000000000001111111111111111111111111111111122222222222222222222222222222222

-- then DROP of 1
abbrev pub closed_bytes : List ℕ
closed_bytes = printed 68 0x0101000003000000000000000000000000000000211200000000000010040000000000002222222222222222222222222222222200000000000000000000000000000000

-- as no steps give one: behind the head each byte is its own place
abbrev pub placed : Ledger
placed =
    whole true false (record { k0 = 0x2b2a292827262524; k1 = 0x333231302f2e2d2c }) (record { k0 = 0x3b3a393837363534; k1 = 0x434241403f3e3d3c })
    0x07060504 0x0b0a0908 0x0f0e0d0c 0x13121110 0x1b1a191817161514 0x232221201f1e1d1c

abbrev pub placed_bytes : List ℕ
placed_bytes = printed 68 0x010100000405060708090a0b0c0d0e0f101112131415161718191a1b1c1d1e1f202122232425262728292a2b2c2d2e2f303132333435363738393a3b3c3d3e3f40414243

-- the same with every bit the other way
abbrev pub turned : Ledger
turned =
    whole false true (record { k0 = 0xd4d5d6d7d8d9dadb; k1 = 0xcccdcecfd0d1d2d3 }) (record { k0 = 0xc4c5c6c7c8c9cacb; k1 = 0xbcbdbebfc0c1c2c3 })
    0xf8f9fafb 0xf4f5f6f7 0xf0f1f2f3 0xecedeeef 0xe4e5e6e7e8e9eaeb 0xdcdddedfe0e1e2e3

abbrev pub turned_bytes : List ℕ
turned_bytes = printed 68 0x01000100fbfaf9f8f7f6f5f4f3f2f1f0efeeedecebeae9e8e7e6e5e4e3e2e1e0dfdedddcdbdad9d8d7d6d5d4d3d2d1d0cfcecdcccbcac9c8c7c6c5c4c3c2c1c0bfbebdbc

-- the claim: each definition gives what is written beside it
pub record CasesHold : Type 0 where
  pub of_fresh : snapshot_of fresh_ledger ≡ fresh_bytes
  pub of_learning : snapshot_of (ledger_after wait learning) ≡ learning_bytes
  pub of_dropping : snapshot_of (ledger_after wait dropping) ≡ dropping_bytes
  pub of_closed : snapshot_of (ledger_after wait closed) ≡ closed_bytes
  pub of_placed : snapshot_of placed ≡ placed_bytes
  pub of_turned : snapshot_of turned ≡ turned_bytes
  -- read back
  pub in_fresh : ledger_in fresh_bytes ≡ some fresh_ledger
  pub in_learning : ledger_in learning_bytes ≡ some (whole true true s_a s_b 3 1 0 0 1020 0)
  pub in_dropping : ledger_in dropping_bytes ≡ some (whole true true s_a s_b 3 3 3 1 4641 1040)
  pub in_placed : ledger_in placed_bytes ≡ some placed
  pub in_turned : ledger_in turned_bytes ≡ some turned
  -- nothing is in bytes that are too few or too many
  pub shorter : ledger_in (1 ∷ replicate 66 0) ≡ none
  pub longer : ledger_in (1 ∷ replicate 68 0) ≡ none
  pub empty : ledger_in [] ≡ none
  -- nor in those of another form: in zeros, in those of a later form
  pub zeros : ledger_in (replicate 68 0) ≡ none
  pub later : ledger_in (2 ∷ replicate 67 0) ≡ none
  -- nor where a bit's byte is neither 0 nor 1, or the spare byte is not 0
  pub started_2 : ledger_in (1 ∷ 2 ∷ replicate 66 0) ≡ none
  pub rolling_2 : ledger_in (1 ∷ 0 ∷ 2 ∷ replicate 65 0) ≡ none
  pub spare_1 : ledger_in (1 ∷ 0 ∷ 0 ∷ 1 ∷ replicate 64 0) ≡ none
  pub started_255 : ledger_in (1 ∷ 255 ∷ replicate 66 0) ≡ none
  pub rolling_255 : ledger_in (1 ∷ 1 ∷ 255 ∷ replicate 65 0) ≡ none
  pub spare_255 : ledger_in (1 ∷ 1 ∷ 1 ∷ 255 ∷ replicate 64 0) ≡ none
  -- written only into as many bytes as there are, whatever they hold
  pub kept : kept_in (replicate 68 7) fresh_ledger ≡ fresh_bytes
  pub kept_not : kept_in (replicate 67 7) fresh_ledger ≡ replicate 67 7
  pub kept_over : kept_in (replicate 69 7) fresh_ledger ≡ replicate 69 7
  pub kept_none : kept_in [] fresh_ledger ≡ []
