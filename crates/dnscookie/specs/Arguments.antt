-- What private contracts cite and no public promise: a reader need not believe it. Assumes nothing.
use Rattle.std.specs.Prelude.{ℕ, List, cond, Result, Ok, Err}
use Rattle.secret.specs.declared.Secrets.{Secrets}
use Rattle.verdict.specs.declared.Mode.{Mode}
use Rattle.dnscookie.specs.Calls.{is_mode, mode_of, are_secrets, secrets_in}
use Rattle.dnscookie.specs.Words.{wrong_mode, wrong_secrets, wrong_client, wrong_ledger, wrong_record, wrong_answer, no_room_word, no_secrets}
use Rattle.dnscookie.specs.declared.arguments.Fault as fault-as
use Rattle.dnscookie.specs.declared.arguments.Fault.TheVariants as fault

-- the numbers of refusals
abbrev pub fault_number : fault-as.Fault → ℕ
fault_number fault.Mode = wrong_mode
fault_number fault.Secrets = wrong_secrets
fault_number fault.Client = wrong_client
fault_number fault.Ledger = wrong_ledger
fault_number fault.Record = wrong_record
fault_number fault.Answer = wrong_answer
fault_number fault.NoRoom = no_room_word
fault_number fault.NoSecrets = no_secrets

-- a mode, refused above 2
abbrev pub mode_in : ℕ → Result Mode fault-as.Fault
mode_in n = cond (is_mode n) (Ok (mode_of n)) (Err fault.Mode)

-- secrets, refused where they are not 16 bytes each
abbrev pub secrets_read : List ℕ → Result Secrets fault-as.Fault
secrets_read bytes = cond (are_secrets bytes) (Ok (secrets_in bytes)) (Err fault.Secrets)
