-- `dnscookie::ledgers::dnscookie_ledger_secrets` meets its contract. Assumes nothing.
use Rattle.std.proofs.Common.{rules}
use Rattle.dnscookie.proofs.LedgerLaws.{secrets_past}
use Rattle.dnscookie.proofs.ledgers.dnscookie_ledger_secrets.Goals as goal

pub returns-in_default-try_from : goal.returns-in_default-try_from
returns-in_default-try_from c = search (rules, secrets_past)
