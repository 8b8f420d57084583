-- `dnscookie::ledgers::put_secrets` meets its contract. Assumes nothing.
use Rattle.std.proofs.Common.{rules}
use Rattle.dnscookie.proofs.LedgerLaws.{two_put}
use Rattle.dnscookie.proofs.ledgers.put_secrets.Goals as goal

pub returns-in-Two : goal.returns-in-Two
returns-in-Two c = search (rules, two_put)
