-- `ledger::Ledger::step` meets its contract: a byte that is no kind is refused by row 1. Assumes nothing.
use Rattle.std.proofs.Common.{rules}
use Rattle.ledger.proofs.RuleLaws.{no_kind}
use Rattle.ledger.proofs.Ledger.step.Goals as goal

pub returns-in_err-kind : goal.returns-in_err-kind
returns-in_err-kind c = search (rules, no_kind)
