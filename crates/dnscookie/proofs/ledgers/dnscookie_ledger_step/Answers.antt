-- `dnscookie::ledgers::dnscookie_ledger_step` meets its contract. Assumes nothing.
use Rattle.dnscookie.proofs.LedgerLaws.{step_accepted}
use Rattle.dnscookie.proofs.ledgers.dnscookie_ledger_step.Goals as goal

pub returns-in-Ok-step : goal.returns-in-Ok-step
returns-in-Ok-step c =
    step_accepted _ _ c.in-Some.ensures _ _ _ _ c.in-Ok.ensures.1.long c.in-Ok.ensures.1.same c.in-Ok-step.ensures c.write.ensures.1
