-- `fleet::step` meets its contract. Assumes nothing.
use borrow.Author.Rules.{rules}
use Rattle.fleet.proofs.CallLaws.{step_reply, step_past}
use Rattle.fleet.proofs.step.Goals as goal

pub returns : goal.returns
returns c = (search (rules, step_reply), search (rules, step_past))
