-- `fleet::fresh` meets its contract: the ledger is the fresh one, and demand 3 holds. Assumes nothing.
use borrow.Author.Rules.{rules}
use Rattle.fleet.proofs.Demand.{demand_three}
use Rattle.fleet.proofs.fresh.Goals as goal

pub returns : goal.returns
returns c = (search rules, demand_three)
