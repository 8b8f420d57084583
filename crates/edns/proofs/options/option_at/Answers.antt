-- `edns::options::option_at` meets its contract. One law for each answer. Assumes nothing.
use borrow.Author.Rules.{rules}
use Rattle.edns.proofs.OptionLaws.{option_lacks, option_there}
use Rattle.edns.proofs.options.option_at.Goals as goal

pub returns-in_err-end : goal.returns-in_err-end
returns-in_err-end c = search (rules, option_lacks, c.in_err-end.ensures)

pub returns : goal.returns
returns c = search (rules, option_there, c.in_ok-end.ensures)
