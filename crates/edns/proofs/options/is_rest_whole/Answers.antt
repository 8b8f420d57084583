-- `edns::options::is_rest_whole` meets its contract. The options from here are within the data as those from the start are. Assumes nothing.
use borrow.Author.Rules.{rules}
use Rattle.edns.proofs.OptionLaws.{next_less, whole_end, whole_past, whole_next}
use Rattle.edns.proofs.options.is_rest_whole.Goals as goal

pub loop-at-smaller : goal.loop-at-smaller
loop-at-smaller c = search (rules, next_less)

pub loop-at-preserved : goal.loop-at-preserved
loop-at-preserved c = search (rules, whole_next)

pub returns-in_default : goal.returns-in_default
returns-in_default c = search (rules, whole_past)

pub returns : goal.returns
returns c = search (rules, whole_end)
