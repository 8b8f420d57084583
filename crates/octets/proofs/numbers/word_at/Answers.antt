-- `octets::numbers::word_at` meets its contract. Assumes nothing.
use borrow.Author.Rules.{rules}
use Rattle.octets.proofs.ReadLaws.{word_is}
use Rattle.octets.proofs.numbers.word_at.Goals as goal

pub returns : goal.returns
returns c = search (rules, word_is)
