-- `dnscookie_find::dnscookie_find` meets its contract. Assumes nothing.
use borrow.Author.Rules.{rules}
use Rattle.dnscookie_find.proofs.FindLaws.{end_small, find_none, start_small, word_is}
use Rattle.dnscookie_find.proofs.dnscookie_find.Goals as goal

pub returns-in-Err : goal.returns-in-Err
returns-in-Err c = search (rules, word_is, c.in-Err.ensures)

pub place_word-requires : goal.place_word-requires
place_word-requires c =
    let read = rw c.in-Some.is at c.in-Ok.ensures in
    (search (rules, start_small, read), search (rules, end_small, read))

pub returns-in-None : goal.returns-in-None
returns-in-None c = let read = rw c.in-None.is at c.in-Ok.ensures in search (rules, find_none, read)

pub returns-in-Some : goal.returns-in-Some
returns-in-Some c = let read = rw c.in-Some.is at c.in-Ok.ensures in search (rules, word_is, read)
