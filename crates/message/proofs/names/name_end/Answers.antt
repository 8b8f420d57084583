-- `message::names::name_end` meets its contract. The name from here ends where the name from the start does. Assumes nothing.
use borrow.Author.Rules.{rules}
use borrow.Author.Tests.{ltb-true, ltb-false}
use mathlib.Core.Path.{sym}
use Rattle.message.proofs.NameLaws.{name_past, name_zero, rest_past, rest_zero, rest_long, rest_go}
use Rattle.message.proofs.names.name_end.Goals as goal

pub returns-in_err-get : goal.returns-in_err-get
returns-in_err-get c = search (rules, name_past, ltb-false _ _ (sym c.in_err-get.ensures.lookup.0))

pub returns-then-branch-eq0 : goal.returns-then-branch-eq0
returns-then-branch-eq0 c = search (rules, name_zero, ltb-true _ _ (sym c.in_ok-get.ensures.lookup.0), c.in_ok-get.ensures.lookup.1)

pub returns-then-n-eq0 : goal.returns-then-n-eq0
returns-then-n-eq0 c = search (rules, rest_zero, ltb-true _ _ (sym c.in-Some.ensures.lookup.0), c.in-Some.ensures.lookup.1)

pub returns-then-n-gt63 : goal.returns-then-n-gt63
returns-then-n-gt63 c = search (rules, rest_long, c.in-Some.ensures.lookup.1)

pub loop-n-preserved : goal.loop-n-preserved
loop-n-preserved c = search (rules, rest_go, c.in-Some.ensures.lookup.1)

pub returns : goal.returns
returns c = search (rules, rest_past, ltb-false _ _ (sym c.in_default.ensures.lookup.0))
