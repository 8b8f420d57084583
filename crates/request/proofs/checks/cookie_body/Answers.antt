-- `request::checks::cookie_body` meets its contract. What is found lies within the message. Assumes nothing.
use borrow.Author.Rules.{rules}
use Rattle.request.proofs.BodyLaws.{body_ordered, body_within, body_is}
use Rattle.request.proofs.checks.cookie_body.Goals as goal

pub returns-in_default : goal.returns-in_default
returns-in_default c = body_is _ _ c.in_default.ensures

pub returns-in-None : goal.returns-in-None
returns-in-None c = let read = rw c.in-None.is at c.in-Ok.ensures in body_is _ _ read

pub slice_bounds-result-count : goal.slice_bounds-result-count
slice_bounds-result-count c = let read = rw c.in-Some.is at c.in-Ok.ensures in search (rules, body_ordered, read)

pub slice_bounds-result-start : goal.slice_bounds-result-start
slice_bounds-result-start c = let read = rw c.in-Some.is at c.in-Ok.ensures in search (rules, body_ordered, read)

pub slice_bounds-result-end-in-Some : goal.slice_bounds-result-end-in-Some
slice_bounds-result-end-in-Some c = let read = rw c.in-Some.is at c.in-Ok.ensures in search (rules, body_within, read)

pub returns-in-Some : goal.returns-in-Some
returns-in-Some c = let read = rw c.in-Some.is at c.in-Ok.ensures in body_is _ _ read
