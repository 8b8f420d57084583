-- `server::responses::respond` meets its contract. The checks in their order, and then what the reader found. Assumes nothing.
use Rattle.std.proofs.Common.{◌≡◌, ◌≤◌, length, take, rules}
use Rattle.std.proofs.lemmas.Result.{err_from_is_err_and}
use Rattle.request.proofs.BodyLaws.{body_ordered, body_within, body_legal}
use Rattle.cookie.proofs.MessageLaws.{is_read, read_some}
use Rattle.cookie.specs.Hashed.{address_bytes}
use Rattle.server.proofs.ReplyLaws.{whole_is}
use Rattle.server.proofs.RespondLaws.{refuse_1, refuse_2, ignored_is, refused_is, absent_is, cookie_is}
use Rattle.server.proofs.responses.respond.Goals as goal

pub returns-then-output-lt28 : goal.returns-then-output-lt28
returns-then-output-lt28 c = search (rules, refuse_1)

pub returns-then-not-is_address : goal.returns-then-not-is_address
returns-then-not-is_address c = search (rules, refuse_2)

pub returns-then-is_disabled : goal.returns-then-is_disabled
returns-then-is_disabled c = search (rules, ignored_is)

pub returns-in_err-reading : goal.returns-in_err-reading
returns-in_err-reading c =
    let p = err_from_is_err_and c.from_residual.result c.from_residual.ensures.1 in
    rw (p.1, p.2) (search (rules, refused_is, c.in_err-reading.ensures))

pub unwrap-requires : goal.unwrap-requires
unwrap-requires c = search (rules, read_some)

pub slice_bounds-body-count : goal.slice_bounds-body-count
slice_bounds-body-count c = let read = rw c.in-Some.is at c.in_ok-reading.ensures in search (rules, body_ordered, read)

pub slice_bounds-body-start : goal.slice_bounds-body-start
slice_bounds-body-start c = let read = rw c.in-Some.is at c.in_ok-reading.ensures in search (rules, body_ordered, read)

pub slice_bounds-body-end : goal.slice_bounds-body-end
slice_bounds-body-end c = let read = rw c.in-Some.is at c.in_ok-reading.ensures in search (rules, body_within, read)

pub with_cookie-requires : goal.with_cookie-requires
with_cookie-requires c = let read = rw c.in-Some.is at c.in_ok-reading.ensures in search (rules, body_legal, read)

pub returns-in-None : goal.returns-in-None
returns-in-None c = let read = rw c.in-None.is at c.in_ok-reading.ensures in search (rules, absent_is, read)

pub returns-in-Some : goal.returns-in-Some
returns-in-Some c =
    let from = is_read c.args.address.now (address_bytes c.unwrap.result) (search rules) in
    let same = from.1 in
    let read = rw c.in-Some.is at c.in_ok-reading.ensures in
    let first : c.unwrap-option.result.now ≡ take 28 c.args.output.now = search rules in
    let room : 28 ≤ length c.args.output.now = c.if-output-lt28.false in
    let told = rw first at c.with_cookie.ensures in
    let whole = whole_is _ _ _ _ _ _ c.args.output.now room _ _ told in
    search (rules, cookie_is, read, whole)
