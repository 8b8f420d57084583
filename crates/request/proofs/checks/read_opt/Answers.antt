-- `request::checks::read_opt` meets its contract. Where the first COOKIE body lies. Assumes nothing.
use borrow.Author.Rules.{rules}
use Rattle.request.proofs.RestLaws.{cookie_ordered, cookie_fits}
use Rattle.request.proofs.checks.read_opt.Goals as goal

pub read_cookie-requires : goal.read_cookie-requires
read_cookie-requires c =
    let walked = rw c.in-Some.is at c.in_ok-walk.ensures in
    (search (rules, cookie_ordered, walked), search (rules, cookie_fits, walked))
