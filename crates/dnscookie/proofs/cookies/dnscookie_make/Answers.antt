-- `dnscookie::cookies::dnscookie_make` meets its contract. Assumes nothing.
use Rattle.std.proofs.Common.{◌≡◌, length, Ok, rules}
use Rattle.dnscookie.proofs.CallLaws.{make_done}
use Rattle.dnscookie.specs.Arguments.{secrets_read}
use Rattle.dnscookie.proofs.cookies.dnscookie_make.Goals as goal

pub returns-in-Ok-write_fresh : goal.returns-in-Ok-write_fresh
returns-in-Ok-write_fresh c =
    let same : c.in-Ok-try_from.client.now ≡ c.args.client.now = search rules in
    let long : length c.in-Ok-try_from.client.now ≡ 8 = search rules in
    let read : Ok c.in-Ok.secrets ≡ secrets_read c.args.secrets.now = search rules in
    let e = c.in-Ok-write_fresh.ensures in
    rw (← same) (make_done c.args.secrets.now c.args.address.now c.in-Ok-try_from.client.now c.args.output.now c.args.clock c.in-Ok.secrets read long _ c.generating.ensures e.0 _ e.1)
