-- `dnscookie::arguments::secrets_in` meets its contract: two secrets, each of 16 bytes. Assumes nothing.
use Rattle.std.proofs.Common.{◌≡◌, take, drop, arith, rules}
use Rattle.dnscookie.proofs.CallLaws.{two_read}
use Rattle.dnscookie.proofs.arguments.secrets_in.Goals as goal

pub returns : goal.returns
returns c =
    let front : c.unwrap.result.now ≡ take 16 c.args.bytes.now = search rules in
    let back : c.unwrap-2.result.now ≡ drop 16 c.args.bytes.now = search rules in
    search (rules, two_read)
