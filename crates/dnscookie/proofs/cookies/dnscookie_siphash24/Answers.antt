-- `dnscookie::cookies::dnscookie_siphash24` meets its contract. Assumes nothing.
use Rattle.std.proofs.Common.{rules}
use Rattle.dnscookie.proofs.CallLaws.{hash_done}
use Rattle.dnscookie.proofs.cookies.dnscookie_siphash24.Goals as goal

pub returns : goal.returns
returns c = search (rules, hash_done)
