-- `cookie::server_cookie::Setting::judge_server` meets its contract: where a secret matches, the age decides. Assumes nothing.
use Rattle.std.proofs.Common.{rules}
use Rattle.cookie.proofs.ServerLaws.{judge_time}
use Rattle.cookie.proofs.server_cookie.Setting.judge_server.Goals as goal

pub returns-in-Some : goal.returns-in-Some
returns-in-Some c = search (rules, judge_time)
