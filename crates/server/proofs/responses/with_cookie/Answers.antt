-- `server::responses::with_cookie` meets its contract. A legal body has a client cookie, and one that is kept has 24 bytes. Assumes nothing.
use Rattle.std.proofs.Common.{rules}
use Rattle.server.proofs.ReplyLaws.{client_there, kept_whole}
use Rattle.server.proofs.responses.with_cookie.Goals as goal

pub write_option-requires : goal.write_option-requires
write_option-requires c = (search (rules, client_there), search (rules, kept_whole))
