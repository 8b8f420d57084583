-- `cookie::cookie_option::write_fresh_for` meets its contract. The words are the client cookie, the front and the hash. Assumes nothing.
use Rattle.std.proofs.Common.{rules}
use Rattle.cookie.proofs.MessageLaws.{address_true}
use Rattle.cookie.proofs.OptionLaws.{fresh_no_room, fresh_done}
use Rattle.cookie.specs.Hashed.{address_bytes}
use Rattle.cookie.proofs.cookie_option.write_fresh_for.Goals as goal

pub returns-then-output-lt28 : goal.returns-then-output-lt28
returns-then-output-lt28 c = fresh_no_room c.args.output.now (address_bytes c.args.address) _ c.if-output-lt28.true

pub returns : goal.returns
returns c = fresh_done c.args.output.now (address_bytes c.args.address) c.args.client.now _ c.args.secret c.args.clock c.if-output-lt28.false (search rules) (address_true c.args.address) _ _ _ c.word.ensures c.front.ensures c.hash.ensures c.write_words.ensures
