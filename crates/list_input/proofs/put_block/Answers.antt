-- `list_input::put_block` meets its contract. Assumes nothing.
use Rattle.std.proofs.Common.{rules}
use Rattle.list_input.proofs.TextLaws.{put_lines, put_tail}
use Rattle.list_input.proofs.put_block.Goals as goal

pub returns-in-0 : goal.returns-in-0
returns-in-0 c = search (rules, put_lines)

pub returns-in_default : goal.returns-in_default
returns-in_default c = search (rules, put_tail)
