-- `write_str` of `Words` meets its contract. Assumes nothing.
use Rattle.std.proofs.Common.{◌≡◌, ◌+◌, ◌≤◌, length, ap, arith, rules}
use Rattle.lines.proofs.WordLaws.{has_room, stands_behind}
use Rattle.lines.proofs.output.WordsWrite.write_str.Goals as goal

pub overflow_add-self : goal.overflow_add-self
overflow_add-self c = search (rules, has_room)

pub returns : goal.returns
returns c = search (rules, stands_behind)

pub invariant_of-self-2 : goal.invariant_of-self-2
invariant_of-self-2 c =
    let part = c.as_bytes.result.now in
    let room : c.args.self.now.len + length part ≤ 64 = has_room c.args.self.now.bytes part c.put.new.buffer c.args.self.now.len c.put.result c.put.ensures c.if-not-put.false (search rules) in
    let same : length part ≡ length c.args.text.now = ap length c.as_bytes.ensures.value in
    record { fits = omega (arith, room, same) }
