-- `octets::runs::bytes_at` meets its contract. Assumes nothing.
use Rattle.std.proofs.Common.{arith}
use Rattle.octets.proofs.ReadLaws.{bytes_none, bytes_first, bytes_each, rest_is}
use Rattle.octets.proofs.runs.bytes_at.Goals as goal

pub returns-in_default : goal.returns-in_default
returns-in_default g c = bytes_none g.row.N c.args.s.now c.args.at (grind (arith, c.in_default.ensures))

pub returns-in-Some-first_chunk : goal.returns-in-Some-first_chunk
returns-in-Some-first_chunk g c =
    bytes_first g.row.N c.args.s.now c.args.at c.in-Some.rest.now (rest_is c.args.s.now c.in-Some.rest.now c.args.at c.in-Some.ensures.lookup.0.2) c.in-Some-first_chunk.bytes.now
    c.in-Some-first_chunk.ensures.cases.enough c.in-Some-first_chunk.ensures.cases.same

pub returns : goal.returns
returns g c =
    bytes_each g.row.N c.args.s.now c.args.at c.in-Some.rest.now (rest_is c.args.s.now c.in-Some.rest.now c.args.at c.in-Some.ensures.lookup.0.2) c.loop-i.byte-items
    c.loop-i.invariant.0 (λ k below. c.loop-i.invariant.1 k (omega arith))
