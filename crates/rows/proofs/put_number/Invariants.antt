-- `rows::put_number` meets its contract. The invariant: the digits behind those of the rest are put. Assumes nothing.
use Rattle.rows.proofs.NumberLaws.{Filled}
use Rattle.rows.proofs.put_number.Given as goal

abbrev pub invariant-loop-rest : goal.invariant-loop-rest
invariant-loop-rest l = Filled l.initial.buffer l.at l.x l.buffer l.place l.rest

abbrev pub decreases-loop-rest : goal.decreases-loop-rest
decreases-loop-rest l = l.rest
