-- `message::names::name_end` meets its contract. The name from here ends where the name from the start does. Assumes nothing.
use Prim.Native.Nat.{◌-◌}
use lib.ListN.{length}
use mathlib.Core.Path.{◌≡◌}
use Rattle.message.specs.Name.{name_end}
use Rattle.message.proofs.names.name_end.Given as goal

abbrev pub invariant-loop-n : goal.invariant-loop-n
invariant-loop-n l = name_end l.message l.i ≡ name_end l.message l.at

abbrev pub decreases-loop-n : goal.decreases-loop-n
decreases-loop-n l = length l.message - l.i
