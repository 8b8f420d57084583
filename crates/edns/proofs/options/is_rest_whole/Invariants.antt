-- `edns::options::is_rest_whole` meets its contract. The options from here are within the data as those from the start are. Assumes nothing.
use Prim.Native.Nat.{◌-◌}
use lib.ListN.{length}
use mathlib.Core.Bool.{not}
use mathlib.Core.Path.{◌≡◌}
use Rattle.edns.specs.Options.{options_from}
use Rattle.octets.specs.Refusals.{is_none}
use Rattle.edns.proofs.options.is_rest_whole.Given as goal

abbrev pub invariant-loop-at : goal.invariant-loop-at
invariant-loop-at l = not (is_none (options_from l.rdata l.at)) ≡ not (is_none (options_from l.rdata l.from))

abbrev pub decreases-loop-at : goal.decreases-loop-at
decreases-loop-at l = length l.rdata - l.at
