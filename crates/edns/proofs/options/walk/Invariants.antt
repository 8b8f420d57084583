-- `edns::options::walk` meets its contract. What is found from here on is what is found in all. Assumes nothing.
use Prim.Native.Nat.{◌-◌}
use lib.ListN.{length}
use mathlib.Core.Path.{◌≡◌}
use Rattle.edns.proofs.OptionLaws.{found_from}
use Rattle.edns.specs.Options.{options_from, cookie_in}
use Rattle.edns.proofs.options.walk.Given as goal

abbrev pub invariant-loop-at : goal.invariant-loop-at
invariant-loop-at l = found_from (options_from l.rdata l.at) ≡ cookie_in l.rdata

abbrev pub decreases-loop-at : goal.decreases-loop-at
decreases-loop-at l = length l.rdata - l.at
