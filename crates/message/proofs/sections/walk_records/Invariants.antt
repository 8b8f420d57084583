-- `message::sections::walk_records` meets its contract. The records that are left give, with the OPT so far, what all do. Assumes nothing.
use Prim.Native.Nat.{◌-◌}
use mathlib.Core.Path.{◌≡◌}
use Rattle.std.specs.Prelude.{false, None}
use Rattle.message.specs.Scan.{scanned}
use Rattle.message.proofs.sections.walk_records.Given as goal

abbrev pub invariant-loop-behind : goal.invariant-loop-behind
invariant-loop-behind l =
    scanned (l.behind - l.additional) l.opt l.wrong l.behind l.message l.at ≡ scanned (l.count - l.additional) None false l.count l.message l.from
