-- `message::sections::questions_end` meets its contract. The questions that are left end where all do. Assumes nothing.
use Prim.Native.Nat.{◌-◌}
use mathlib.Core.Path.{◌≡◌}
use Rattle.message.specs.Message.{questions_end}
use Rattle.message.proofs.sections.questions_end.Given as goal

abbrev pub invariant-loop : goal.invariant-loop
invariant-loop l = questions_end (l.count - l.counter) l.message l.at ≡ questions_end l.count l.message l.from
