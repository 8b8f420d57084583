-- What the code's answers say, in the terms of the definitions. The cases `NamesHold` pin each. Assumes nothing.
use Rattle.std.specs.Prelude.{ℕ, Option, Some, None, Result, Ok, Err}
use Rattle.std.proofs.Math.Option.{none, some}
use Rattle.std.proofs.Math.Option as math
use Rattle.message.specs.Message.{Outlined, refused, no_opt, the_opt}
use Rattle.message.specs.declared.Fault.{Fault}
use Rattle.message.specs.declared.Fault.TheVariants.{Malformed, WrongOpt}
use Rattle.message.specs.declared.Record.{Record}

-- where a part ends
abbrev pub end_of : Option ℕ → math.Option ℕ
end_of (Some end) = some end
end_of None = none

-- the record that starts at a place
abbrev pub found_of : Option Record → math.Option Record
found_of (Some r) = some r
found_of None = none

-- with document 01's numbers
abbrev pub outline_of : Result (Option Record) Fault → Outlined
outline_of (Err Malformed) = refused 6
outline_of (Err WrongOpt) = refused 7
outline_of (Ok None) = no_opt
outline_of (Ok (Some r)) = the_opt r
