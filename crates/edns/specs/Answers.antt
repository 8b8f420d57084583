-- What the code's answers say, in the terms of the definitions. The cases `NamesHold` pin each. Assumes nothing.
use Rattle.std.specs.Prelude.{Option, Some, None, Result, Ok, Err}
use Rattle.std.proofs.Math.Option.{none, some}
use Rattle.std.proofs.Math.Option as math
use Rattle.edns.specs.Options.{Listed, refused, no_cookie, cookie}
use Rattle.edns.specs.declared.Cookie.{Cookie}
use Rattle.edns.specs.declared.EdnsOption.{EdnsOption}
use Rattle.edns.specs.declared.Past.{Past}

-- the option at a place
abbrev pub found_of : Option EdnsOption → math.Option EdnsOption
found_of (Some o) = some o
found_of None = none

-- a list of options, with document 01's number
abbrev pub listing_of : Result (Option Cookie) Past → Listed
listing_of (Err past) = refused 9
listing_of (Ok None) = no_cookie
listing_of (Ok (Some c)) = cookie c.start c.end
