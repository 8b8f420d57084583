-- What the answers of this crate mean. Assumes nothing.
use Rattle.std.specs.Prelude.{Option, Some, None}
use Rattle.std.proofs.Math.Option as math
use Rattle.ledger.specs.declared.Ledger.{Ledger}

-- the ledger that was found, if one was
abbrev pub found_of : Option Ledger → math.Option Ledger
found_of None = math.none
found_of (Some l) = math.some l
