-- What the answers of this crate mean. Assumes nothing.
use Rattle.std.specs.Prelude.{ℕ, List}
use Rattle.listing.specs.declared.Listed.{Listed}
use Rattle.listing.specs.declared.Lister.{Lister}
use Rattle.listing.specs.Listing.{Block}

-- what came of a block, the lister afterwards, and what the output holds then
abbrev pub block_of : Listed → Lister → List ℕ → Block
block_of r lister output = record { records = r.records; end = r.end; lister = lister; output = output }
