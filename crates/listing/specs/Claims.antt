-- The claim that a journal may be listed block by block. Assumes nothing.
use Rattle.std.specs.Prelude.{◌≡◌, ℕ, ◌*◌, List, ◌++◌, length}
use Rattle.listing.specs.declared.Lister.{Lister}
use Rattle.listing.specs.Listing.{size, lines_of, lister_past, listing_from}

-- the claim: a block of n whole records and what follows it are listed as the block's n lines, and then what follows by the lister that the block leaves. It is what
-- `Lister::list` gives of a block for which the output has room; so blocks one after the other, and then the leftover bytes, are the listing of the whole
abbrev pub BlockByBlock : Type 0
BlockByBlock = (at : Lister) (block rest : List ℕ) (n : ℕ) → length block ≡ n * size → listing_from at (block ++ rest) ≡ lines_of n at block ++ listing_from (lister_past n at block) rest
