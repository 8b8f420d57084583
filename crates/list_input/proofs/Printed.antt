-- What is printed, block by block, is the listing of the whole journal. Assumes nothing.
use Rattle.std.proofs.Common.{ℕ, ◌*◌, ◌≡◌, refl, sym, ap₂, ◌∙◌, List, [], ◌∷◌, ◌++◌, append-nil, arith, length}
use Rattle.listing.specs.declared.Lister.{Lister}
use Rattle.listing.specs.Listing.{size, fresh_lister, lines_of, lister_past, listing_from}
use Rattle.listing.proofs.Claims.{block_by_block}
use Rattle.list_input.specs.Text.{records, text_of, AllWhole, joined, printed, PrintsListing}

printed_is : (at : Lister) (blocks : List (List ℕ)) (last : List ℕ) → AllWhole blocks → printed at blocks last ≡ listing_from at (joined blocks last)
unfolding printed text_of listing_from
printed_is at [] last whole = refl
printed_is at (block ∷ blocks) last whole =
    let long : length block ≡ records block * size = omega (arith, whole.0) in
    let after = lister_past (records block) at block in
    ap₂ (λ (x y : List ℕ). x ++ y) (append-nil (lines_of (records block) at block)) (printed_is after blocks last whole.1)
    ∙ sym (block_by_block at block (joined blocks last) (records block) long)

pub prints_listing : PrintsListing
prints_listing blocks last whole = printed_is fresh_lister blocks last whole
