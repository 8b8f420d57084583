-- A journal may be listed block by block. Assumes nothing.
use Rattle.std.proofs.Common.{◌≡◌, ℕ, zero, suc, ◌+◌, ◌*◌, ◌/◌, ◌%◌, ◌≤◌, List, [], ◌∷◌, ◌++◌, length, take, drop, sym, refl, ap, ◌∙◌, ap₂, append_assoc, suc-add, zero-add, arith, length-append, length-drop}
use lib.Seq.{take-append-le, drop-append-le}
use Rattle.listing.specs.declared.Lister.{Lister}
use Rattle.listing.specs.Claims.{BlockByBlock}
use Rattle.listing.specs.Listing.{size, row_of, lister_after, lines_of, lister_past, tail_line, listing_from}
use Rattle.rows.specs.Rows.{row_line}

nothing : (xs : List ℕ) → length xs ≡ 0 → xs ≡ []
nothing [] e = refl
nothing (x ∷ xs) e = absurd (omega (arith, e))

-- the lines of n records that a block holds, and of k behind it
blocks : (n k : ℕ) (at : Lister) (block rest : List ℕ) → length block ≡ n * size → lines_of (n + k) at (block ++ rest) ≡ lines_of n at block ++ lines_of k (lister_past n at block) rest
unfolding lines_of lister_past
blocks zero k at block rest e =
    ap₂ (λ (j : ℕ) (xs : List ℕ). lines_of j at (xs ++ rest)) (zero-add k) (nothing block (e ∙ omega arith))
blocks (suc n) k at block rest e =
    let long : size ≤ length block = omega arith in
    let less : length (drop size block) ≡ n * size = omega (arith, length-drop size block) in
    let first = take size block in
    ap (λ (j : ℕ). lines_of j at (block ++ rest)) (suc-add n k)
    ∙ ap₂ (λ (xs ys : List ℕ). row_line (row_of at xs) ++ lines_of (n + k) (lister_after at xs) ys) (take-append-le size block rest long) (drop-append-le size block rest long)
    ∙ ap (λ (x : List ℕ). row_line (row_of at first) ++ x) (blocks n k (lister_after at first) (drop size block) rest less)
    ∙ sym (append_assoc (row_line (row_of at first)) (lines_of n (lister_after at first) (drop size block)) (lines_of k (lister_past n (lister_after at first) (drop size block)) rest))

pub block_by_block : BlockByBlock
unfolding listing_from
block_by_block at block rest n e =
    let count : length (block ++ rest) / size ≡ n + length rest / size = omega (arith, length-append block rest) in
    let left : length (block ++ rest) % size ≡ length rest % size = omega (arith, length-append block rest) in
    ap₂ (λ (j t : ℕ). lines_of j at (block ++ rest) ++ tail_line t) count left
    ∙ ap (λ (x : List ℕ). x ++ tail_line (length rest % size)) (blocks n (length rest / size) at block rest e)
    ∙ append_assoc (lines_of n at block) (lines_of (length rest / size) (lister_past n at block) rest) (tail_line (length rest % size))
