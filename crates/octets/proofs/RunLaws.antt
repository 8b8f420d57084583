-- Laws of runs: `same_run` is equality, and what `written` leaves and gives back. Assumes nothing.
use mathlib.Core.Path.{◌≡◌, refl, sym, ap, ap₂, ◌∙◌}
use mathlib.Core.Bool.{Bool, true, false, ◌&&◌}
use mathlib.Core.List.{List, [], ◌∷◌, ◌++◌, append_assoc}
use Prim.Native.Nat.{ℕ, ◌+◌, ◌≤◌, ◌<◌}
use native.Mathlib.Decide.{dec_lt}
use native.Mathlib.Omega.{arith}
use borrow.Author.Tests.{eqb-true, eq-eqb, leb-true, le-leb, lt-leb}
use lib.Dec.{eqb, leb}
use lib.ListN.{length, take, drop, length-append}
use lib.Pointwise.{pointwise}
use lib.Seq.{drop-drop, drop_at, take_at, take-length, take_all, length-take-le, paste, length-paste, take-paste, drop-paste}
use Rattle.octets.specs.Runs.{same_run, fits, written}

-- ---- equality

pub same_refl : (xs : List ℕ) → same_run xs xs ≡ true
unfolding same_run
same_refl [] = refl
same_refl (x ∷ xs) = rw (eq-eqb x x refl, same_refl xs)

pub same_true : (xs ys : List ℕ) → same_run xs ys ≡ true → xs ≡ ys
unfolding same_run
same_true [] [] h = refl
same_true [] (y ∷ ys) h = let z : ◌≡◌ {A = Bool} true false = sym h in cc
same_true (x ∷ xs) [] h = let z : ◌≡◌ {A = Bool} true false = sym h in cc
same_true (x ∷ xs) (y ∷ ys) h = go (eqb x y) refl (same_true xs ys) h
  where
    go : (t : Bool) → eqb x y ≡ t → (same_run xs ys ≡ true → xs ≡ ys) → (t && same_run xs ys) ≡ true → x ∷ xs ≡ y ∷ ys
    go true e rest k = ap₂ (λ (z : ℕ) (zs : List ℕ). z ∷ zs) (eqb-true x y e) (rest k)
    go false e rest k = let z : ◌≡◌ {A = Bool} true false = sym k in cc

-- what is not equal is not the same
pub same_other : (xs ys : List ℕ) → (xs ≡ ys → ⊥) → same_run xs ys ≡ false
same_other xs ys other = go (same_run xs ys) refl
  where
    go : (t : Bool) → same_run xs ys ≡ t → t ≡ false
    go true e = absurd (other (same_true xs ys e))
    go false e = refl

-- ---- a run written into a buffer

module _ (buffer : List ℕ) (at : ℕ) (run : List ℕ) where
  -- what `put` answers says that the run lies within the buffer
  pub fits_within : fits buffer at run ≡ true → at + length run ≤ length buffer
  unfolding fits
  fits_within yes' = leb-true (at + length run) (length buffer) yes'

  -- a run that does not fit leaves the buffer as it was
  pub written_not : length buffer < at + length run → (false ≡ fits buffer at run) × (buffer ≡ written buffer at run)
  unfolding fits written
  written_not past = let no : leb (at + length run) (length buffer) ≡ false = lt-leb _ _ past in (sym no, rw no)

  module _ (within : at + length run ≤ length buffer) where
    -- a run that fits is pasted whole
    pub written_whole : (true ≡ fits buffer at run) × (paste buffer at run (length run) ≡ written buffer at run)
    unfolding fits written
    written_whole =
        let yes' : leb (at + length run) (length buffer) ≡ true = le-leb _ _ within in
        (sym yes', rw (yes', take-length run))

    whole : written buffer at run ≡ take at buffer ++ (run ++ drop (at + length run) buffer)
    unfolding fits written
    whole = rw (le-leb (at + length run) (length buffer) within) (append_assoc (take at buffer) run (drop (at + length run) buffer))

    front : length (take at buffer) ≡ at
    front = length-take-le at buffer (omega arith)

    -- it is read back, and the bytes before it and after it are as they were
    pub written_back : take (length run) (drop at (written buffer at run)) ≡ run
    written_back =
        rw (whole, drop_at (take at buffer) (run ++ drop (at + length run) buffer) at front)
        (take_at run (drop (at + length run) buffer) (length run) refl)

    pub written_before : take at (written buffer at run) ≡ take at buffer
    written_before = rw whole (take_at (take at buffer) (run ++ drop (at + length run) buffer) at front)

    pub written_after : drop (at + length run) (written buffer at run) ≡ drop (at + length run) buffer
    written_after = rw (← written_whole.1) (drop-paste buffer at run (length run) (omega arith) (omega arith))

    -- the front of the buffer, up to the run's end
    pub written_front : take (at + length run) (written buffer at run) ≡ take at buffer ++ run
    written_front =
        rw (← written_whole.1) (take-paste buffer at run (length run) (omega arith) (omega arith) ∙ rw (take-length run))

    long : length (written buffer at run) ≡ length buffer
    long = rw (← written_whole.1) (length-paste buffer at run (length run) within (omega arith))

  pub length_written : length (written buffer at run) ≡ length buffer
  length_written = elim (dec_lt (length buffer) (at + length run)) [ yes past ↦ ap length (sym (written_not past).1) | no past ↦ long (omega arith) ]

-- two runs written one after the other are one run written
pub written_next : (buffer : List ℕ) (at : ℕ) (x y : List ℕ) → at + length x + length y ≤ length buffer
    → written (written buffer at x) (at + length x) y ≡ written buffer at (x ++ y)
written_next buffer at x y within =
    let w = written buffer at x in
    let n = at + length x in
    let inside : n ≤ length buffer = omega arith in
    let room : n + length y ≤ length w = omega (arith, length_written buffer at x) in
    let both : at + length (x ++ y) ≤ length buffer = omega (arith, length-append x y) in
    let end : at + length (x ++ y) ≡ n + length y = omega (arith, length-append x y) in
    let rest : drop (n + length y) w ≡ drop (n + length y) buffer =
    sym (drop-drop (length y) n w) ∙ ap (drop (length y)) (written_after buffer at x inside) ∙ drop-drop (length y) n buffer in
    whole w n y room
    ∙ ap₂ (λ (p q : List ℕ). p ++ (y ++ q)) (written_front buffer at x inside) rest
    ∙ append_assoc (take at buffer) x (y ++ drop (n + length y) buffer)
    ∙ ap (λ (q : List ℕ). take at buffer ++ q) (sym (append_assoc x y (drop (n + length y) buffer)))
    ∙ ap (λ (k : ℕ). take at buffer ++ ((x ++ y) ++ drop k buffer)) (sym end)
    ∙ sym (whole buffer at (x ++ y) both)

-- the second by the buffer that the first left
pub written_behind : (buffer x y b c : List ℕ) (at place : ℕ) → b ≡ written buffer at x → place ≡ at + length x → place + length y ≤ length buffer → c ≡ written b place y
    → c ≡ written buffer at (x ++ y)
written_behind buffer x y b c at place e is room f =
    f ∙ ap₂ (λ (l : List ℕ) (k : ℕ). written l k y) e is ∙ written_next buffer at x y (omega (arith, is))

-- a run written over a buffer of its own length
pub written_all : (buffer run : List ℕ) → length buffer ≡ length run → written buffer 0 run ≡ run
written_all buffer run e =
    sym (take_all (length run) (written buffer 0 run) (omega (arith, length_written buffer 0 run))) ∙ written_back buffer 0 run (omega arith)

-- ---- the library's words for the same

-- what `==` says of two runs
equal : (xs ys : List ℕ) → pointwise eqb xs ys ≡ same_run xs ys
unfolding same_run
equal [] [] = refl
equal [] (y ∷ ys) = refl
equal (x ∷ xs) [] = refl
equal (x ∷ xs) (y ∷ ys) = ap (λ (rest : Bool). eqb x y && rest) (equal xs ys)

pub equal_is : (xs ys : List ℕ) (answer : Bool) → answer ≡ pointwise eqb xs ys → answer ≡ same_run xs ys
equal_is xs ys answer is = is ∙ equal xs ys

-- runs of other lengths differ
pub same_lengths : (xs ys : List ℕ) → (length xs ≡ length ys → ⊥) → false ≡ same_run xs ys
same_lengths xs ys other = sym (same_other xs ys (λ e. other (ap length e)))
