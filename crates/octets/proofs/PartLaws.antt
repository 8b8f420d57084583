-- Parts of a run: the places where one starts and ends, against its bytes. A reader of bytes gives the places, a grammar the bytes. Assumes nothing.
use Prim.Native.Nat.{ℕ, ◌+◌, ◌-◌, ◌≤◌, ◌<◌}
use mathlib.Core.Path.{◌≡◌, refl, sym, ap, ◌∙◌}
use mathlib.Core.Bool.{Bool, true, false, cond}
use mathlib.Core.List.{List, [], ◌∷◌, ◌++◌, append_assoc, append-nil}
use mathlib.Core.Option.{Option, none, some, bind, none-ne-some}
use native.Mathlib.Nat.{add-zero}
use native.Mathlib.Numerals.{add-one}
use native.Mathlib.Omega.{arith}
use borrow.Author.Tests.{leb-true}
use lib.Dec.{leb}
use lib.ListN.{length, take, drop, get_or, length-append, length-drop, take-append-drop, get_or-append}
use lib.Seq.{drop-cons, drop-drop, drop-length, drop_at, take_at, get_or-drop, length-take-le}
use Rattle.octets.proofs.ReadLaws.{be16_at_lem}
use Rattle.octets.specs.Runs.{Stands, Standing}
use Rattle.octets.specs.Numbers.{be_number, be16_at}

-- ---- parts

-- one behind the other
pub join : {s : List ℕ} {at m end : ℕ} {p q : List ℕ} → Stands s at m p → Stands s m end q → Stands s at end (p ++ q)
join {s} {end = end} {p = p} {q = q} a b =
    record {
      here = a.here ∙ ap (λ (l : List ℕ). p ++ l) b.here ∙ sym (append_assoc p q (drop end s));
      ends = omega (arith, a.ends, b.ends, length-append p q);
    }

pub behind : (s : List ℕ) (at : ℕ) (p q : List ℕ) → drop at s ≡ p ++ q → drop (at + length p) s ≡ q
behind s at p q e = sym (drop-drop (length p) at s) ∙ ap (drop (length p)) e ∙ drop_at p q (length p) refl

-- and apart again
module _ (s : List ℕ) (at end : ℕ) (p q : List ℕ) (w : Stands s at end (p ++ q)) where
  both : drop at s ≡ p ++ (q ++ drop end s)
  both = w.here ∙ append_assoc p q (drop end s)

  pub left : Stands s at (at + length p) p
  left = record { here = both ∙ ap (λ (l : List ℕ). p ++ l) (sym (behind s at p (q ++ drop end s) both)); ends = refl }

  pub right : Stands s (at + length p) end q
  right = record { here = behind s at p (q ++ drop end s) both; ends = omega (arith, w.ends, length-append p q) }

-- the whole
pub all_stands : (s : List ℕ) → Stands s 0 (length s) s
all_stands s = record { here = sym (append-nil s) ∙ ap (λ (l : List ℕ). s ++ l) (sym (drop-length s)); ends = omega arith }

-- a part that starts within the run, or is not empty, ends within it
module _ (s : List ℕ) (at end : ℕ) (p : List ℕ) (w : Stands s at end p) where
  over : length s - at ≡ length p + (length s - end)
  over = sym (length-drop at s) ∙ ap length w.here ∙ length-append p (drop end s) ∙ ap (λ (k : ℕ). length p + k) (length-drop end s)

  pub inside : at ≤ length s → end ≤ length s
  inside l = omega (arith, over, w.ends, l)

  pub filled : 1 ≤ length p → end ≤ length s
  filled l = omega (arith, over, w.ends, l)

  -- it is what is taken between the two
  pub taken : take (end - at) (drop at s) ≡ p
  taken = ap (take (end - at)) w.here ∙ take_at p (drop end s) (end - at) (omega (arith, w.ends))

-- so many bytes
abbrev pub Bytes : ℕ → List ℕ → Type 0
Bytes n p = length p ≡ n

pub bytes : (s : List ℕ) (at n end : ℕ) → end ≡ at + n → end ≤ length s → Standing (Bytes n) s at end
bytes s at n end e fits =
    let long : length (take n (drop at s)) ≡ n = length-take-le n (drop at s) (omega (arith, length-drop at s, e)) in
    record {
      part = take n (drop at s);
      stands =
          record {
            here = sym (take-append-drop n (drop at s)) ∙ ap (λ (l : List ℕ). take n (drop at s) ++ l) (drop-drop n at s ∙ ap (λ (k : ℕ). drop k s) (sym e));
            ends = e ∙ ap (λ (k : ℕ). at + k) (sym long);
          };
      holds = long;
    }

-- ---- what is read at a place

pub byte : (s : List ℕ) (at : ℕ) → at < length s → Stands s at (at + 1) (get_or s at 0 ∷ [])
byte s at l = record { here = rw add-one (drop-cons s at 0 l); ends = refl }

pub byte_in : (s : List ℕ) (at end : ℕ) (p : List ℕ) → Stands s at end p → (i : ℕ) → i < length p → get_or s (at + i) 0 ≡ get_or p i 0
byte_in s at end p w i l = sym (get_or-drop at s i 0) ∙ ap (λ (r : List ℕ). get_or r i 0) w.here ∙ get_or-append p (drop end s) 0 i l

pub first_byte : (s : List ℕ) (at end b : ℕ) (q : List ℕ) → Stands s at end (b ∷ q) → get_or s at 0 ≡ b
first_byte s at end b q w = ap (λ (i : ℕ). get_or s i 0) (sym (add-zero at)) ∙ byte_in s at end (b ∷ q) w 0 (omega arith)

-- two bytes are read as their number
pub number : (s : List ℕ) (at end : ℕ) (x : List ℕ) → Stands s at end x → length x ≡ 2 → be16_at s at ≡ be_number x
number s at end x w two =
    let fits = filled s at end x w (omega (arith, two)) in
    be16_at_lem at s (omega (arith, fits, w.ends, two)) ∙ ap be_number (ap (take 2) w.here ∙ take_at x (drop end s) 2 two)

-- ---- what a reader's answer tells

pub bind_told : {A B : Type 0} (x : Option A) (f : A → Option B) (y : B) → bind x f ≡ some y → (a : A) × (x ≡ some a) × (f a ≡ some y)
unfolding bind
bind_told none f y h = absurd (none-ne-some y h)
bind_told (some a) f y h = (a, refl, h)

pub test_told : {A : Type 0} (x y : ℕ) (a b : A) → cond (leb x y) (some a) none ≡ some b → (x ≤ y) × (a ≡ b)
test_told x y a b h = go (leb x y) refl h
  where
    go : (t : Bool) → leb x y ≡ t → cond t (some a) none ≡ some b → (x ≤ y) × (a ≡ b)
    go true p q = (leb-true x y p, cc q)
    go false p q = absurd (none-ne-some b q)
