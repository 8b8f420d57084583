-- What the proofs of `is_address`, `word` and `Address::read` cite: lengths, and words of bytes. Assumes nothing.
use Rattle.std.proofs.Common.{◌≡◌, ℕ, ◌+◌, ◌≤◌, ◌<◌, Bool, true, false, leb, cond, List, ◌++◌, length, take, drop, get_or, Option, Some, None, IsSome, option_map, sym, refl, ap, ap₂, ◌∙◌, arith, eq-eqb, ne_eqb, le-leb, length-take-le, take-append-drop, w8, Fits}
use borrow.Author.Tests.{lt-leb}
use lib.Seq.{take-add, take_all}
use Rattle.octets.specs.Numbers.{le_number, le_bytes}
use Rattle.octets.specs.Runs.{bytes_at}
use Rattle.octets.proofs.ReadLaws.{part_again}
use Rattle.octets.proofs.ReadLaws as read
use Rattle.verdict.proofs.ReplyLaws.{and_false}
use Rattle.cookie.specs.Hashed.{address_bytes, address_in, hashed_in}
use Rattle.cookie.specs.declared.hashed.Address.{Address}
use Rattle.cookie.specs.declared.hashed.Address.TheVariants.{V4, V6}
use Rattle.cookie.specs.ServerCookie.{is_address}

-- ---- lengths

module _ (s : List ℕ) where
  pub is_4 : length s ≡ 4 → true ≡ is_address s
  unfolding is_address
  is_4 e = rw (eq-eqb (length s) 4 e)

  pub is_16 : length s ≡ 16 → true ≡ is_address s
  unfolding is_address
  is_16 e = rw e

  pub is_neither : (length s ≡ 4 → ⊥) → (length s ≡ 16 → ⊥) → false ≡ is_address s
  unfolding is_address
  is_neither n4 n16 = rw (ne_eqb (length s) 4 n4, ne_eqb (length s) 16 n16)

-- ---- words

-- eight bytes from a place on, read as a word, are the bytes of that word
pub word_is : (s : List ℕ) (at w : ℕ) → at + 8 ≤ length s → ((i : ℕ) → Fits w8 (get_or s i 0)) → w ≡ le_number (take 8 (drop at s)) → le_bytes 8 w ≡ take 8 (drop at s)
word_is s at w within bytes e = ap (le_bytes 8) e ∙ part_again 8 at s within (λ i. (bytes i).fits)

-- ---- an address read

-- the words of 4 or 16 bytes are those bytes
pub read_4 : (s : List ℕ) → length s ≡ 4 → ((i : ℕ) → Fits w8 (get_or s i 0)) → (four : List ℕ) (word : ℕ)
    → four ≡ bytes_at 4 s 0 → word ≡ le_number four → Some (le_bytes 4 word) ≡ address_in s
read_4 s long bytes four word are e =
    let whole : le_bytes 4 word ≡ s =
    ap (le_bytes 4) (read.word_is 4 s 0 four word are e) ∙ part_again 4 0 s (omega arith) (λ i. (bytes i).fits) ∙ take_all 4 s (omega arith) in
    rw (whole, ← is_4 s long) refl

pub read_16 : (s : List ℕ) → length s ≡ 16 → (w2 w3 : ℕ) → le_bytes 8 w2 ≡ take 8 s → le_bytes 8 w3 ≡ take 8 (drop 8 s)
    → Some (le_bytes 8 w2 ++ le_bytes 8 w3) ≡ address_in s
read_16 s long w2 w3 low high =
    let whole : le_bytes 8 w2 ++ le_bytes 8 w3 ≡ s = ap₂ (λ (x y : List ℕ). x ++ y) low high ∙ sym (take-add 8 8 s) ∙ take_all 16 s (omega arith) in
    rw (whole, ← is_16 s long) refl

pub read_neither : (s : List ℕ) → (length s ≡ 4 → ⊥) → (length s ≡ 16 → ⊥) → None ≡ address_in s
read_neither s n4 n16 = rw (← is_neither s n4 n16) refl

-- what is read is an address, and what isn't is none
pub not_read : (s : List ℕ) → None ≡ address_in s → is_address s ≡ false
not_read s e = by (is_address s) e
  where
    by : (b : Bool) → None ≡ cond b (Some s) None → b ≡ false
    by true e = cc
    by false e = refl

pub is_read : (s x : List ℕ) → Some x ≡ address_in s → (is_address s ≡ true) × (x ≡ s)
is_read s x e = by (is_address s) e
  where
    by : (b : Bool) → Some x ≡ cond b (Some s) None → (b ≡ true) × (x ≡ s)
    by true e = (refl, cc)
    by false e = cc

pub read_some : (s : List ℕ) → is_address s ≡ true → (r : Option Address) → option_map address_bytes r ≡ address_in s → IsSome r
read_some s is (Some a) e = refl
read_some s is None e = by (is_address s) is e
  where
    by : (b : Bool) → b ≡ true → None ≡ cond b (Some s) None → IsSome {T = Address} None
    by true q e = cc
    by false q e = cc

-- the bytes of an address are one
pub address_true : (a : Address) → is_address (address_bytes a) ≡ true
unfolding is_address le_bytes
address_true (V4 word) = refl
address_true (V6 low high) = refl

-- what is hashed, read of its bytes: too few, no address behind the first 16, and both there
pub hashed_short : (s : List ℕ) → length s < 16 → None ≡ hashed_in s
hashed_short s short = rw (lt-leb 16 (length s) short) refl

pub hashed_other : (s : List ℕ) → None ≡ address_in (drop 16 s) → None ≡ hashed_in s
hashed_other s none = rw (not_read (drop 16 s) none, and_false (leb 16 (length s))) refl

pub hashed_read : (s : List ℕ) → 16 ≤ length s → (w0 w1 : ℕ) → le_bytes 8 w0 ≡ take 8 (take 16 s) → le_bytes 8 w1 ≡ take 8 (drop 8 (take 16 s))
    → (address : List ℕ) → Some address ≡ address_in (drop 16 s) → Some (le_bytes 8 w0 ++ le_bytes 8 w1 ++ address) ≡ hashed_in s
hashed_read s long w0 w1 low high address from =
    let read = is_read (drop 16 s) address from in
    let front : length (take 16 s) ≡ 16 = length-take-le 16 s long in
    let words : le_bytes 8 w0 ++ le_bytes 8 w1 ≡ take 16 s =
    ap₂ (λ (x y : List ℕ). x ++ y) low high ∙ sym (take-add 8 8 (take 16 s)) ∙ take_all 16 (take 16 s) (omega arith) in
    let whole : le_bytes 8 w0 ++ le_bytes 8 w1 ++ address ≡ s = ap₂ (λ (x y : List ℕ). x ++ y) words read.1 ∙ take-append-drop 16 s in
    rw (whole, le-leb 16 (length s) long, read.0) refl
