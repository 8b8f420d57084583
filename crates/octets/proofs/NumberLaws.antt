-- Numbers and their bytes say the same: each is read back from the other. Assumes nothing.
use mathlib.Core.Path.{◌≡◌, refl, sym, ap, ap₂, ◌∙◌}
use mathlib.Core.List.{List, [], ◌∷◌}
use Prim.Native.Nat.{ℕ, zero, suc, ◌+◌, ◌*◌, ◌/◌, ◌%◌, ◌^◌, ◌<◌}
use Rattle.std.specs.Int.{byte_at, bytes_low_first, bytes_high_first}
use native.Mathlib.Nat.{mod-one, mod-eq_of_lt, pow-suc, pow-succ', one-le-pow, div-one, div-div-eq-div-mul}
use native.Mathlib.Omega.{arith}
use lib.Arith.{mod-mul}
use lib.ListN.{length, get_or}
use Rattle.octets.specs.Numbers.{le_number, le_bytes, be_number, be_bytes}

positive : (n : ℕ) → 0 < 256 ^ n
positive n = one-le-pow n 256 (omega arith)

pub length_le_bytes : (n x : ℕ) → length (le_bytes n x) ≡ n
unfolding le_bytes
length_le_bytes zero x = refl
length_le_bytes (suc n) x = ap suc (length_le_bytes n (x / 256))

pub length_be_bytes : (n x : ℕ) → length (be_bytes n x) ≡ n
unfolding be_bytes
length_be_bytes zero x = refl
length_be_bytes (suc n) x = ap suc (length_be_bytes n x)

-- the n lowest bytes of x are x modulo 256 ^ n
pub le_low : (n x : ℕ) → le_number (le_bytes n x) ≡ x % 256 ^ n
unfolding le_number le_bytes
le_low zero x = sym (mod-one x)
le_low (suc n) x =
    let rest : le_number (le_bytes n (x / 256)) ≡ x / 256 % 256 ^ n = le_low n (x / 256) in
    let whole : x % 256 ^ suc n ≡ x / 256 % 256 ^ n * 256 + x % 256 = rw pow-suc (mod-mul x (positive n) (omega arith)) in
    rw (rest, whole) (omega arith)

pub be_low : (n x : ℕ) → be_number (be_bytes n x) ≡ x % 256 ^ n
unfolding be_number be_bytes
be_low zero x = sym (mod-one x)
be_low (suc n) x =
    ap₂ (λ (k rest : ℕ). x / 256 ^ n % 256 * 256 ^ k + rest) (length_be_bytes n x) (be_low n x)
    ∙ sym (ap (λ (m : ℕ). x % m) (pow-succ' 256 n) ∙ mod-mul x (omega arith) (positive n))

-- a number below 256 ^ n is read back from its n bytes
pub le_back : (n x : ℕ) → x < 256 ^ n → le_number (le_bytes n x) ≡ x
le_back n x below = le_low n x ∙ mod-eq_of_lt below

pub be_back : (n x : ℕ) → x < 256 ^ n → be_number (be_bytes n x) ≡ x
be_back n x below = be_low n x ∙ mod-eq_of_lt below

-- a run of bytes is written back from its number
pub le_again : (bs : List ℕ) → ((i : ℕ) → get_or bs i 0 < 256) → le_bytes (length bs) (le_number bs) ≡ bs
unfolding le_number le_bytes
le_again [] bytes = refl
le_again (b ∷ bs) bytes =
    let byte : b < 256 = bytes 0 in
    let low : (b + 256 * le_number bs) % 256 ≡ b = omega arith in
    let high : (b + 256 * le_number bs) / 256 ≡ le_number bs = omega arith in
    rw (low, high) (ap (λ (rest : List ℕ). b ∷ rest) (le_again bs (λ i. bytes (suc i))))

-- ---- the library's words for the same

-- from its i-th byte on a number's bytes are those of what is above the i bytes before
low_first : (k i n : ℕ) → bytes_low_first i k n ≡ le_bytes k (n / 256 ^ i)
unfolding le_bytes
low_first zero i n = refl
low_first (suc k) i n =
    ap₂ (λ (b : ℕ) (bs : List ℕ). b ∷ bs) (here i) (low_first k (suc i) n ∙ ap (le_bytes k) (sym (div-div-eq-div-mul n (256 ^ i) 256 ∙ ap (λ (p : ℕ). n / p) (sym (pow-suc 256 i)))))
  where
    here : (i : ℕ) → byte_at i n ≡ n / 256 ^ i % 256
    here zero = sym (ap (λ (q : ℕ). q % 256) (div-one n))
    here (suc i) = refl

pub le_written : (k n : ℕ) (bytes : List ℕ) → bytes ≡ bytes_low_first 0 k n → bytes ≡ le_bytes k n
le_written k n bytes is = is ∙ low_first k 0 n ∙ ap (le_bytes k) (div-one n)

high_first : (k n : ℕ) → bytes_high_first k n ≡ be_bytes k n
unfolding be_bytes
high_first zero n = refl
high_first (suc k) n = ap₂ (λ (b : ℕ) (bs : List ℕ). b ∷ bs) (here k) (high_first k n)
  where
    here : (i : ℕ) → byte_at i n ≡ n / 256 ^ i % 256
    here zero = sym (ap (λ (q : ℕ). q % 256) (div-one n))
    here (suc i) = refl

pub be_written : (k n : ℕ) (bytes : List ℕ) → bytes ≡ bytes_high_first k n → bytes ≡ be_bytes k n
be_written k n bytes is = is ∙ high_first k n
