-- A rotation is the or of two shifts: no bit is set in both. A round is made of the library's rotations. Assumes nothing.
use Rattle.std.proofs.Common.{◌≡◌, ℕ, ◌+◌, ◌-◌, ◌*◌, ◌/◌, ◌%◌, ◌^◌, ◌<◌, sym, ap, ◌∙◌, subst, ap₂, add-zero, arith, shr_lt}
use native.Mathlib.Nat.{mul-mod_left}
use lib.Pow.{shl-shr, mod-pow-add}
use lib.Bits.{bit_or, bit_xor, or_shifted, xor_lt}
use Rattle.std.specs.Int.{w64, rotate_left}
use Rattle.siphash.specs.SipHash.{add64, rotl64, sip_round}
use Rattle.siphash.specs.declared.State.{State}

pub rotl64_is : (x n : ℕ) → x < 2 ^ 64 → n < 64 → bit_or (x * 2 ^ n % 2 ^ 64) (x / 2 ^ (64 - n)) ≡ rotl64 x n
unfolding rotl64
rotl64_is x n fits small =
    let back : (64 - n) + n ≡ 64 = omega arith in
    let forth : n + (64 - n) ≡ 64 = omega arith in
    let low : x / 2 ^ (64 - n) < 2 ^ n = shr_lt n (64 - n) (subst (λ (k : ℕ). x < 2 ^ k) (sym forth) fits) in
    let high : x * 2 ^ n % 2 ^ 64 ≡ x % 2 ^ (64 - n) * 2 ^ n =
    ap (λ (k : ℕ). x * 2 ^ n % 2 ^ k) (sym back) ∙ mod-pow-add (x * 2 ^ n) (64 - n) n
    ∙ ap₂ (λ (p q : ℕ). p % 2 ^ (64 - n) * 2 ^ n + q) (shl-shr x n) (mul-mod_left x (2 ^ n))
    ∙ add-zero (x % 2 ^ (64 - n) * 2 ^ n) in
    ap (λ (p : ℕ). bit_or p (x / 2 ^ (64 - n))) high
    ∙ or_shifted (x % 2 ^ (64 - n)) n (x / 2 ^ (64 - n)) low
    ∙ ap (λ (p : ℕ). p + x / 2 ^ (64 - n)) (sym high)

-- six rotations, three of each half; a letter counts the changes of a word, as in the definition
module _ (s : State) (fits1 : s.v1 < 2 ^ 64) (fits3 : s.v3 < 2 ^ 64) (r1 r3 b0 q1 q3 c2 : ℕ) (below1 : r1 < 2 ^ 64) (below3 : r3 < 2 ^ 64) where
  abbrev a0 : ℕ
  a0 = add64 s.v0 s.v1

  abbrev a2 : ℕ
  a2 = add64 s.v2 s.v3

  abbrev a1 : ℕ
  a1 = bit_xor r1 a0

  abbrev a3 : ℕ
  a3 = bit_xor r3 a2

  abbrev b2 : ℕ
  b2 = add64 a2 a1

  abbrev c0 : ℕ
  c0 = add64 b0 a3

  pub round_is : r1 ≡ rotate_left w64 s.v1 13 → r3 ≡ rotate_left w64 s.v3 16 → b0 ≡ rotate_left w64 a0 32
      → q1 ≡ rotate_left w64 a1 17 → q3 ≡ rotate_left w64 a3 21 → c2 ≡ rotate_left w64 b2 32
      → ◌≡◌ {A = State} (record { v0 = c0; v1 = bit_xor q1 b2; v2 = c2; v3 = bit_xor q3 c0 }) (sip_round s)
  unfolding sip_round
  round_is e1 e3 e0 f1 f3 f2 =
      let low0 : a0 < 2 ^ 64 = omega arith in
      let low2 : a2 < 2 ^ 64 = omega arith in
      let lowb : b2 < 2 ^ 64 = omega arith in
      let t1 = e1 ∙ rotl64_is s.v1 13 fits1 (omega arith) in
      let t3 = e3 ∙ rotl64_is s.v3 16 fits3 (omega arith) in
      let t0 = e0 ∙ rotl64_is a0 32 low0 (omega arith) in
      let u1 = f1 ∙ rotl64_is a1 17 (xor_lt 64 r1 a0 below1 low0) (omega arith) in
      let u3 = f3 ∙ rotl64_is a3 21 (xor_lt 64 r3 a2 below3 low2) (omega arith) in
      let u2 = f2 ∙ rotl64_is b2 32 lowb (omega arith) in
      cc
