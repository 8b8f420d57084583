-- The hash of a message of 20 or 32 bytes that is given as words. Assumes nothing.
use Rattle.std.proofs.Common.{◌≡◌, ℕ, ◌+◌, ◌^◌, ◌<◌, List, ◌++◌, refl}
use Rattle.octets.specs.Numbers.{le_number, le_bytes}
use Rattle.octets.proofs.NumberLaws.{le_back}
use Rattle.secret.specs.declared.Secret.{Secret}
use Rattle.siphash.specs.SipHash.{initialized, compressed, word_at, absorbed, last_word, finalized, sip_hash24}
use Rattle.siphash.specs.declared.State.{State}

abbrev pub m20 : ℕ → ℕ → ℕ → List ℕ
m20 w0 w1 last = le_bytes 8 w0 ++ (le_bytes 8 w1 ++ le_bytes 4 last)

abbrev pub m32 : ℕ → ℕ → ℕ → ℕ → List ℕ
m32 w0 w1 w2 w3 = le_bytes 8 w0 ++ (le_bytes 8 w1 ++ (le_bytes 8 w2 ++ le_bytes 8 w3))

pub hash_20 : (key : Secret) (w0 w1 last : ℕ) → sip_hash24 key (m20 w0 w1 last)
    ≡ finalized (compressed (compressed (compressed (initialized key) (le_number (le_bytes 8 w0))) (le_number (le_bytes 8 w1))) (le_number (le_bytes 4 last) + 0x1400000000000000))
unfolding sip_hash24 absorbed word_at last_word le_bytes
hash_20 key w0 w1 last = refl

pub hash_32 : (key : Secret) (w0 w1 w2 w3 : ℕ) → sip_hash24 key (m32 w0 w1 w2 w3)
    ≡ finalized (compressed (compressed (compressed (compressed (compressed (initialized key) (le_number (le_bytes 8 w0))) (le_number (le_bytes 8 w1))) (le_number (le_bytes 8 w2))) (le_number (le_bytes 8 w3))) 0x2000000000000000)
unfolding sip_hash24 absorbed word_at last_word le_bytes le_number
hash_32 key w0 w1 w2 w3 = refl

pub given_20 : (key : Secret) (w0 w1 last word r : ℕ) (s₀ s₁ s₂ s₃ : State) → w0 < 2 ^ 64 → w1 < 2 ^ 64 → last < 2 ^ 32
    → s₀ ≡ initialized key → s₁ ≡ compressed s₀ w0 → s₂ ≡ compressed s₁ w1 → word ≡ last + 0x1400000000000000 → s₃ ≡ compressed s₂ word
    → r ≡ finalized s₃ → r ≡ sip_hash24 key (m20 w0 w1 last)
given_20 key w0 w1 last word r s₀ s₁ s₂ s₃ b0 b1 b2 e0 e1 e2 ew e3 er =
    let a : le_number (le_bytes 8 w0) ≡ w0 = le_back 8 w0 b0 in
    let b : le_number (le_bytes 8 w1) ≡ w1 = le_back 8 w1 b1 in
    let c : le_number (le_bytes 4 last) ≡ last = le_back 4 last b2 in
    let h = hash_20 key w0 w1 last in
    cc

pub given_32 : (key : Secret) (w0 w1 w2 w3 r : ℕ) (s₀ s₁ s₂ s₃ s₄ s₅ : State) → w0 < 2 ^ 64 → w1 < 2 ^ 64 → w2 < 2 ^ 64 → w3 < 2 ^ 64
    → s₀ ≡ initialized key → s₁ ≡ compressed s₀ w0 → s₂ ≡ compressed s₁ w1 → s₃ ≡ compressed s₂ w2 → s₄ ≡ compressed s₃ w3
    → s₅ ≡ compressed s₄ 0x2000000000000000 → r ≡ finalized s₅ → r ≡ sip_hash24 key (m32 w0 w1 w2 w3)
given_32 key w0 w1 w2 w3 r s₀ s₁ s₂ s₃ s₄ s₅ b0 b1 b2 b3 e0 e1 e2 e3 e4 e5 er =
    let a : le_number (le_bytes 8 w0) ≡ w0 = le_back 8 w0 b0 in
    let b : le_number (le_bytes 8 w1) ≡ w1 = le_back 8 w1 b1 in
    let c : le_number (le_bytes 8 w2) ≡ w2 = le_back 8 w2 b2 in
    let d : le_number (le_bytes 8 w3) ≡ w3 = le_back 8 w3 b3 in
    let h = hash_32 key w0 w1 w2 w3 in
    cc
