-- SipHash-2-4, from J.-P. Aumasson and D. J. Bernstein, "SipHash: a fast short-input PRF", section 2, and document 01, "The verdict". A word is a
-- number below 2 ^ 64, a message a list of bytes, a key a secret: its two words. `bit_xor` is the language's `^`. Assumes nothing.
use Rattle.std.specs.Prelude.{ℕ, zero, suc, ◌+◌, ◌-◌, ◌*◌, ◌/◌, ◌%◌, ◌^◌, List, length, take, drop, bit_xor}
use Rattle.octets.specs.Numbers.{le_number, le_bytes}
use Rattle.secret.specs.declared.Secret.{Secret}
use Rattle.siphash.specs.declared.State.{State}

-- the sum of two words, modulo 2 ^ 64
abbrev pub add64 : ℕ → ℕ → ℕ
add64 a b = (a + b) % 2 ^ 64

-- a word rotated left by n bits, 0 < n < 64
unfoldable pub rotl64 : ℕ → ℕ → ℕ
rotl64 x n = x * 2 ^ n % 2 ^ 64 + x / 2 ^ (64 - n)

-- SipRound (figure 2.1). A letter counts the changes of a word: a0 is v0 after its first, c0 after its third. A rotation of v1 or v3 and the
-- exclusive-or that follows it are one change
unfoldable pub sip_round : State → State
sip_round s =
    let a0 = add64 s.v0 s.v1 in
    let a2 = add64 s.v2 s.v3 in
    let a1 = bit_xor (rotl64 s.v1 13) a0 in
    let a3 = bit_xor (rotl64 s.v3 16) a2 in
    let b0 = rotl64 a0 32 in
    let b2 = add64 a2 a1 in
    let c0 = add64 b0 a3 in
    let b1 = bit_xor (rotl64 a1 17) b2 in
    let b3 = bit_xor (rotl64 a3 21) c0 in
    let c2 = rotl64 b2 32 in
    record { v0 = c0; v1 = b1; v2 = c2; v3 = b3 }

-- n rounds
unfoldable pub rounds : ℕ → State → State
rounds zero s = s
rounds (suc n) s = rounds n (sip_round s)

-- initialization: the key's words into the four constants
unfoldable pub initialized : Secret → State
initialized key =
    record {
      v0 = bit_xor key.k0 0x736f6d6570736575;
      v1 = bit_xor key.k1 0x646f72616e646f6d;
      v2 = bit_xor key.k0 0x6c7967656e657261;
      v3 = bit_xor key.k1 0x7465646279746573;
    }

-- compression of one word: two rounds
unfoldable pub compressed : State → ℕ → State
compressed s word =
    let r = rounds 2 (record { v0 = s.v0; v1 = s.v1; v2 = s.v2; v3 = bit_xor s.v3 word }) in
    record { v0 = bit_xor r.v0 word; v1 = r.v1; v2 = r.v2; v3 = r.v3 }

-- the word at index i of a message
unfoldable pub word_at : List ℕ → ℕ → ℕ
word_at message i = le_number (take 8 (drop (i * 8) message))

-- the state s once it has taken in the first n words of a message
unfoldable pub absorbed : ℕ → List ℕ → State → State
absorbed zero message s = s
absorbed (suc n) message s = compressed (absorbed n message s) (word_at message n)

-- the last word: the bytes past the last whole word, with the message's length modulo 256 in the top byte
unfoldable pub last_word : List ℕ → ℕ
last_word message = le_number (drop (length message / 8 * 8) message) + length message % 256 * 2 ^ 56

-- finalization: four rounds
unfoldable pub finalized : State → ℕ
finalized s =
    let r = rounds 4 (record { v0 = s.v0; v1 = s.v1; v2 = bit_xor s.v2 255; v3 = s.v3 }) in
    bit_xor (bit_xor r.v0 r.v1) (bit_xor r.v2 r.v3)

-- the key of two words
abbrev pub key_of : ℕ → ℕ → Secret
key_of k0 k1 = record { k0 = k0; k1 = k1 }

-- SipHash-2-4 of a message under a key, as a number
unfoldable pub sip_hash24 : Secret → List ℕ → ℕ
sip_hash24 key message = finalized (compressed (absorbed (length message / 8) message (initialized key)) (last_word message))

-- the same as its eight bytes, written little-endian
unfoldable pub sip_hash24_bytes : Secret → List ℕ → List ℕ
sip_hash24_bytes key message = le_bytes 8 (sip_hash24 key message)
