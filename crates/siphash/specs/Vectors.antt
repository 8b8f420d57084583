-- Published vectors of SipHash-2-4 in one table under one claim: the six hashes of document 01's P1 to P6 (RFC 9018, appendix A; appendix B of its
-- draft, source 001, which document 01 cites), the SipHash paper's own (appendix A), and one that is longer than any of them. Assumes nothing.
use Rattle.std.specs.Prelude.{◌≡◌, ℕ, zero, suc, ◌+◌, ◌%◌, List, [], ◌∷◌, map}
use Rattle.octets.specs.Numbers.{printed}
use Rattle.secret.specs.Secret.{secret_of}
use Rattle.siphash.specs.SipHash.{sip_hash24, sip_hash24_bytes, last_word}

-- a key of 16 bytes, a message, and its hash as a number and as eight bytes
pub record Vector : Type 0 where
  pub key : List ℕ
  pub message : List ℕ
  pub number : ℕ
  pub bytes : List ℕ

-- n bytes that count up from i, modulo 256
unfoldable pub counted_from : ℕ → ℕ → List ℕ
counted_from i zero = []
counted_from i (suc n) = i % 256 ∷ counted_from (i + 1) n

-- the table. Keys, messages and bytes stand as the papers print them
unfoldable pub vectors : List Vector
vectors =
    -- P1
    record { key = printed 16 0xe5e973e5a6b2a43f48e7dc849e37bfcf; message = printed 20 0x2464c4abcf10c957010000005cf79f11c6336464; number = 0x8094e2eec330811f; bytes = printed 8 0x1f8130c3eee29480 } ∷
    -- P2
    record { key = printed 16 0xe5e973e5a6b2a43f48e7dc849e37bfcf; message = printed 20 0x2464c4abcf10c957010000005cf7a871c6336464; number = 0x77ca2a44a164a5d4; bytes = printed 8 0xd4a564a1442aca77 } ∷
    -- P3, reserved bytes set
    record { key = printed 16 0xe5e973e5a6b2a43f48e7dc849e37bfcf; message = printed 20 0xfc93fc62807ddb8601abcdef5cf78f71cb0071cb; number = 0xf5eb79667b2214a3; bytes = printed 8 0xa314227b6679ebf5 } ∷
    -- P4
    record { key = printed 16 0xe5e973e5a6b2a43f48e7dc849e37bfcf; message = printed 20 0xfc93fc62807ddb86010000005cf7a9accb0071cb; number = 0x1e38a2ac10783af7; bytes = printed 8 0xf73a7810aca2381e } ∷
    -- P5
    record { key = printed 16 0xdd3bdf9344b678b185a6f5cb60fca715; message = printed 32 0x22681ab97d52c298010000005cf7c57920010db80220000159ded0f4876982b8; number = 0xf8724c93d06b5526; bytes = printed 8 0x26556bd0934c72f8 } ∷
    -- P6
    record { key = printed 16 0x445536bcd2513298075a5d379663c962; message = printed 32 0x22681ab97d52c298010000005cf7c60920010db80220000159ded0f4876982b8; number = 0x7a502566d179bba6; bytes = printed 8 0xa6bb79d16625507a } ∷
    -- the SipHash paper, which prints the number
    record { key = printed 16 0x000102030405060708090a0b0c0d0e0f; message = printed 15 0x000102030405060708090a0b0c0d0e; number = 0xa129ca6149be45e5; bytes = printed 8 0xe545be4961ca29a1 } ∷
    -- 449 bytes: what OpenSSL's SIPHASH gives. Bits 6 and 7 of the length are set, so that modulo 64 or 128 does not pass for modulo 256
    record { key = printed 16 0x000102030405060708090a0b0c0d0e0f; message = counted_from 0 449; number = 0x026a121b38e0aa86; bytes = printed 8 0x86aae0381b126a02 } ∷ []

-- a row with the hash that the definitions give
unfoldable pub computed : Vector → Vector
computed v =
    record {
      key = v.key;
      message = v.message;
      number = sip_hash24 (secret_of v.key) v.message;
      bytes = sip_hash24_bytes (secret_of v.key) v.message;
    }

-- the claim: the definitions give every hash of the table
abbrev pub VectorsHold : Type 0
VectorsHold = map computed vectors ≡ vectors

-- the paper's example of a last word, in section 2: the one byte ab
abbrev pub OneByteHolds : Type 0
OneByteHolds = last_word (0xab ∷ []) ≡ 0x01000000000000ab
