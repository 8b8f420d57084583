-- The claims of specs/Vectors.antt, by computing the definitions. Assumes nothing.
use Rattle.std.proofs.Common.{refl}
use Rattle.octets.specs.Numbers.{le_number, le_bytes, be_bytes, printed}
use Rattle.secret.specs.Secret.{secret_of}
use Rattle.siphash.specs.SipHash.{sip_hash24_bytes, sip_hash24, rotl64, sip_round, rounds, initialized, compressed, word_at, absorbed, last_word, finalized}
use Rattle.siphash.specs.Vectors.{counted_from, vectors, computed, VectorsHold, OneByteHolds}

pub vectors_hold : VectorsHold
unfolding counted_from vectors computed secret_of sip_hash24_bytes sip_hash24 finalized absorbed compressed initialized last_word word_at rounds sip_round rotl64 le_number le_bytes be_bytes printed
vectors_hold = refl

pub one_byte_holds : OneByteHolds
unfolding last_word le_number
one_byte_holds = refl
