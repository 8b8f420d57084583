-- Each answer of `last_word` and of the loop of `siphash24` over plain values. Assumes nothing.
use Rattle.std.proofs.Common.{◌≡◌, ℕ, zero, suc, ◌+◌, ◌*◌, ◌/◌, ◌^◌, ◌<◌, List, [], length, get_or, take, drop, ap, sym, ◌∙◌, add-one, arith, length-drop, take_all}
use Rattle.std.specs.Simd.{first_chunks}
use native.Mathlib.Nat.{zero-mul}
use lib.ListN.{set}
use lib.Seq.{drop-drop}
use Rattle.octets.specs.Numbers.{le_number}
use Rattle.octets.specs.Runs.{bytes_at}
use Rattle.octets.proofs.ReadLaws.{le_part}
use Rattle.secret.specs.declared.Secret.{Secret}
use Rattle.siphash.specs.SipHash.{initialized, compressed, word_at, absorbed, last_word, finalized, sip_hash24}
use Rattle.siphash.specs.declared.State.{State}

-- at most seven bytes from the last whole word on, with zeros past the end, and a byte on top
pub last_is : (m : List ℕ) (bytes : List ℕ) (top word : ℕ) → bytes ≡ bytes_at 8 m (length m / 8 * 8) → word ≡ le_number (set bytes 7 top)
    → word ≡ le_number (drop (length m / 8 * 8) m) + top * 2 ^ 56
unfolding bytes_at le_number
last_is m bytes top word are read =
    let at = length m / 8 * 8 in
    let short : take 7 (drop at m) ≡ drop at m = take_all 7 (drop at m) (omega (arith, length-drop at m)) in
    let low : le_number (bytes_at 7 m at) ≡ le_number (drop at m) = le_part 7 m at ∙ ap le_number short in
    let whole : word ≡ le_number (set (bytes_at 8 m at) 7 top) = read ∙ ap (λ (l : List ℕ). le_number (set l 7 top)) are in
    omega arith

-- a chunk of eight bytes is the part at its place
chunk_at : (n k i : ℕ) (m : List ℕ) → i < k → get_or (first_chunks n k m) i [] ≡ take n (drop (i * n) m)
chunk_at n zero i m here = absurd (omega arith)
chunk_at n (suc k) zero m here = ap (λ (j : ℕ). take n (drop j m)) (sym (zero-mul n))
chunk_at n (suc k) (suc i) m here =
    chunk_at n k i (drop n m) (omega arith) ∙ ap (take n) (drop-drop (i * n) n m) ∙ ap (λ (j : ℕ). take n (drop j m)) (omega arith)

-- one word more
pub absorb_one : (m : List ℕ) (words : List (List ℕ)) (i word : ℕ) (s₀ s t : State) → words ≡ first_chunks 8 (length m / 8) m → i < length m / 8
    → s ≡ absorbed i m s₀ → word ≡ le_number (get_or words i []) → t ≡ compressed s word → t ≡ absorbed (i + 1) m s₀
unfolding absorbed word_at
absorb_one m words i word s₀ s t are here before read next =
    let chunk : get_or words i [] ≡ take 8 (drop (i * 8) m) = ap (λ (ws : List (List ℕ)). get_or ws i []) are ∙ chunk_at 8 (length m / 8) i m here in
    let is : word ≡ le_number (take 8 (drop (i * 8) m)) = read ∙ ap le_number chunk in
    rw add-one (cc)

-- all words, the last one and the end
pub hash_is : (key : Secret) (m : List ℕ) (i last hash : ℕ) (s₀ s t : State) → i ≡ length m / 8
    → s₀ ≡ initialized key → s ≡ absorbed i m s₀ → last ≡ last_word m → t ≡ compressed s last → hash ≡ finalized t → hash ≡ sip_hash24 key m
unfolding sip_hash24
hash_is key m i last hash s₀ s t whole first all rest end out = cc
