-- What the proofs of the calls on cookies cite. Assumes nothing.
use Rattle.std.proofs.Common.{◌≡◌, ℕ, ◌+◌, ◌/◌, ◌≤◌, ◌<◌, List, [], ◌++◌, length, get_or, take, drop, Option, Some, None, Result, Ok, Err, eqb, cond, ◌&&◌, Bool, true, false, leb, sym, refl, ap, ap₂, ◌∙◌, arith, length-take-le, length-drop, length-take, take_all, take-add, le-ltb, eq-eqb}
use Rattle.std.proofs.lemmas.List.{drop-take}
use Rattle.std.specs.Simd.{first_chunks}
use lib.Seq.{take_at}
use Rattle.octets.specs.Numbers.{le_number, le_bytes}
use Rattle.octets.specs.Runs.{written}
use Rattle.secret.specs.Secret.{secret_of}
use Rattle.secret.specs.declared.Secret.{Secret}
use Rattle.secret.specs.declared.Secrets.TheVariants.{One, Two}
use Rattle.siphash.specs.SipHash.{sip_hash24, sip_hash24_bytes}
use Rattle.secret.specs.Secrets.{generating_of}
use Rattle.secret.specs.declared.Secrets.{Secrets}
use Rattle.cookie.specs.CookieOption.{fresh_refusal, fresh_option, output_after}
use Rattle.cookie.specs.Hashed.{hashed_in, hashed_bytes}
use Rattle.cookie.specs.declared.hashed.Hashed.{Hashed}
use Rattle.cookie.specs.ServerCookie.{is_address, sip_hash_method}
use Rattle.dnscookie.specs.Arguments.{secrets_read}
use Rattle.dnscookie.specs.declared.arguments.Fault.TheVariants as fault
use Rattle.dnscookie.specs.Calls.{◌leaving◌, are_secrets, secrets_in, maker_refusal, make_call, hash_refusal, hash_call}

-- ---- the secrets that are lent

-- a secret is the first 16 bytes
secret_front : (s : List ℕ) → 16 ≤ length s → secret_of (take 16 s) ≡ secret_of s
unfolding secret_of
secret_front s long =
    let low : take 8 (take 16 s) ≡ take 8 s = ap (take 8) (take-add 8 8 s) ∙ take_at (take 8 s) (take 8 (drop 8 s)) 8 (length-take-le 8 s (omega arith)) in
    let high : take 8 (drop 8 (take 16 s)) ≡ take 8 (drop 8 s) = ap (take 8) (drop-take 8 8 s) ∙ take_all 8 (take 8 (drop 8 s)) (omega (arith, length-take 8 (drop 8 s))) in
    ap₂ (λ (x y : ℕ). record { k0 = x; k1 = y }) (ap le_number low) (ap le_number high)

-- two secrets, of the first 16 bytes and of the last
pub two_read : (bytes front back : List ℕ) → length bytes ≡ 32 → front ≡ take 16 bytes → back ≡ drop 16 bytes → (g o : Secret) → g ≡ secret_of front → o ≡ secret_of back
    → Ok (Two g o) ≡ secrets_read bytes
unfolding are_secrets secrets_in
two_read bytes front back long is is' g o is_g is_o =
    let first : g ≡ secret_of bytes = is_g ∙ ap secret_of is ∙ secret_front bytes (omega arith) in
    let second : o ≡ secret_of (drop 16 bytes) = is_o ∙ ap secret_of is' in
    rw (long, first, second) refl

-- what is read are secrets, and the generating one is the first
held : (bytes : List ℕ) (x : Secrets) → Ok x ≡ secrets_read bytes → (are_secrets bytes ≡ true) × (generating_of x ≡ secret_of bytes)
held bytes x e = by (are_secrets bytes) e
  where
    first : (b : Bool) → generating_of (cond b (One (secret_of bytes)) (Two (secret_of bytes) (secret_of (drop 16 bytes)))) ≡ secret_of bytes
    first true = refl
    first false = refl

    same : generating_of (secrets_in bytes) ≡ secret_of bytes
    same = unfold secrets_in in first (eqb (length bytes) 16)

    by : (b : Bool) → Ok x ≡ cond b (Ok (secrets_in bytes)) (Err fault.Secrets) → (b ≡ true) × (generating_of x ≡ secret_of bytes)
    by true e = let is : x ≡ secrets_in bytes = cc in (refl, ap generating_of is ∙ same)
    by false e = cc

-- ---- an option made

pub make_done : (secrets address client output : List ℕ) (clock : ℕ) (x : Secrets) → Ok x ≡ secrets_read secrets → length client ≡ 8 → (key : Secret) → key ≡ generating_of x
    → 0 ≡ fresh_refusal output address → (after : List ℕ) → after ≡ output_after (fresh_refusal output address) (fresh_option sip_hash_method key clock address client) output
    → 0 leaving after ≡ make_call secrets clock address client output
unfolding make_call maker_refusal
make_done secrets address client output clock x read long key is none after writes =
    let h = held secrets x read in
    let same : key ≡ secret_of secrets = is ∙ h.1 in
    rw (h.0, long) (ap₂ ◌leaving◌ none (writes ∙ ap (λ (k : Secret). output_after (fresh_refusal output address) (fresh_option sip_hash_method k clock address client) output) same))

-- ---- a hash

-- that of a message that was read as what is hashed
pub hash_is : (message : List ℕ) (h : Hashed) (secret : Secret) (n : ℕ) → Some (hashed_bytes h) ≡ hashed_in message → n ≡ sip_hash24 secret (hashed_bytes h)
    → n ≡ sip_hash24 secret message
hash_is message h secret n read told = told ∙ ap (sip_hash24 secret) (by (leb 16 (length message) && is_address (drop 16 message)) read)
  where
    by : (b : Bool) → Some (hashed_bytes h) ≡ cond b (Some message) None → hashed_bytes h ≡ message
    by true e = cc
    by false e = cc

pub hash_done : (secret message output : List ℕ) → length secret ≡ 16 → 8 ≤ length output → (key : Secret) (n : ℕ) (hash after : List ℕ) → key ≡ secret_of secret
    → n ≡ sip_hash24 key message → hash ≡ le_bytes 8 n → after ≡ written output 0 hash → 0 leaving after ≡ hash_call secret message output
unfolding hash_call hash_refusal sip_hash24_bytes
hash_done secret message output long room key n hash after is told bytes writes =
    let all : after ≡ written output 0 (sip_hash24_bytes (secret_of secret) message) =
    writes ∙ ap (written output 0) (bytes ∙ ap (le_bytes 8) told ∙ ap (λ (k : Secret). sip_hash24_bytes k message) is) in
    rw (eq-eqb (length secret) 16 long, le-ltb (length output) 8 room) (ap (λ (l : List ℕ). 0 leaving l) all)
