-- The claims `WrittenWhole`, `SipHashEight` and `FreshIsGood` of specs/Claims.antt. Assumes nothing.
use mathlib.Core.Path.{◌≡◌, refl, sym, ap, ◌∙◌}
use mathlib.Core.Bool.{Bool, true, false, true≢false}
use mathlib.Core.List.{List, ◌++◌, append_assoc}
use Prim.Native.Nat.{ℕ, suc, ◌+◌, ◌-◌, ◌%◌, ◌^◌, ◌≤◌, ◌<◌}
use native.Mathlib.Omega.{arith}
use borrow.Author.Tests.{le-ltb, le-leb, lt-leb}
use lib.Dec.{ltb, leb, le→leb}
use lib.IntN.{pos, negsuc, sub_ℕ}
use lib.ListN.{length, take, drop, get_or, length-append, length-drop}
use lib.Seq.{take_at, drop_at, take-append-le, drop-append-le, take_all, drop-drop, get_or-drop}
use lib.Signed.{◌≤ℤ◌}
use Rattle.octets.specs.Numbers.{be_number, be_bytes, be32_at}
use Rattle.octets.proofs.NumberLaws.{length_le_bytes, length_be_bytes, be_back}
use Rattle.octets.proofs.ReadLaws.{be32_at_lem}
use Rattle.octets.proofs.RunLaws.{same_refl, same_true, same_other}
use Rattle.verdict.proofs.ReplyLaws.{and_false}
use Rattle.octets.specs.Runs.{same_run}
use Rattle.secret.specs.declared.Secret.{Secret}
use Rattle.secret.specs.declared.Secrets.{Secrets}
use Rattle.secret.specs.Secrets.{generating_of}
use Rattle.siphash.specs.SipHash.{sip_hash24, sip_hash24_bytes}
use Rattle.cookie.proofs.Good.{good_exactly_when, address_true}
use Rattle.verdict.proofs.SerialLaws.{age_of_times}
use Rattle.cookie.specs.Claims.{HashedUnder, MatchedBy, EightBytes, AnAddress, SipHashEight, Holding, WrittenWhole, Holds, JudgedGood, FreshGood, FreshIsGood}
use Rattle.cookie.specs.Claims.Holds.{makes_with, accepts}
use Rattle.cookie.specs.CookieOption.{option_head, fresh_front, fresh_server, fresh_option, fresh_refusal, kept_option, kept_refusal, output_after, written_body}
use Rattle.cookie.specs.ServerCookie.{CookieMethod}
use Rattle.verdict.specs.Serial.{age}
use Rattle.verdict.specs.declared.Mode.{Mode}
use Rattle.verdict.specs.declared.Mode.TheVariants.{Disabled}
use Rattle.verdict.specs.declared.Which.{Which}
use Rattle.verdict.specs.declared.Which.TheVariants.{Generating, Other}

-- ---- read back

-- an option of 28 bytes at the front of an output
module _ (body output : List ℕ) (long : length body ≡ 24) (room : 28 ≤ length output) where
  abbrev rest : List ℕ
  rest = drop 28 output

  abbrev whole : List ℕ
  whole = option_head ++ (body ++ rest)

  after_is : output_after 0 (option_head ++ body) output ≡ whole
  after_is = let n : length (option_head ++ body) ≡ 28 = omega (arith, length-append option_head body) in ap (λ (k : ℕ). whole_at k) n
    where
      whole_at : ℕ → List ℕ
      whole_at k = option_head ++ (body ++ drop k output)

  whole_long : length whole ≡ length output
  whole_long = omega (arith, length-append body rest, length-drop 28 output)

  whole_back : written_body whole ≡ body
  unfolding written_body same_run
  whole_back =
      let n : 28 ≤ length whole = omega (arith, whole_long) in
      rw (le-leb 28 (length whole) n) (take_at body rest 24 long)

  whole_holds : Holding output whole body
  whole_holds =
      record {
        head = refl;
        client = take-append-le 8 body rest (omega arith);
        server =
            let n : length (drop 8 body) ≡ 16 = omega (arith, length-drop 8 body) in
            ap (take 16) (drop-append-le 8 body rest (omega arith)) ∙ take_at (drop 8 body) rest 16 n;
        rest = drop_at body rest 24 long;
        long = whole_long;
        back = whole_back;
      }

  option_holds : Holding output (output_after 0 (option_head ++ body) output) body
  option_holds = rw after_is whole_holds

-- an output of 28 bytes and an address, or a body of 24, are taken
pub fresh_taken : (output address : List ℕ) → 28 ≤ length output → AnAddress address → fresh_refusal output address ≡ 0
unfolding fresh_refusal
fresh_taken output address room from = rw (le-ltb (length output) 28 room, address_true address from)

kept_taken : (body output : List ℕ) → 28 ≤ length output → length body ≡ 24 → kept_refusal output body ≡ 0
unfolding kept_refusal
kept_taken body output room long = rw (le-ltb (length output) 28 room, long)

module _ (m : CookieMethod) (eight : EightBytes m) (secret : Secret) (clock : ℕ) (address client : List ℕ) (long : length client ≡ 8) where
  length_front : length (fresh_front m clock) ≡ 8
  unfolding fresh_front
  length_front = omega (arith, length_be_bytes 4 clock)

  length_server : length (fresh_server m secret clock address client) ≡ 16
  unfolding fresh_server
  length_server =
      omega (arith, length-append (fresh_front m clock) (m.hash secret (client ++ fresh_front m clock ++ address)), length_front, eight secret (client ++ fresh_front m clock ++ address))

  length_body : length (client ++ fresh_server m secret clock address client) ≡ 24
  length_body = omega (arith, length-append client (fresh_server m secret clock address client), length_server)

  fresh_holds : (output : List ℕ) → 28 ≤ length output → AnAddress address
      → Holding output (output_after (fresh_refusal output address) (fresh_option m secret clock address client) output)
      (client ++ fresh_server m secret clock address client)
  unfolding fresh_option
  fresh_holds output room from = rw (fresh_taken output address room from) (option_holds (client ++ fresh_server m secret clock address client) output length_body room)

pub written_whole : WrittenWhole
unfolding kept_option fresh_server fresh_front written_body
written_whole =
    record {
      fresh_parts = λ m secret clock address client. refl;
      back_short = λ s le. rw (lt-leb 28 (length s) (omega arith));
      back_other = λ s ne. rw (same_other (take 4 s) option_head ne, and_false (leb 28 (length s)));
      fresh = λ m eight secret clock address client output room from long. fresh_holds m eight secret clock address client long output room from;
      kept = λ body output room long. rw (kept_taken body output room long) (option_holds body output long room);
    }

-- ---- a fresh cookie is good
module _ (m : CookieMethod) (eight : EightBytes m) (secret : Secret) (clock : ℕ) (address client : List ℕ) (long : length client ≡ 8) where
  abbrev body : List ℕ
  body = client ++ fresh_server m secret clock address client

  abbrev hash : List ℕ
  hash = m.hash secret (client ++ fresh_front m clock ++ address)

  server_at : drop 8 body ≡ fresh_server m secret clock address client
  server_at = drop_at client (fresh_server m secret clock address client) 8 long

  version_is : get_or body 8 0 ≡ m.version
  unfolding fresh_server fresh_front
  version_is = sym (get_or-drop 8 body 0 0) ∙ ap (λ (l : List ℕ). get_or l 0 0) server_at

  stamp_is : clock < 2 ^ 32 → be32_at body 12 ≡ clock
  unfolding fresh_server fresh_front
  stamp_is small =
      be32_at_lem 12 body (omega (arith, length_body m eight secret clock address client long))
      ∙ ap (λ (l : List ℕ). be_number (take 4 l)) (sym (drop-drop 4 8 body) ∙ ap (drop 4) server_at)
      ∙ ap be_number (take_at (be_bytes 4 clock) hash 4 (length_be_bytes 4 clock))
      ∙ be_back 4 clock small

  hashed_is : HashedUnder m address body secret
  unfolding fresh_server
  hashed_is =
      let front = client ++ fresh_front m clock in
      let n : length front ≡ 16 = omega (arith, length-append client (fresh_front m clock), length_front m eight secret clock address client long) in
      let parts : body ≡ front ++ hash = sym (append_assoc client (fresh_front m clock) hash) in
      let low : take 16 body ≡ front = ap (take 16) parts ∙ take_at front hash 16 n in
      let high : take 8 (drop 16 body) ≡ hash =
      ap (λ (l : List ℕ). take 8 (drop 16 l)) parts ∙ ap (take 8) (drop_at front hash 16 n) ∙ take_all 8 hash (omega (arith, eight secret (front ++ address))) in
      high ∙ ap (λ (l : List ℕ). m.hash secret (l ++ address)) (sym low)

-- the difference of the times is in bounds
module _ (made checked : ℕ) (early : made ≤ checked + 300) (late : checked ≤ made + 3600) where
  not_ahead : negsuc 299 ≤ℤ sub_ℕ checked made
  not_ahead = by (ltb checked made) refl
    where
      by : (b : Bool) → ltb checked made ≡ b → negsuc 299 ≤ℤ sub_ℕ checked made
      by true q = rw q (record { le = le→leb (made - suc checked) 299 (omega (arith, early)) })
      by false q = rw q (record { le = tt })

  not_old : sub_ℕ checked made ≤ℤ pos 3600
  not_old = by (ltb checked made) refl
    where
      by : (b : Bool) → ltb checked made ≡ b → sub_ℕ checked made ≤ℤ pos 3600
      by true q = rw q (record { le = tt })
      by false q = rw q (record { le = le→leb (checked - made) 3600 (omega (arith, late)) })

module _ (m : CookieMethod) (eight : EightBytes m) (secret : Secret) (secrets : Secrets) (mode : Mode) (on : mode ≡ Disabled → ⊥)
    (made checked : ℕ) (early : made ≤ checked + 300) (late : checked ≤ made + 3600)
    (address client output : List ℕ) (room : 28 ≤ length output) (from : AnAddress address) (long : length client ≡ 8) where
  abbrev stamp : ℕ
  stamp = made % 2 ^ 32

  matched_good : (which : Which) → MatchedBy m secrets address (body m eight secret stamp address client long) which
      → JudgedGood m secret secrets mode made checked address client output which
  matched_good which hash =
      rw (fresh_holds m eight secret stamp address client long output room from).back
      ((good_exactly_when m mode on secrets (checked % 2 ^ 32) address (body m eight secret stamp address client long) (sub_ℕ checked made) which).1 record {
        from = from;
        long = length_body m eight secret stamp address client long;
        version = version_is m eight secret stamp address client long;
        hash = hash;
        aged = sym (ap (age (checked % 2 ^ 32)) (stamp_is m eight secret stamp address client long (omega arith)) ∙ age_of_times made checked early late);
        not_ahead = not_ahead made checked early late;
        not_old = not_old made checked early late;
      })

  holder : Holds secrets secret → (which : Which) × MatchedBy m secrets address (body m eight secret stamp address client long) which
  holder (makes_with e) = (Generating, rw e (hashed_is m eight secret stamp address client long))
  holder (accepts e) = by (same_run (take 8 (drop 16 cookie)) (m.hash (generating_of secrets) (take 16 cookie ++ address))) refl
    where
      cookie : List ℕ
      cookie = body m eight secret stamp address client long

      by : (t : Bool) → same_run (take 8 (drop 16 cookie)) (m.hash (generating_of secrets) (take 16 cookie ++ address)) ≡ t
          → (which : Which) × MatchedBy m secrets address cookie which
      by true q = (Generating, same_true _ _ q)
      by false q = (Other, (λ h. true≢false (sym (same_refl _) ∙ ap (λ (l : List ℕ). same_run l (m.hash (generating_of secrets) (take 16 cookie ++ address))) (sym h) ∙ q), secret, e, hashed_is m eight secret stamp address client long))

  pub fresh_good : FreshGood m secret secrets mode made checked address client output
  fresh_good =
      record {
        by_holder = λ h. let w = holder h in (w.0, matched_good w.0 w.1);
        by_maker = λ e. matched_good Generating (rw e (hashed_is m eight secret stamp address client long));
      }

pub fresh_is_good : FreshIsGood
fresh_is_good m eight secret secrets mode on made checked early late address client output room from long =
    fresh_good m eight secret secrets mode on made checked early late address client output room from long

-- SipHash-2-4 gives eight bytes
pub siphash_eight : SipHashEight
unfolding sip_hash24_bytes
siphash_eight secret message = length_le_bytes 8 (sip_hash24 secret message)
