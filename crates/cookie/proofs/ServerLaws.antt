-- What the proofs of server_cookie cite, one law for each answer. Assumes nothing.
use mathlib.Core.Path.{◌≡◌, refl, sym, ap, ap₂, ◌∙◌}
use mathlib.Core.Bool.{Bool, true, false, false≢true}
use mathlib.Core.List.{List, ◌++◌}
use Prim.Native.Nat.{ℕ, ◌<◌}
use borrow.Author.Tests.{eq-eqb, eqb-true}
use lib.Dec.{eqb}
use lib.ListN.{length, take, drop, get_or}
use mathlib.Core.Option.{none, some}
use Rattle.std.specs.Prelude as code
use lib.IntN.{ℤ}
use lib.Seq.{take-add}
use lib.Signed.{mag}
use mir.Syntax.{w32, w64}
use mir.Val.{to_z, of_z, Fits}
use mir.ValLaws.{to_z-of_z}
use Rattle.octets.specs.Numbers.{le_number, le_bytes, be32_at}
use Rattle.octets.specs.Runs.{same_run}
use Rattle.octets.proofs.NumberLaws.{le_back}
use Rattle.octets.proofs.RunLaws.{same_refl, same_true}
use Rattle.secret.specs.declared.Secret.{Secret}
use Rattle.secret.specs.declared.Secrets.{Secrets}
use Rattle.secret.specs.declared.Secrets.TheVariants.{One, Two}
use Rattle.secret.specs.Secrets.{generating_of}
use Rattle.siphash.specs.SipHash.{sip_hash24, sip_hash24_bytes}
use Rattle.cookie.proofs.BodyLaws.{judge_matching}
use Rattle.cookie.specs.Match.{match_of}
use Rattle.verdict.proofs.ReplyLaws.{when_on}
use Rattle.verdict.specs.Findings.{finding, by_time}
use Rattle.verdict.specs.ReplyTable.{is_disabled}
use Rattle.verdict.specs.Serial.{age}
use Rattle.cookie.specs.ServerCookie.{CookieMethod, sip_hash_method, matches, matching, by_hash, judge_body, verdict, judgement, checking_refusal, is_address, is_body}
use Rattle.cookie.specs.ServerCookie.Answer.{refused, found}
use Rattle.verdict.specs.Findings.Finding.{ignored, bad}
use Rattle.verdict.specs.declared.Mode.{Mode}
use Rattle.verdict.specs.declared.Mode.TheVariants.{Disabled, Enabled, Enforced}
use Rattle.verdict.specs.declared.Verdict.{Verdict}
use Rattle.verdict.specs.declared.Which.{Which}
use Rattle.verdict.specs.declared.Which.TheVariants.{Generating, Other}

-- ---- step 2

-- two words are the same exactly where their bytes are
pub same_word : (x y : ℕ) → Fits w64 x → Fits w64 y → eqb x y ≡ same_run (le_bytes 8 y) (le_bytes 8 x)
same_word x y fx fy = go (eqb x y) refl
  where
    go : (t : Bool) → eqb x y ≡ t → t ≡ same_run (le_bytes 8 y) (le_bytes 8 x)
    go true e = rw (eqb-true x y e) (sym (same_refl (le_bytes 8 y)))
    go false e = other (same_run (le_bytes 8 y) (le_bytes 8 x)) refl
      where
        other : (t : Bool) → same_run (le_bytes 8 y) (le_bytes 8 x) ≡ t → false ≡ t
        other false s = refl
        other true s =
            let back : y ≡ x = sym (le_back 8 y fy.fits) ∙ ap le_number (same_true (le_bytes 8 y) (le_bytes 8 x) s) ∙ le_back 8 x fx.fits in
            sym e ∙ eq-eqb x y (sym back)

pub hash_is : (secret : Secret) (message : List ℕ) (x hash : ℕ) → Fits w64 x → Fits w64 hash → x ≡ sip_hash24 secret message
    → eqb x hash ≡ matches sip_hash_method message (le_bytes 8 hash) secret
unfolding matches sip_hash24_bytes
hash_is secret message x hash fx fh e = same_word x hash fx fh ∙ ap (λ (n : ℕ). same_run (le_bytes 8 hash) (le_bytes 8 n)) e

-- the secrets in their order
module _ (m : CookieMethod) (message hash : List ℕ) (secrets : Secrets) (g : Secret) (t : Bool)
    (first_is : g ≡ generating_of secrets) (told : t ≡ matches m message hash g) where
  pub match_generating : t ≡ true → some Generating ≡ matching m message hash secrets
  unfolding matching
  match_generating yes' = rw (← first_is, ← told, yes')

  pub match_none : t ≡ false → (s : Secret) → secrets ≡ One s → none ≡ matching m message hash secrets
  unfolding matching
  match_none no' s one = rw (← first_is, ← told, no', one)

  module _ (no' : t ≡ false) (s o : Secret) (two : secrets ≡ Two s o) (u : Bool) (told' : u ≡ matches m message hash o) where
    pub match_other : u ≡ true → some Other ≡ matching m message hash secrets
    unfolding matching
    match_other yes' = rw (← first_is, ← told, no', two, ← told', yes')

    pub match_neither : u ≡ false → none ≡ matching m message hash secrets
    unfolding matching
    match_neither no'' = rw (← first_is, ← told, no', two, ← told', no'')

-- ---- the verdict

module _ (secrets : Secrets) (clock : ℕ) (address body : List ℕ) (long : length body ≡ 24) (version : get_or body 8 0 ≡ 1)
    (w0 w1 hash : ℕ) (first_is : le_bytes 8 w0 ≡ take 8 body) (second_is : le_bytes 8 w1 ≡ take 8 (drop 8 body)) (third-is : le_bytes 8 hash ≡ take 8 (drop 16 body))
    (v : code.Option Which) (told : match_of v ≡ matching sip_hash_method (le_bytes 8 w0 ++ le_bytes 8 w1 ++ address) (le_bytes 8 hash) secrets) where
  by_match : by_hash (age clock (be32_at body 12)) (match_of v) ≡ judge_body sip_hash_method secrets clock address body
  by_match =
      let cookies : le_bytes 8 w0 ++ le_bytes 8 w1 ≡ take 16 body = ap₂ (λ (x y : List ℕ). x ++ y) first_is second_is ∙ sym (take-add 8 8 body) in
      rw (told, cookies, third-is) (sym (judge_matching sip_hash_method secrets clock address body long version))

  pub judge_hash : v ≡ code.None → bad 2 ≡ judge_body sip_hash_method secrets clock address body
  judge_hash nothing = ap (λ (x : code.Option Which). by_hash (age clock (be32_at body 12)) (match_of x)) (sym nothing) ∙ by_match

  pub judge_time : (w : Which) (stamp : ℕ) (a : ℤ) (r : Verdict) → v ≡ code.Some w → stamp ≡ be32_at body 12
      → mag a < 2147483648 → a ≡ age clock stamp → finding r ≡ by_time (to_z w32 (of_z w32 a)) w
      → finding r ≡ judge_body sip_hash_method secrets clock address body
  judge_time w stamp a r by stamped ok aged told' =
      told' ∙ ap (λ (x : ℤ). by_time x w) (to_z-of_z w32 a (record { sfits = ok }) ∙ aged ∙ ap (age clock) stamped) ∙ ap (λ (x : code.Option Which). by_hash (age clock (be32_at body 12)) (match_of x)) (sym by) ∙ by_match

-- ---- the refusals

module _ (mode : Mode) (secrets : Secrets) (clock : ℕ) (address body : List ℕ) where
  pub refuse_address : is_address address ≡ false → refused 2 ≡ judgement sip_hash_method mode secrets clock address body
  unfolding judgement checking_refusal
  refuse_address no' = rw no' refl

  module _ (is : is_address address ≡ true) where
    pub judge_ignored : is_disabled mode ≡ true → found ignored ≡ judgement sip_hash_method mode secrets clock address body
    unfolding judgement checking_refusal
    judge_ignored off = by mode off
      where
        by : (n : Mode) → is_disabled n ≡ true → found ignored ≡ judgement sip_hash_method n secrets clock address body
        by Disabled f = rw is refl
        by Enabled f = absurd (false≢true f)
        by Enforced f = absurd (false≢true f)

    module _ (on : is_disabled mode ≡ false) where
      pub refuse_body : is_body body ≡ false → refused 10 ≡ judgement sip_hash_method mode secrets clock address body
      unfolding judgement checking_refusal
      refuse_body no' = rw (is, on, no') refl

      pub judge_found : is_body body ≡ true → (v : Verdict) → finding v ≡ judge_body sip_hash_method secrets clock address body
          → found (finding v) ≡ judgement sip_hash_method mode secrets clock address body
      unfolding judgement checking_refusal
      judge_found yes' v told =
          ap found (told ∙ when_on (λ (k : Mode). judge_body sip_hash_method secrets clock address body ≡ verdict sip_hash_method k secrets clock address body) refl refl mode on)
          ∙ rw (is, on, yes') refl
