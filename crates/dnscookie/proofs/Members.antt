-- The claims SecretsCross and MembersAreTheFleets: secrets cross to C and back as they were, so a member that asks for its secrets makes and checks as the fleet does.
-- Assumes nothing.
use Rattle.std.proofs.Common.{◌≡◌, ℕ, zero, suc, ◌≤◌, Bool, true, false, cond, ◌&&◌, List, [], ◌++◌, length, refl, ap, ◌∙◌, ap₂, arith, le-ltb, eq-eqb}
use mathlib.Core.Option.{Option, none, some}
use Rattle.octets.specs.Numbers.{le_bytes}
use Rattle.octets.specs.Refusals.{answered}
use Rattle.octets.proofs.EachLaws.{IfOne}
use Rattle.octets.proofs.NumberLaws.{le_back}
use Rattle.octets.proofs.RunLaws.{written_back}
use Rattle.secret.specs.Secret.{secret_of, secret_bytes}
use Rattle.secret.specs.Secrets.{generating_of}
use Rattle.secret.specs.declared.Secret.{Secret}
use Rattle.secret.specs.declared.Secrets.{Secrets}
use Rattle.secret.specs.declared.Secrets.TheVariants.{One, Two}
use Rattle.verdict.specs.Findings.{Finding}
use Rattle.cookie.specs.CookieOption.{fresh_option, fresh_refusal, with_front, output_after}
use Rattle.cookie.specs.ServerCookie as cookie
use Rattle.cookie.specs.ServerCookie.{sip_hash_method, checking_refusal, judgement, verdict}
use Rattle.ledger.specs.Ledger.{view_of}
use Rattle.ledger.specs.Rules.{stage_table, secrets_of}
use Rattle.ledger.specs.declared.Ledger.{Ledger}
use Rattle.fleet.specs.Calls as fleet
use Rattle.fleet.specs.Calls.{clock_at, making_reply, checking_answer}
use Rattle.snapshot.specs.Claims.{SecretFits, Fits}
use Rattle.snapshot.proofs.Claims.{read_back}
use Rattle.dnscookie.specs.Calls.{Outcome, ◌leaving◌, is_mode, mode_of, are_secrets, secrets_in, secrets_bytes, holder_refusal, maker_refusal, handed_over, secrets_call, make_call, judge_call}
use Rattle.dnscookie.specs.Claims.{judged_in, HeldFit, SecretsCross, handed, made_number, checked_word, asked, NothingHeld, MakesAsTheFleet, ChecksAsTheFleet, MembersAreTheFleets}
use Rattle.dnscookie.specs.Words.{length_word, judged_word, number_in, length_in}
use Rattle.dnscookie.proofs.Back.{judge_back}

-- ---- secrets across

-- a secret at the front of some bytes
front_back : (s : Secret) → SecretFits s → (behind : List ℕ) → secret_of (secret_bytes s ++ behind) ≡ s
unfolding secret_of secret_bytes le_bytes
front_back s fit behind i = record { k0 = le_back 8 s.k0 fit.0 i; k1 = le_back 8 s.k1 fit.1 i }

-- the secrets read back, and the generating one by itself
record Crosses (secrets : Secrets) : Type 0 where
  are : are_secrets (secrets_bytes secrets) ≡ true
  back : secrets_in (secrets_bytes secrets) ≡ secrets
  generating : secret_of (secrets_bytes secrets) ≡ generating_of secrets
  short : length (secrets_bytes secrets) ≤ 32
  told : length_in (length_word (length (secrets_bytes secrets))) ≡ length (secrets_bytes secrets)
  done : number_in (length_word (length (secrets_bytes secrets))) ≡ 0

crosses : (secrets : Secrets) → HeldFit secrets → Crosses secrets
unfolding are_secrets secrets_in secret_bytes le_bytes
crosses (One secret) fit =
    let same = front_back secret fit [] in
    record { are = refl; back = ap One same; generating = same; short = omega arith; told = refl; done = refl }
crosses (Two generating other) fit =
    let same = front_back generating fit.0 (secret_bytes other) in
    record { are = refl; back = ap₂ Two same (front_back other fit.1 []); generating = same; short = omega arith; told = refl; done = refl }

pub secrets_cross : SecretsCross
secrets_cross secrets fit = let c = crosses secrets fit in (c.are, c.back)

-- ---- those that a ledger gives are its two

table_fit : (stage : ℕ) (current new : Secret) → SecretFits current → SecretFits new → HeldFit (stage_table stage current new)
table_fit zero current new c n = c
table_fit (suc zero) current new c n = (c, n)
table_fit (suc (suc zero)) current new c n = (n, c)
table_fit (suc (suc (suc stage))) current new c n = n

held_fit : (l : Ledger) → Fits l → (member : ℕ) → IfOne HeldFit (secrets_of (view_of l) member)
unfolding secrets_of
held_fit l fits member = pick ((view_of l).started && (view_of l).present member)
  where
    pick : (b : Bool) → IfOne HeldFit (cond b (some (stage_table ((view_of l).stage member) l.current l.new)) none)
    pick true = table_fit ((view_of l).stage member) l.current l.new fits.current fits.new
    pick false = tt

-- ---- tables that pass what was handed over

module _ (bytes : List ℕ) (are : are_secrets bytes ≡ true) where
  maker_passes : (client : List ℕ) → length client ≡ 8 → maker_refusal bytes client ≡ 0
  unfolding maker_refusal
  maker_passes client eight = rw (are, eq-eqb (length client) 8 eight)

  holder_passes : (mode : ℕ) → is_mode mode ≡ true → holder_refusal mode bytes ≡ 0
  unfolding holder_refusal
  holder_passes mode is = rw (is, are)

-- ---- a making and a checking, by the number of the refusal

-- a reply as C has it
abbrev as_c : fleet.Reply → Outcome
as_c r = made_number r.answer leaving r.output

made : (n : ℕ) (option output : List ℕ)
    → n leaving output_after n option output ≡ as_c (answered (λ k. fleet.◌leaving◌ (fleet.refused k) output) n (fleet.◌leaving◌ fleet.made (with_front option output)))
made zero option output = refl
made (suc n) option output = refl

checked : (n : ℕ) (f : Finding) → judged_word (answered cookie.refused n (cookie.found f)) ≡ checked_word (answered fleet.refused n (fleet.judged f))
checked zero f = refl
checked (suc n) f = omega arith

-- ---- on a ledger's snapshot

module _ (l : Ledger) (fits : Fits l) (member : ℕ) (room : List ℕ) (wide : 32 ≤ length room) where
  pub asked_is : (held : Option Secrets) → secrets_of (view_of l) member ≡ held → asked l member room ≡ handed_over held room
  unfolding secrets_call
  asked_is held is = rw (read_back l fits, le-ltb (length room) 32 wide, is)

  nothing_held : NothingHeld l member room
  nothing_held is = asked_is none is

  module _ (secrets : Secrets) (is : secrets_of (view_of l) member ≡ some secrets) where
    fit : HeldFit secrets
    fit = rw is at (held_fit l fits member)

    handed_is : handed (asked l member room) ≡ secrets_bytes secrets
    handed_is =
        let c = crosses secrets fit in
        ap handed (asked_is (some secrets) is)
        ∙ rw c.told (written_back room 0 (secrets_bytes secrets) (omega (arith, c.short)))

    pub done : number_in (asked l member room).answer ≡ 0
    done = ap (λ (o : Outcome). number_in o.answer) (asked_is (some secrets) is) ∙ (crosses secrets fit).done

  pub makes : MakesAsTheFleet l member room
  unfolding make_call making_reply
  makes secrets is time client address output eight =
      let c = crosses secrets (fit secrets is) in
      rw (handed_is secrets is, maker_passes (secrets_bytes secrets) c.are client eight, c.generating, is)
      (made (fresh_refusal output address) (fresh_option sip_hash_method (generating_of secrets) (clock_at time) address client) output)

  checks : ChecksAsTheFleet l member room
  unfolding judge_call judgement checking_answer
  checks secrets is mode time address body mode-is =
      let c = crosses secrets (fit secrets is) in
      rw (handed_is secrets is, holder_passes (secrets_bytes secrets) c.are mode mode-is, c.back, is)
      (checked (checking_refusal (mode_of mode) address body) (verdict sip_hash_method (mode_of mode) secrets (clock_at time) address body))

  -- what is read from a checking
  pub judged_is : (secrets : Secrets) → secrets_of (view_of l) member ≡ some secrets → (mode time : ℕ) (address body : List ℕ) → is_mode mode ≡ true
      → judged_in (judge_call mode (handed (asked l member room)) (clock_at time) address body) ≡ judgement sip_hash_method (mode_of mode) secrets (clock_at time) address body
  judged_is secrets is mode time address body mode-is =
      let c = crosses secrets (fit secrets is) in
      rw (handed_is secrets is)
      (judge_back mode (secrets_bytes secrets) (clock_at time) address body (holder_passes (secrets_bytes secrets) c.are mode mode-is)
      ∙ ap (λ (s : Secrets). judgement sip_hash_method (mode_of mode) s (clock_at time) address body) c.back)

pub members_are_the_fleets : MembersAreTheFleets
members_are_the_fleets l fits member room wide = (nothing_held l fits member room wide, makes l fits member room wide, checks l fits member room wide)
