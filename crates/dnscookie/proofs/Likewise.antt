-- The claim RespondsLikewise: dnscookie_respond answers what dnscookie_find and dnscookie_judge answer, and makes what dnscookie_make makes. Assumes nothing.
use Rattle.std.proofs.Common.{◌≡◌, ℕ, zero, suc, ◌-◌, ◌≤◌, Bool, true, false, cond, eqb, List, [], length, take, drop, sym, refl, ap, ◌∙◌, arith, length-take-le, le-ltb, eq-eqb, ne_eqb}
use Rattle.secret.specs.Secret.{secret_of}
use Rattle.secret.specs.Secrets.{generating_of}
use Rattle.secret.specs.declared.Secrets.TheVariants.{One, Two}
use Rattle.request.proofs.BodyLaws.{AnswerSmall, request_small, AnswerLegal, request_legal}
use Rattle.request.specs.Request as request
use Rattle.verdict.specs.Findings.{Finding}
use Rattle.verdict.specs.Findings.Finding.{absent}
use Rattle.verdict.specs.ReplyTable.{is_disabled, Owed, reply_owed}
use Rattle.verdict.specs.Serial.{signed}
use Rattle.verdict.specs.declared.Carried.{Carried}
use Rattle.verdict.specs.declared.Carried.TheVariants.{Nothing, Fresh, Kept}
use Rattle.cookie.proofs.Good.{address_true}
use Rattle.cookie.specs.CookieOption.{fresh_option, fresh_refusal, with_front, carried_option}
use Rattle.cookie.specs.ServerCookie.{sip_hash_method, judge_body, is_address, is_body}
use Rattle.server.specs.Server as server
use Rattle.server.proofs.ReplyLaws.{judgement_is, client_there, absent_none}
use Rattle.server.proofs.RespondLaws.{on_reading, read_is}
use Rattle.dnscookie_find.specs.Find.{found_word, find_call}
use Rattle.dnscookie.specs.Calls.{Outcome, ◌leaving◌, mode_of, secrets_in, holder_refusal, maker_refusal, as_word, respond_call, judge_call, make_call}
use Rattle.dnscookie.specs.Claims.{responded, body_found, Likewise, RespondsLikewise}
use Rattle.dnscookie.specs.Words.{finding_number, age_number, option_number, sent_number, due_number, answer_word, finding_word, number_in, option_in, age_in, start_in, end_in}
use Rattle.dnscookie.proofs.ArgumentLaws.{holder_held}
use Rattle.dnscookie.proofs.Back.{fields_back, places_back, told, sent_back, carried_back}
use Rattle.dnscookie.proofs.Known.{Known, KnownSent, body_known, owed_known, due_small}

-- outside mode Disabled
mode_on : (mode : ℕ) → (mode ≡ 0 → ⊥) → is_disabled (mode_of mode) ≡ false
mode_on zero on = absurd (on refl)
mode_on (suc zero) on = refl
mode_on (suc (suc n)) on = refl

-- the generating secret is the first
generating_first : (s : List ℕ) → generating_of (secrets_in s) ≡ secret_of s
unfolding secrets_in
generating_first s = pick (eqb (length s) 16)
  where
    pick : (b : Bool) → generating_of (cond b (One (secret_of s)) (Two (secret_of s) (secret_of (drop 16 s)))) ≡ secret_of s
    pick true = refl
    pick false = refl

-- the option's number tells a fresh one
fresh_only : (c : Carried) → option_number c ≡ 1 → c ≡ Fresh
fresh_only Nothing e = absurd (omega (arith, e))
fresh_only Fresh e = refl
fresh_only Kept e = absurd (omega (arith, e))

-- what is read from the word of a reply, and of a verdict alone
module _ (f : Finding) (known : Known f) where
  reply_fields : (owed : Owed) → KnownSent owed.sent → let w = answer_word (server.replied f owed) in
      (number_in w ≡ finding_number f) × (option_in w ≡ option_number owed.option) × (age_in w ≡ signed (age_number f))
  reply_fields owed sent =
      let t = told f known in
      let b = fields_back (finding_number f) (sent_number owed.sent) (option_number owed.option) (age_number f) t.low (sent_back owed.sent sent).0
      (carried_back owed.option).0 t.age_low in
      (b.0, b.2, ap signed b.3)

  verdict_fields : (number_in (finding_word f) ≡ finding_number f) × (age_in (finding_word f) ≡ signed (age_number f))
  verdict_fields =
      let t = told f known in
      let b = fields_back (finding_number f) 0 0 (age_number f) t.low (omega arith) (omega arith) t.age_low in
      (b.0, ap signed b.3)

-- the number where no body is found, and where one is
no_body : (k n j : ℕ) → k ≡ n → 1 ≤ n → n ≡ cond (eqb k 0) j k
no_body k n j is high = rw (ne_eqb k 0 (λ e. omega (arith, is, high, e)), is)

a_body : (k n j : ℕ) → k ≡ 0 → n ≡ j → n ≡ cond (eqb k 0) j k
a_body k n j is same = rw is same

module _ (mode : ℕ) (secrets : List ℕ) (clock : ℕ) (address message output : List ℕ) (passes : holder_refusal mode secrets ≡ 0) (on : is_disabled (mode_of mode) ≡ false)
    (room : 28 ≤ length output) (from : is_address address ≡ true) where
  abbrev answered_by : request.Answer → server.Outcome
  answered_by x = on_reading sip_hash_method (mode_of mode) (secrets_in secrets) clock address message output x

  -- what is found, and what is answered to it
  module _ (x : request.Answer) (is : request.request message ≡ x) where
    word_is : find_call message ≡ found_word x
    unfolding find_call
    word_is = ap found_word is

    given : responded mode secrets clock address message output ≡ as_word (answered_by x)
    unfolding respond_call
    given = rw passes (sym (ap as_word (ap answered_by (sym is) ∙ read_is sip_hash_method (mode_of mode) (secrets_in secrets) clock address message output on room from)))

    -- read by a function of the header
    reads : {A : Type 0} (g : Outcome → A) → g (responded mode secrets clock address message output) ≡ g (as_word (answered_by x))
    reads g = ap g given

  made_is : (client : List ℕ) → length client ≡ 8
      → make_call secrets clock address client output ≡ 0 leaving with_front (fresh_option sip_hash_method (secret_of secrets) clock address client) output
  unfolding make_call maker_refusal fresh_refusal
  made_is client eight = rw (holder_held mode secrets passes, eq-eqb (length client) 8 eight, le-ltb (length output) 28 room, from)

  judged_is : (body : List ℕ) → is_body body ≡ true → judge_call mode secrets clock address body ≡ finding_word (judge_body sip_hash_method (secrets_in secrets) clock address body)
  unfolding judge_call
  judged_is body legal = rw (passes, judgement_is sip_hash_method (mode_of mode) (secrets_in secrets) clock address body on from legal) refl

  likewise : (x : request.Answer) → request.request message ≡ x → AnswerSmall x → AnswerLegal message x → Likewise mode secrets clock address message output
  likewise (request.refused n) is small legal =
      let x = request.refused n in
      let b = fields_back n (due_number (server.due n)) 0 0 (omega (arith, small.1)) (due_small n) (omega arith) (omega arith) in
      let number : number_in n ≡ n = omega (arith, small.1) in
      record {
        number = reads x is (λ (o : Outcome). number_in o.answer) ∙ b.0 ∙ no_body _ n _ (ap number_in (word_is x is) ∙ number) small.0;
        age = λ e. absurd (omega (arith, small.0, sym number ∙ sym (ap number_in (word_is x is)) ∙ e));
        fresh = λ e. absurd (omega (arith, sym (reads x is (λ (o : Outcome). option_in o.answer) ∙ b.2) ∙ e));
      }
  likewise (request.no_cookie q) is small legal =
      let x = request.no_cookie q in
      let owed = reply_owed (mode_of mode) q absent [] in
      let r = reply_fields absent tt owed (owed_known (mode_of mode) q absent []) in
      let number : number_in (found_word x) ≡ 201 = omega (arith, small) in
      let none' : option_in (responded mode secrets clock address message output).answer ≡ 0
      = reads x is (λ (o : Outcome). option_in o.answer) ∙ r.1 ∙ ap option_number (absent_none (mode_of mode) q []) in
      record {
        number = reads x is (λ (o : Outcome). number_in o.answer) ∙ r.0 ∙ no_body _ 201 _ (ap number_in (word_is x is) ∙ number) (omega arith);
        age = λ e. absurd (omega (arith, sym number ∙ sym (ap number_in (word_is x is)) ∙ e));
        fresh = λ e. absurd (omega (arith, sym none' ∙ e));
      }
  likewise (request.cookie q start end) is small legal =
      let x = request.cookie q start end in
      let body = take (end - start) (drop start message) in
      let f = judge_body sip_hash_method (secrets_in secrets) clock address body in
      let known = body_known sip_hash_method (secrets_in secrets) clock address body in
      let owed = reply_owed (mode_of mode) q f body in
      let r = reply_fields f known owed (owed_known (mode_of mode) q f body) in
      let v = verdict_fields f known in
      let p = places_back q start end (omega (arith, small.0)) (omega (arith, small.1, small.2)) (omega (arith, small.2)) in
      let w = word_is x is in
      let same : body_found message ≡ body = λ i. take ((ap end_in w ∙ p.3) i - (ap start_in w ∙ p.2) i) (drop ((ap start_in w ∙ p.2) i) message) in
      let judged : judge_call mode secrets clock address (body_found message) ≡ finding_word f
      = ap (judge_call mode secrets clock address) same ∙ judged_is body legal in
      let eight : length (take 8 body) ≡ 8 = length-take-le 8 body (client_there body legal) in
      record {
        number = reads x is (λ (o : Outcome). number_in o.answer) ∙ r.0 ∙ a_body _ _ _ (ap number_in w ∙ p.0) (sym (ap number_in judged ∙ v.0));
        age = λ e. reads x is (λ (o : Outcome). age_in o.answer) ∙ r.2 ∙ sym (ap age_in judged ∙ v.1);
        fresh = λ e.
            let is-fresh : owed.option ≡ Fresh = fresh_only owed.option (sym (reads x is (λ (o : Outcome). option_in o.answer) ∙ r.1) ∙ e) in
            ap (λ (s : List ℕ). make_call secrets clock address (take 8 s) output) same
            ∙ made_is (take 8 body) eight
            ∙ ap (λ (bytes : List ℕ). 0 leaving bytes)
            (sym (reads x is (λ (o : Outcome). o.bytes)
            ∙ ap (λ (c : Carried). with_front (carried_option sip_hash_method (generating_of (secrets_in secrets)) clock address body c) output) is-fresh
            ∙ rw (generating_first secrets) refl));
      }

pub responds_likewise : RespondsLikewise
responds_likewise mode secrets clock address message output passes on room from =
    likewise mode secrets clock address message output passes (mode_on mode on) room (address_true address from) (request.request message) refl (request_small message) (request_legal message)
