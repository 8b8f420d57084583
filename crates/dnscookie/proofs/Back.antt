-- The claims of specs/Claims.antt on what C reads from an answer. Assumes nothing.
use Rattle.std.proofs.Common.{◌≡◌, ℕ, zero, suc, ◌-◌, ◌/◌, ◌^◌, ◌<◌, ◌≤◌, true, cond, not, eqb, ltb, leb, List, [], ◌∷◌, ℤ, pos, negsuc, refl, ap, ◌∙◌, subst, ap₂, arith, le-ltb, lt-ltb, ne_eqb, leb-true}
use Rattle.octets.specs.Refusals.{◌when◌}
use Rattle.octets.proofs.RefusalLaws.{both_true, first_most}
use Rattle.verdict.specs.Findings.{Finding, is_timely}
use Rattle.verdict.specs.Findings.Finding.{ignored, absent, clientOnly, bad, good}
use Rattle.verdict.specs.ReplyTable.{Sent, serve, truncate, error, ◌carrying◌}
use Rattle.verdict.specs.Serial.{signed}
use Rattle.verdict.specs.declared.Carried.{Carried}
use Rattle.verdict.specs.declared.Carried.TheVariants.{Nothing, Fresh, Kept}
use Rattle.verdict.specs.declared.Which.TheVariants.{Generating, Other}
use Rattle.cookie.specs.ServerCookie as cookies
use Rattle.cookie.specs.ServerCookie.{sip_hash_method}
use Rattle.request.proofs.BodyLaws.{AnswerSmall, request_small}
use Rattle.request.specs.Request.{Answer, refused, no_cookie, cookie, request}
use Rattle.server.specs.Server as server
use Rattle.dnscookie_find.specs.Find.{found_word, find_call}
use Rattle.dnscookie.specs.Calls.{is_mode, mode_of, are_secrets, secrets_in, holder_refusal, respond_call, judge_call}
use Rattle.dnscookie.specs.Claims.{finding_as, sent_as, carried_as, responded_in, judged_in, read_in, RespondBack, JudgeBack, FindBack, DueBack, FaultBack}
use Rattle.dnscookie.specs.Words.{wrong_mode, wrong_secrets, finding_number, in32, age_number, sent_number, due_number, option_number, fields, answer_word, judged_word, number_in, reply_in, option_in, age_in, qdcount_in, start_in, end_in}
use Rattle.dnscookie.proofs.Known.{Known, KnownSent, due_small, KnownAnswer, respond_known, KnownJudged, judged_known}

-- ---- fields

module _ (number reply option age : ℕ) (n : number < 2 ^ 8) (r : reply < 2 ^ 8) (o : option < 2 ^ 2) (a : age < 2 ^ 32) where
  pub fields_back : (number_in (fields number reply option age) ≡ number) × (reply_in (fields number reply option age) ≡ reply)
      × (option_in (fields number reply option age) ≡ option) × (fields number reply option age / 2 ^ 32 ≡ age)
  fields_back = (omega arith, omega arith, omega arith, omega arith)

module _ (q start end : ℕ) (n : q < 2 ^ 8) (s : start < 2 ^ 16) (e : end < 2 ^ 16) where
  pub places_back : (number_in (found_word (cookie q start end)) ≡ 0) × (qdcount_in (found_word (cookie q start end)) ≡ q)
      × (start_in (found_word (cookie q start end)) ≡ start) × (end_in (found_word (cookie q start end)) ≡ end)
  places_back = (omega arith, omega arith, omega arith, omega arith)

-- every age of a good cookie
age_back : (a : ℤ) → is_timely a ≡ true → (in32 a < 2 ^ 32) × (signed (in32 a) ≡ a)
unfolding is_timely
age_back (pos n) timely =
    let most : n ≤ 3600 = leb-true n 3600 timely in
    (omega arith, rw (lt-ltb n (2 ^ 31) (omega arith)))
age_back (negsuc n) timely =
    let most : n ≤ 299 = leb-true n 299 (both_true (leb n 299) true timely).0 in
    let d = 2 ^ 32 - 1 - n in
    (omega arith, rw (le-ltb d (2 ^ 31) (omega arith), lt-ltb d (2 ^ 32) (omega arith)) (ap negsuc (omega arith)))

-- ---- a message

-- by the fields that are read
abbrev read_as : ℕ → ℕ → ℕ → ℕ → Answer
read_as number q start end = cond (eqb number 0) (cookie q start end) (cond (eqb number 201) (no_cookie q) (refused number))

word_found : (a : Answer) → AnswerSmall a → read_in (found_word a) ≡ a
word_found (refused n) known =
    let number : number_in n ≡ n = omega (arith, known.1) in
    ap (λ (k : ℕ). read_as k (qdcount_in n) (start_in n) (end_in n)) number
    ∙ rw (ne_eqb n 0 (λ e. omega (arith, known.0, e)), ne_eqb n 201 (λ e. omega (arith, known.1, e)))
word_found (no_cookie q) known =
    let w = found_word (no_cookie q) in
    let same : w ≡ fields 201 q 0 0 = omega arith in
    let b = fields_back 201 q 0 0 (omega arith) (omega (arith, known)) (omega arith) (omega arith) in
    ap₂ (λ (k n : ℕ). read_as k n (start_in w) (end_in w)) (ap number_in same ∙ b.0) (ap qdcount_in same ∙ b.1)
word_found (cookie q start end) known =
    let b = places_back q start end (omega (arith, known.0)) (omega (arith, known.1, known.2)) (omega (arith, known.2)) in
    λ i. read_as (b.0 i) (b.1 i) (b.2 i) (b.3 i)

pub find_back : FindBack
unfolding find_call
find_back s = word_found (request s) (request_small s)

-- ---- a verdict

-- the age that is told of one: 0 where it has none
abbrev pub age_of : Finding → ℤ
age_of ignored = pos 0
age_of absent = pos 0
age_of clientOnly = pos 0
age_of (bad n) = pos 0
age_of (good a w) = a

pub record Told (f : Finding) : Type 0 where
  pub high : 200 ≤ finding_number f
  pub low : finding_number f < 2 ^ 8
  pub age_low : age_number f < 2 ^ 32
  pub age : signed (age_number f) ≡ age_of f
  pub back : finding_as (finding_number f) (age_of f) ≡ f

pub told : (f : Finding) → Known f → Told f
told ignored known = record { high = omega arith; low = omega arith; age_low = omega arith; age = refl; back = refl }
told absent known = record { high = omega arith; low = omega arith; age_low = omega arith; age = refl; back = refl }
told clientOnly known = record { high = omega arith; low = omega arith; age_low = omega arith; age = refl; back = refl }
told (bad zero) known = absurd (omega (arith, known.0))
told (bad (suc zero)) known = record { high = omega arith; low = omega arith; age_low = omega arith; age = refl; back = refl }
told (bad (suc (suc zero))) known = record { high = omega arith; low = omega arith; age_low = omega arith; age = refl; back = refl }
told (bad (suc (suc (suc zero)))) known = record { high = omega arith; low = omega arith; age_low = omega arith; age = refl; back = refl }
told (bad (suc (suc (suc (suc n))))) known = absurd (omega (arith, known.1))
told (good a Generating) known = let b = age_back a known in record { high = omega arith; low = omega arith; age_low = b.0; age = b.1; back = refl }
told (good a Other) known = let b = age_back a known in record { high = omega arith; low = omega arith; age_low = b.0; age = b.1; back = refl }

-- ---- a COOKIE body

abbrev judged_as : ℕ → ℤ → cookies.Answer
judged_as number a = cond (ltb number 200) (cookies.refused number) (cookies.found (finding_as number a))

word_judged : (a : cookies.Answer) → KnownJudged a → judged_in (judged_word a) ≡ a
word_judged (cookies.refused n) known =
    let b = fields_back n 0 0 0 (omega (arith, known)) (omega arith) (omega arith) (omega arith) in
    ap₂ (λ (k a : ℕ). judged_as k (signed a)) b.0 b.3 ∙ rw (lt-ltb n 200 (omega (arith, known)))
word_judged (cookies.found f) known =
    let t = told f known in
    let b = fields_back (finding_number f) 0 0 (age_number f) t.low (omega arith) (omega arith) t.age_low in
    ap₂ (λ (k a : ℕ). judged_as k (signed a)) b.0 b.3
    ∙ ap (λ (a : ℤ). judged_as (finding_number f) a) t.age ∙ rw (le-ltb (finding_number f) 200 t.high) (ap cookies.found t.back)

pub judge_back : JudgeBack
unfolding judge_call
judge_back mode secrets clock address body passes =
    rw passes (word_judged _ (judged_known sip_hash_method (mode_of mode) (secrets_in secrets) clock address body))

-- ---- a request

pub due_back : DueBack
unfolding respond_call
due_back mode secrets clock address message output n passes is =
    let low = subst KnownAnswer is (respond_known sip_hash_method (secrets_in secrets) clock address message output (mode_of mode)) in
    let b = fields_back n (due_number (server.due n)) 0 0 (omega (arith, low)) (due_small n) (omega arith) (omega arith) in
    rw (passes, is) (b.1, b.2, ap signed b.3)

refusal_judged : (n : ℕ) → n < 200 → judged_in n ≡ cookies.refused n
refusal_judged n low =
    let number : number_in n ≡ n = omega arith in
    ap (λ (k : ℕ). judged_as k (age_in n)) number ∙ rw (lt-ltb n 200 low)

-- no more than 102
holder_low : (mode : ℕ) (secrets : List ℕ) → holder_refusal mode secrets ≤ 102
unfolding holder_refusal
holder_low mode secrets = first_most 102 (wrong_mode when not (is_mode mode) ∷ wrong_secrets when not (are_secrets secrets) ∷ []) (omega arith, (omega arith, tt))

pub fault_back : FaultBack
unfolding respond_call judge_call
fault_back mode secrets clock address message output body n is =
    let low : suc n ≤ 102 = rw is at (holder_low mode secrets) in
    let b = fields_back (suc n) 130 0 0 (omega (arith, low)) (omega arith) (omega arith) (omega arith) in
    rw is (b.0, b.1, b.2, refusal_judged (suc n) (omega (arith, low)))

pub sent_back : (s : Sent) → KnownSent s → (sent_number s < 2 ^ 8) × (sent_as (sent_number s) ≡ s)
sent_back serve known = (omega arith, refl)
sent_back truncate known = (omega arith, refl)
sent_back (error n) known = rw known (omega arith, refl)

pub carried_back : (c : Carried) → (option_number c < 2 ^ 2) × (carried_as (option_number c) ≡ c)
carried_back Nothing = (omega arith, refl)
carried_back Fresh = (omega arith, refl)
carried_back Kept = (omega arith, refl)

abbrev responded_as : ℕ → ℕ → ℕ → ℤ → server.Answer
responded_as number reply option a = cond (ltb number 200) (server.refused number) (server.replied (finding_as number a) (sent_as reply carrying carried_as option))

module _ (number reply option age : ℕ) (n : number < 2 ^ 8) (r : reply < 2 ^ 8) (o : option < 2 ^ 2) (a : age < 2 ^ 32) where
  word_read : responded_in (fields number reply option age) ≡ responded_as number reply option (signed age)
  word_read = let b = fields_back number reply option age n r o a in λ i. responded_as (b.0 i) (b.1 i) (b.2 i) (signed (b.3 i))

word_back : (a : server.Answer) → KnownAnswer a → responded_in (answer_word a) ≡ a
word_back (server.refused n) known =
    word_read n (due_number (server.due n)) 0 0 (omega (arith, known)) (due_small n) (omega arith) (omega arith) ∙ rw (lt-ltb n 200 (omega (arith, known)))
word_back (server.replied f owed) known =
    let t = told f known.0 in
    let s = sent_back owed.sent known.1 in
    let c = carried_back owed.option in
    let reply = sent_number owed.sent in
    let option = option_number owed.option in
    word_read (finding_number f) reply option (age_number f) t.low s.0 c.0 t.age_low
    ∙ ap (λ (a : ℤ). responded_as (finding_number f) reply option a) t.age
    ∙ rw (le-ltb (finding_number f) 200 t.high) (λ i. server.replied (t.back i) (s.1 i carrying c.1 i))

pub respond_back : RespondBack
unfolding respond_call
respond_back mode secrets clock address message output passes =
    rw passes (word_back _ (respond_known sip_hash_method (secrets_in secrets) clock address message output (mode_of mode)))
