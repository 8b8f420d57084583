-- The checks of a request in the order in which the code comes to them, one law for each answer. Assumes nothing.
use Prim.Native.Nat.{ℕ, zero, suc, ◌-◌, ◌≤◌, ◌<◌}
use mathlib.Core.Path.{◌≡◌, refl, sym, ap, ◌∙◌}
use mathlib.Core.Bool.{Bool, true, false, false≢true}
use mathlib.Core.List.{List, []}
use mathlib.Core.Option.{Option, none, some, get_or}
use borrow.Author.Tests.{lt-ltb, le-ltb}
use lib.ListN.{length, take, drop}
use Rattle.octets.specs.Refusals.{Row, first, answered}
use Rattle.edns.specs.declared.EdnsOption.{EdnsOption}
use Rattle.message.specs.Message.{qdcount}
use Rattle.request.specs.Answers as request-answers
use Rattle.request.specs.Request as request
use Rattle.request.specs.Request.{opts_in, cookie_of, head_checks, start_of, found}
use Rattle.request.specs.declared.Refusal as request-refusal
use Rattle.secret.specs.declared.Secrets.{Secrets}
use Rattle.verdict.proofs.ReplyLaws.{when_on}
use Rattle.verdict.specs.Findings.Finding.{ignored, absent}
use Rattle.verdict.specs.ReplyTable.{is_disabled, ◌carrying◌, reply_owed}
use Rattle.verdict.specs.ReplyTable.Sent.{serve}
use Rattle.verdict.specs.declared.Carried.TheVariants.{Nothing}
use Rattle.verdict.specs.declared.Mode.{Mode}
use Rattle.verdict.specs.declared.Mode.TheVariants.{Disabled, Enabled, Enforced}
use Rattle.cookie.specs.ServerCookie.{CookieMethod, sip_hash_method, is_address}
use Rattle.server.proofs.ReplyLaws.{absent_none}
use Rattle.std.specs.Prelude.{Result, Ok, Err}
use Rattle.server.specs.Answers.{replied_of, answer_of}
use Rattle.server.specs.declared.Answered.{Answered}
use Rattle.server.specs.declared.Refusal.{Refusal}
use Rattle.server.specs.Server.{Answer, refused, replied, Outcome, ◌leaving◌, unless_disabled, body_in, judged, verdict_on, refusing, replying, respond}
use Rattle.server.specs.Steps.{on_cookie, ignoring}
use Rattle.server.specs.declared.Refusal.TheVariants.{Output, Address, Request}

-- ---- mode Disabled

module _ (m : CookieMethod) (secrets : Secrets) (clock : ℕ) (address message output : List ℕ) where
  -- behind checks 1 and 2
  pub ignoring_is : 28 ≤ length output → is_address address ≡ true → (mode : Mode) → is_disabled mode ≡ true
      → (ignoring message leaving output) ≡ respond m mode secrets clock address message output
  unfolding respond
  ignoring_is room from Enabled e = absurd (false≢true e)
  ignoring_is room from Enforced e = absurd (false≢true e)
  ignoring_is room from Disabled e = rw (le-ltb (length output) 28 room, from) (pick (first (head_checks message)))
    where
      pick : (n : ℕ) → (answered refused n (replied ignored (serve carrying Nothing)) leaving output)
          ≡ answered (refusing output) n (replied ignored (serve carrying Nothing) leaving output)
      pick zero = refl
      pick (suc n) = refl

-- ---- a request as it was read

module _ (m : CookieMethod) (mode : Mode) (secrets : Secrets) (clock : ℕ) (address message output : List ℕ) where
  -- what is answered to what the reader found
  abbrev pub on_reading : request.Answer → Outcome
  on_reading (request.refused n) = refusing output n
  on_reading (request.no_cookie q) = on_cookie m mode secrets clock address q output none
  on_reading (request.cookie q start end) = on_cookie m mode secrets clock address q output (some (take (end - start) (drop start message)))

  module _ (on : is_disabled mode ≡ false) where
    judged_in_lem : (c : Option (List ℕ)) → verdict_on m mode secrets clock address c ≡ judged m secrets clock address c
    judged_in_lem c = when_on (λ (n : Mode). verdict_on m n secrets clock address c ≡ judged m secrets clock address c) refl refl mode on

    all_checks : (rows : List Row) → unless_disabled mode rows ≡ rows
    all_checks rows = when_on (λ (n : Mode). unless_disabled n rows ≡ rows) refl refl mode on

    by_reading : (n q start : ℕ) (c : Option EdnsOption)
        → answered (refusing output) n
        (replying m mode secrets clock address q (get_or (body_in message (found q start c)) []) output (judged m secrets clock address (body_in message (found q start c))))
        ≡ on_reading (answered request.refused n (found q start c))
    by_reading (suc n) q start c = refl
    by_reading zero q start none = refl
    by_reading zero q start (some o) = refl

    -- behind checks 1 and 2
    pub read_is : 28 ≤ length output → is_address address ≡ true → on_reading (request.request message) ≡ respond m mode secrets clock address message output
    unfolding respond request.request
    read_is room from =
        sym
        (rw (le-ltb (length output) 28 room, from, all_checks, judged_in_lem)
        (by_reading (first (request.checks message)) (qdcount message) (start_of (opts_in message)) (cookie_of message)))

-- no option without a COOKIE option
absent_stays : (m : CookieMethod) (mode : Mode) (secrets : Secrets) (clock : ℕ) (address : List ℕ) (q : ℕ) (output : List ℕ)
    → (replied absent (reply_owed mode q absent []) leaving output) ≡ on_cookie m mode secrets clock address q output none
absent_stays m mode secrets clock address q output = rw (absent_none mode q [])

-- ---- the answers

module _ (mode : Mode) (secrets : Secrets) (clock : ℕ) (address message output : List ℕ) where
  told_is : {a b : Answer} → a ≡ b → (a leaving output) ≡ (b leaving output)
  told_is e = ap (λ (x : Answer). x leaving output) e

  abbrev Is : Result Answered Refusal → List ℕ → Type 0
  Is r after = answer_of r leaving after ≡ respond sip_hash_method mode secrets clock address message output

  pub refuse_1 : length output < 28 → Is (Err Output) output
  unfolding respond
  refuse_1 short = simp (lt-ltb (length output) 28 short)

  module _ (room : 28 ≤ length output) where
    pub refuse_2 : (a : Bool) → a ≡ is_address address → a ≡ false → Is (Err Address) output
    unfolding respond
    refuse_2 a is e = rw (le-ltb (length output) 28 room, ← is, e) refl

    module _ (a : Bool) (is-a : a ≡ is_address address) (yes' : a ≡ true) (d : Bool) (is-d : d ≡ is_disabled mode) where
      pub ignored_is : d ≡ true → (r : Result Answered Refusal) → answer_of r ≡ ignoring message → Is r output
      ignored_is e r told = told_is told ∙ ignoring_is sip_hash_method secrets clock address message output room (sym is-a ∙ yes') mode (sym is-d ∙ e)

      module _ (e : d ≡ false) where
        by : (x : request.Answer) → x ≡ request.request message
            → on_reading sip_hash_method mode secrets clock address message output x ≡ respond sip_hash_method mode secrets clock address message output
        by x read = ap (on_reading sip_hash_method mode secrets clock address message output) read ∙ read_is sip_hash_method mode secrets clock address message output (sym is-d ∙ e) room (sym is-a ∙ yes')

        pub refused_is : (f : request-refusal.Refusal) → request.refused (request-answers.refusal_number f) ≡ request.request message → Is (Err (Request f)) output
        refused_is f read = by (request.refused (request-answers.refusal_number f)) read

        pub absent_is : (q : ℕ) → request.no_cookie q ≡ request.request message → (r : Answered) → replied_of r ≡ replied absent (reply_owed mode q absent []) → Is (Ok r) output
        absent_is q read r told = told_is told ∙ absent_stays sip_hash_method mode secrets clock address q output ∙ by (request.no_cookie q) read

        module _ (q start end : ℕ) (read : request.cookie q start end ≡ request.request message) where
          pub cookie_is : (x : List ℕ) → x ≡ address → (r : Answered) (after : List ℕ)
              → replied_of r leaving after ≡ on_cookie sip_hash_method mode secrets clock x q output (some (take (end - start) (drop start message)))
              → Is (Ok r) after
          cookie_is x same r after told =
              told ∙ ap (λ (l : List ℕ). on_cookie sip_hash_method mode secrets clock l q output (some (take (end - start) (drop start message)))) same ∙ by (request.cookie q start end) read
