-- What each function of include/dnscookie.h answers, and what the bytes that are lent to it hold afterwards, for every argument. What a request, a cookie, a step and a
-- line are is said in the crates below; here is only how they cross to C. Assumes nothing.
use Rattle.std.specs.Prelude.{ℕ, zero, suc, Bool, cond, not, ◌||◌, ltb, List, [], ◌∷◌, ◌++◌, length, drop, ◌==◌, nat_le, nat_lt, slice_index}
use Rattle.std.proofs.Math.Option.{Option, none, some}
use Rattle.octets.specs.Refusals.{◌when◌, first, answered}
use Rattle.octets.specs.Runs.{written}
use Rattle.secret.specs.Secret.{secret_of, secret_bytes}
use Rattle.secret.specs.declared.Secrets.{Secrets}
use Rattle.secret.specs.declared.Secrets.TheVariants.{One, Two}
use Rattle.siphash.specs.SipHash.{sip_hash24_bytes}
use Rattle.verdict.specs.declared.Mode.{Mode}
use Rattle.verdict.specs.declared.Mode.TheVariants.{Disabled, Enabled, Enforced}
use Rattle.cookie.specs.CookieOption.{fresh_option, fresh_refusal, output_after}
use Rattle.cookie.specs.ServerCookie.{sip_hash_method, judgement}
use Rattle.server.specs.Server as server
use Rattle.ledger.specs.Ledger as ledger
use Rattle.ledger.specs.Ledger.{view_of, fresh_ledger}
use Rattle.ledger.specs.Rules.{wait, secrets_of}
use Rattle.ledger.specs.Run.{offered}
use Rattle.ledger.specs.declared.Ledger.{Ledger}
use Rattle.rows.specs.Rows.{row_line, longest}
use Rattle.listing.specs.Listing.{row_after}
use Rattle.snapshot.specs.Snapshot.{size, snapshot_of, ledger_in}
use Rattle.dnscookie.specs.Words.{wrong_mode, wrong_secrets, wrong_client, wrong_ledger, wrong_record, no_room_word, wrong_answer, no_secrets, answer_word, fault_word, judged_word, length_word}

-- the answer, and what the bytes that were lent hold afterwards
pub record Outcome : Type 0 where
  pub answer : ℕ
  pub bytes : List ℕ

infix 60 ◌leaving◌
-- an outcome as it is written
abbrev pub ◌leaving◌ : ℕ → List ℕ → Outcome
n leaving bytes = record { answer = n; bytes = bytes }

-- a refusal by its number leaves them as they were
abbrev pub refusing : List ℕ → ℕ → Outcome
refusing lent n = n leaving lent

-- ---- how arguments cross

-- a mode by its number: 0, 1 or 2
unfoldable pub is_mode : ℕ → Bool
is_mode n = nat_le n 2

-- those above are refused, whatever is said of them here
abbrev pub mode_of : ℕ → Mode
mode_of zero = Disabled
mode_of (suc zero) = Enabled
mode_of (suc (suc n)) = Enforced

-- one secret or two: the generating one, and behind it the other
unfoldable pub are_secrets : List ℕ → Bool
are_secrets bytes = length bytes == 16 || length bytes == 32

-- what they are. Bytes of another length are refused, whatever is said of them here
unfoldable pub secrets_in : List ℕ → Secrets
secrets_in bytes = cond (length bytes == 16) (One (secret_of bytes)) (Two (secret_of bytes) (secret_of (drop 16 bytes)))

-- the same written
abbrev pub secrets_bytes : Secrets → List ℕ
secrets_bytes (One secret) = secret_bytes secret
secrets_bytes (Two generating other) = secret_bytes generating ++ secret_bytes other

-- ---- cookies

-- a mode and secrets that are refused
unfoldable pub holder_refusal : ℕ → List ℕ → ℕ
holder_refusal mode secrets =
    first (wrong_mode when not (is_mode mode)
    ∷ wrong_secrets when not (are_secrets secrets)
    ∷ [])

-- an outcome of crate server as C has it
abbrev pub as_word : server.Outcome → Outcome
as_word o = answer_word o.answer leaving o.output

-- dnscookie_respond
unfoldable pub respond_call : ℕ → List ℕ → ℕ → List ℕ → List ℕ → List ℕ → Outcome
respond_call mode secrets clock address message output =
    answered (λ n. fault_word n leaving output) (holder_refusal mode secrets)
    (as_word (server.respond sip_hash_method (mode_of mode) (secrets_in secrets) clock address message output))

-- dnscookie_judge
unfoldable pub judge_call : ℕ → List ℕ → ℕ → List ℕ → List ℕ → ℕ
judge_call mode secrets clock address body =
    answered (λ n. n) (holder_refusal mode secrets) (judged_word (judgement sip_hash_method (mode_of mode) (secrets_in secrets) clock address body))

-- secrets and a client cookie that are refused
unfoldable pub maker_refusal : List ℕ → List ℕ → ℕ
maker_refusal secrets client =
    first (wrong_secrets when not (are_secrets secrets)
    ∷ wrong_client when not (length client == 8)
    ∷ [])

-- dnscookie_make: a fresh option under the generating secret. Refusals 1 and 2 are document 01's
unfoldable pub make_call : List ℕ → ℕ → List ℕ → List ℕ → List ℕ → Outcome
make_call secrets clock address client output =
    let n = fresh_refusal output address in
    answered (refusing output) (maker_refusal secrets client)
    (n leaving output_after n (fresh_option sip_hash_method (secret_of secrets) clock address client) output)

-- a secret and an output that are refused
unfoldable pub hash_refusal : List ℕ → List ℕ → ℕ
hash_refusal secret output =
    first (wrong_secrets when not (length secret == 16)
    ∷ no_room_word when ltb (length output) 8
    ∷ [])

-- dnscookie_siphash24: the eight bytes of the hash at the front of the output
unfoldable pub hash_call : List ℕ → List ℕ → List ℕ → Outcome
hash_call secret message output =
    answered (refusing output) (hash_refusal secret output) (0 leaving written output 0 (sip_hash24_bytes (secret_of secret) message))

-- ---- a ledger, whose snapshot is in the bytes that are lent

-- dnscookie_ledger_fresh
unfoldable pub fresh_call : List ℕ → Outcome
fresh_call state = cond (length state == size) (0 leaving snapshot_of fresh_ledger) (wrong_ledger leaving state)

-- the state after a step. A refusal leaves it as it was
abbrev pub state_after : List ℕ → ledger.Outcome → Outcome
state_after state o = o.answer leaving cond (o.answer == 0) (snapshot_of o.ledger) state

-- a record on what is found in a state: no ledger and a record of another length are refused
abbrev pub step_on : Option Ledger → List ℕ → List ℕ → Outcome
step_on none state bytes = wrong_ledger leaving state
step_on (some l) state bytes = cond (length bytes == 32) (state_after state (offered wait l bytes)) (wrong_record leaving state)

-- dnscookie_ledger_step
unfoldable pub step_call : List ℕ → List ℕ → Outcome
step_call state bytes = step_on (ledger_in state) state bytes

-- the secrets at the front of the output, and how many bytes they are: 16 or 32
abbrev pub handed_over : Option Secrets → List ℕ → Outcome
handed_over none output = no_secrets leaving output
handed_over (some secrets) output = length_word (length (secrets_bytes secrets)) leaving written output 0 (secrets_bytes secrets)

-- there must be room for two
abbrev pub secrets_on : Option Ledger → ℕ → List ℕ → Outcome
secrets_on none member output = wrong_ledger leaving output
secrets_on (some l) member output = cond (nat_lt (length output) 32) (no_room_word leaving output) (handed_over (secrets_of (view_of l) member) output)

-- dnscookie_ledger_secrets
unfoldable pub secrets_call : List ℕ → ℕ → List ℕ → Outcome
secrets_call state member output = secrets_on (ledger_in state) member output

-- a record, an answer and an output that are refused. There must be room for the longest line
unfoldable pub line_refusal : List ℕ → ℕ → List ℕ → ℕ
line_refusal bytes answer output =
    first (wrong_record when not (length bytes == 32)
    ∷ wrong_answer when ltb 10 answer
    ∷ no_room_word when ltb (length output) longest
    ∷ [])

-- the line of a record that got this answer and left this ledger, and how long it is
abbrev pub line_on : Option Ledger → ℕ → List ℕ → ℕ → List ℕ → Outcome
line_on none number bytes answer output = wrong_ledger leaving output
line_on (some l) number bytes answer output =
    let text = row_line (row_after number (slice_index bytes 0) (record { answer = answer; ledger = l })) in
    answered (refusing output) (line_refusal bytes answer output) (length_word (length text) leaving written output 0 text)

-- dnscookie_ledger_line
unfoldable pub line_call : List ℕ → ℕ → List ℕ → ℕ → List ℕ → Outcome
line_call state number bytes answer output = line_on (ledger_in state) number bytes answer output
