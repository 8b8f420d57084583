-- What the proofs of the calls on a ledger cite, one law for each answer. Assumes nothing.
use Rattle.std.proofs.Common.{◌≡◌, ℕ, ◌*◌, ◌^◌, ◌<◌, ◌≤◌, Bool, true, false, cond, ◌&&◌, List, ◌++◌, length, get_or, sym, refl, ap, ◌∙◌, ap₂, zero-add, arith, length-append, w64, Fits, le-ltb, eq-eqb, le-leb}
use mathlib.Core.Bool.{false≢true}
use mathlib.Core.Option.{none, some}
use Rattle.octets.specs.Refusals.{is_none}
use Rattle.octets.specs.Runs.{written}
use Rattle.octets.proofs.RunLaws.{written_behind}
use Rattle.secret.specs.Secret.{secret_bytes}
use Rattle.secret.specs.declared.Secret.{Secret}
use Rattle.secret.specs.declared.Secrets.{Secrets}
use Rattle.secret.specs.declared.Secrets.TheVariants.{Two}
use Rattle.stages.proofs.SetLaws.{in_past}
use Rattle.ledger.specs.Journal.{read_step}
use Rattle.ledger.specs.Ledger as ledger
use Rattle.ledger.specs.Ledger.{view_of, fresh_ledger, stepped}
use Rattle.ledger.specs.Rules.{wait, secrets_of}
use Rattle.ledger.specs.Run.{offered}
use Rattle.ledger.specs.declared.Ledger.{Ledger}
use Rattle.rows.specs.Rows as rows
use Rattle.rows.specs.Rows.{row_line, placed}
use Rattle.rows.specs.declared.Row.{Row}
use Rattle.listing.specs.Listing.{row_after}
use Rattle.snapshot.specs.Snapshot.{is_snapshot, ledger_in, kept_in}
use Rattle.snapshot.proofs.ReadLaws.{has_size}
use Rattle.snapshot.proofs.WriteLaws.{length_secret}
use Rattle.dnscookie.specs.Calls.{◌leaving◌, step_call, handed_over, secrets_call, line_refusal, line_call}
use Rattle.dnscookie.specs.Words.{length_word}

-- ---- a ledger that is found in a state

module _ (state : List ℕ) (l : Ledger) (found : some l ≡ ledger_in state) where
  -- it has its size
  state_size : length state ≡ 68
  unfolding ledger_in
  state_size = sized (is_snapshot state) refl found
    where
      sized : (b : Bool) → is_snapshot state ≡ b → some l ≡ ledger_in state → length state ≡ 68
      sized true q e = has_size state true (sym q) refl
      sized false q e = absurd (false≢true (ap is_none e ∙ rw q refl))

  -- a step that is accepted is written
  pub step_accepted : (bytes whole now : List ℕ) (after : Ledger) → length bytes ≡ 32 → whole ≡ bytes
      → ◌≡◌ {A = ledger.Outcome} (record { answer = 0; ledger = after }) (stepped wait l (read_step whole)) → now ≡ kept_in state after → 0 leaving now ≡ step_call state bytes
  unfolding step_call kept_in
  step_accepted bytes whole now after long same told writes =
      let came : (record { answer = 0; ledger = after }) ≡ offered wait l bytes = told ∙ ap (λ (x : List ℕ). offered wait l x) same in
      rw (← found, eq-eqb (length bytes) 32 long, ← came) (ap (λ (s : List ℕ). 0 leaving s) (writes ∙ rw (eq-eqb (length state) 68 state_size) refl))

  -- no number above 255 is a member's
  pub secrets_past : (member : ℕ) (output : List ℕ) → 32 ≤ length output → l.stages.members < 2 ^ 32 → (member < 256 → ⊥) → 108 leaving output ≡ secrets_call state member output
  unfolding secrets_call secrets_of
  secrets_past member output room fits past =
      rw (← found, le-ltb (length output) 32 room, in_past 32 l.stages.members member fits (omega arith)) (go l.started _)
    where
      go : (b : Bool) (x : Secrets) → 108 leaving output ≡ handed_over (cond (b && false) (some x) none) output
      go true x = refl
      go false x = refl

-- ---- secrets put

pub two_put : (output : List ℕ) (secrets : Secrets) → 32 ≤ length output → (g o : Secret) (x y b after : List ℕ) → secrets ≡ Two g o → x ≡ secret_bytes g → y ≡ secret_bytes o
    → b ≡ written output 0 x → after ≡ written b 16 y → 8192 leaving after ≡ handed_over (some secrets) output
two_put output secrets room g o x y b after e is is' first' second' =
    let nx : length x ≡ 16 = ap length is ∙ length_secret g in
    let ny : length y ≡ 16 = ap length is' ∙ length_secret o in
    let both : after ≡ written output 0 (x ++ y) = written_behind output x y b after 0 16 first' (omega arith) (omega arith) second' in
    let long : ◌≡◌ {A = ℕ} 32 (length (secret_bytes g ++ secret_bytes o)) = omega (arith, length-append (secret_bytes g) (secret_bytes o), length_secret g, length_secret o) in
    rw e (ap₂ ◌leaving◌ (ap length_word long) (both ∙ rw (is, is') refl))

-- ---- a line

module _ (output : List ℕ) (room : 47 ≤ length output) (row : Row) (end : ℕ) (after : List ℕ) (puts : rows.◌leaving◌ end after ≡ placed output 0 (row_line row)) where
  put : rows.◌leaving◌ end after ≡ rows.◌leaving◌ (length (row_line row)) (written output 0 (row_line row))
  unfolding placed
  put = puts ∙ rw (le-leb 47 (length output) room, zero-add (length (row_line row))) refl

  pub line_fits : length (row_line row) ≤ 47 → Fits w64 (end * 256)
  line_fits short = record { fits = omega (arith, ap (λ (p : rows.Placed). p.end) put) }

  pub line_put : (state bytes : List ℕ) (l : Ledger) (number answer : ℕ) → some l ≡ ledger_in state → row ≡ row_after number (get_or bytes 0 0) (record { answer = answer; ledger = l })
      → length bytes ≡ 32 → answer ≤ 10 → end * 256 leaving after ≡ line_call state number bytes answer output
  unfolding line_call line_refusal
  line_put state bytes l number answer found is long below =
      let text : row_line row ≡ row_line (row_after number (get_or bytes 0 0) (record { answer = answer; ledger = l })) = ap row_line is in
      let word : end * 256 ≡ length_word end = omega arith in
      rw (← found, eq-eqb (length bytes) 32 long, le-ltb 10 answer below, le-ltb (length output) 47 room)
      (ap (λ (n : ℕ). n leaving after) word ∙ ap (λ (p : rows.Placed). length_word p.end leaving p.buffer) put ∙ ap (λ (t : List ℕ). length_word (length t) leaving written output 0 t) text)
