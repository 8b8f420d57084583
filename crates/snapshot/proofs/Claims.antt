-- The claims of specs/Claims.antt: a ledger is read back from its snapshot, bytes are written back from the ledger that they are, and steps keep the widths.
-- Assumes nothing.
use mathlib.Core.Path.{◌≡◌, refl, sym, ap, ap₂, ◌∙◌}
use mathlib.Core.Bool.{Bool, true, false, cond}
use mathlib.Core.List.{List, ◌++◌}
use mathlib.Core.Option.{none, some, none-ne-some}
use Prim.Native.Nat.{ℕ, zero, suc, ◌+◌, ◌^◌, ◌≤◌, ◌<◌}
use native.Mathlib.Omega.{arith}
use borrow.Author.Tests.{eqb-true, leb-true}
use lib.Dec.{eqb, leb}
use lib.ListN.{length, get_or, take, drop}
use lib.Seq.{take-add, take_all, drop-drop}
use Rattle.octets.specs.Numbers.{le_number, le_bytes}
use Rattle.octets.proofs.NumberLaws.{le_back}
use Rattle.octets.proofs.ReadLaws.{part_from, part_again, be64_fits}
use Rattle.octets.proofs.RefusalLaws.{both_true}
use Rattle.secret.specs.Secret.{secret_of, secret_bytes}
use Rattle.secret.specs.declared.Secret.{Secret}
use Rattle.secret.proofs.SecretLaws.{words_fit}
use Rattle.stages.specs.Stages.{is_present, stage_of, all_dropped, learnt_by, switched_by, dropped_by}
use Rattle.stages.specs.declared.Stages.{Stages}
use Rattle.stages.proofs.SetLaws.{with_fits, below_fits}
use Rattle.ledger.specs.Journal.{START, OPEN, LEARN, SWITCH, DROP, CANCEL, is, read_step}
use Rattle.ledger.specs.Ledger.{view_of, fresh_ledger, after_start, after_open, after_move, after_close, after_drop, accept, outcome, stepped}
use Rattle.ledger.specs.Rules.{refusal}
use Rattle.ledger.specs.declared.Ledger.{Ledger}
use Rattle.ledger.specs.declared.Step.{Step}
use Rattle.snapshot.specs.Claims.{Octets, SecretFits, Fits, ReadBack, OneForm, StepsFit}
use Rattle.snapshot.specs.Snapshot.{stages_bytes, front_of, snapshot_of, is_snapshot, stages_of, ledger_of, ledger_in, head_of, number_at}

-- ---- a ledger from its snapshot: each part stands where it is looked for

secret_back : (s : Secret) → SecretFits s → ◌≡◌ {A = Secret} (record { k0 = le_number (le_bytes 8 s.k0); k1 = le_number (le_bytes 8 s.k1) }) s
secret_back s fit i = record { k0 = le_back 8 s.k0 fit.0 i; k1 = le_back 8 s.k1 fit.1 i }

module _ (l : Ledger) where
  -- the ledger with any two bits at its head
  abbrev with_bits : Bool → Bool → Ledger
  with_bits started rolling = record {
    started = started;
    rolling = rolling;
    current = l.current;
    new = l.new;
    stages = l.stages;
    last = l.last;
    last_switch = l.last_switch;
  }

  -- the same with its numbers read from their bytes
  abbrev read : Bool → Bool → Ledger
  read started rolling = record {
    started = started;
    rolling = rolling;
    current = record { k0 = le_number (le_bytes 8 l.current.k0); k1 = le_number (le_bytes 8 l.current.k1) };
    new = record { k0 = le_number (le_bytes 8 l.new.k0); k1 = le_number (le_bytes 8 l.new.k1) };
    stages =
        record {
          members = le_number (le_bytes 4 l.stages.members);
          learnt = le_number (le_bytes 4 l.stages.learnt);
          switched = le_number (le_bytes 4 l.stages.switched);
          dropped = le_number (le_bytes 4 l.stages.dropped);
        };
    last = le_number (le_bytes 8 l.last);
    last_switch = le_number (le_bytes 8 l.last_switch);
  }

  numbers_back : Fits l → (started rolling : Bool) → read started rolling ≡ with_bits started rolling
  numbers_back fits started rolling i = record {
    started = started;
    rolling = rolling;
    current = secret_back l.current fits.current i;
    new = secret_back l.new fits.new i;
    stages =
        record {
          members = le_back 4 l.stages.members fits.members i;
          learnt = le_back 4 l.stages.learnt fits.learnt i;
          switched = le_back 4 l.stages.switched fits.switched i;
          dropped = le_back 4 l.stages.dropped fits.dropped i;
        };
    last = le_back 8 l.last fits.last i;
    last_switch = le_back 8 l.last_switch fits.last_switch i;
  }

  -- at bits that are written the rest computes
  places : (started rolling : Bool) → ledger_in (snapshot_of (with_bits started rolling)) ≡ some (read started rolling)
  unfolding ledger_in is_snapshot ledger_of stages_of snapshot_of front_of stages_bytes secret_bytes secret_of le_bytes
  places true true = refl
  places true false = refl
  places false true = refl
  places false false = refl

pub read_back : ReadBack
read_back l fits = places l l.started l.rolling ∙ ap some (numbers_back l fits l.started l.rolling)

-- ---- bytes from the ledger that they are: each part is written where it was read

-- a bit's byte
bit_back : (b : ℕ) → b ≤ 1 → cond (eqb b 1) 1 0 ≡ b
bit_back zero low = refl
bit_back (suc zero) low = refl
bit_back (suc (suc b)) low = absurd (omega arith)

-- what makes bytes a snapshot
record IsOne (s : List ℕ) : Type 0 where
  long : length s ≡ 68
  form : get_or s 0 0 ≡ 1
  started : get_or s 1 0 ≤ 1
  rolling : get_or s 2 0 ≤ 1
  spare : get_or s 3 0 ≡ 0

is_one : (s : List ℕ) → is_snapshot s ≡ true → IsOne s
unfolding is_snapshot
is_one s h =
    let a = both_true (eqb (length s) 68) _ h in
    let b = both_true (eqb (get_or s 0 0) 1) _ a.1 in
    let c = both_true (leb (get_or s 1 0) 1) _ b.1 in
    let d = both_true (leb (get_or s 2 0) 1) (eqb (get_or s 3 0) 0) c.1 in
    record {
      long = eqb-true (length s) 68 a.0;
      form = eqb-true (get_or s 0 0) 1 b.0;
      started = leb-true (get_or s 1 0) 1 c.0;
      rolling = leb-true (get_or s 2 0) 1 d.0;
      spare = eqb-true (get_or s 3 0) 0 d.1;
    }

-- two parts, one behind the other
joined : (s x y : List ℕ) (n m at : ℕ) → x ≡ take n (drop at s) → y ≡ take m (drop (at + n) s) → x ++ y ≡ take (n + m) (drop at s)
joined s x y n m at p q = ap₂ ◌++◌ p (q ∙ ap (take m) (sym (drop-drop n at s))) ∙ sym (take-add n m (drop at s))

module _ (s : List ℕ) (octets : Octets s) (one : IsOne s) where
  number : (k at : ℕ) → at + k ≤ 68 → le_bytes k (number_at k at s) ≡ take k (drop at s)
  number k at low = part_again k at s (omega (arith, one.long)) octets

  secret : (at : ℕ) → at + 16 ≤ 68 → secret_bytes (secret_of (drop at s)) ≡ take 16 (drop at s)
  unfolding secret_bytes secret_of
  secret at low =
      joined s _ _ 8 8 at (number 8 at (omega arith))
      (ap (λ (r : List ℕ). le_bytes 8 (le_number (take 8 r))) (drop-drop 8 at s) ∙ number 8 (at + 8) (omega arith))

  stages : stages_bytes (stages_of s) ≡ take 16 (drop 4 s)
  unfolding stages_bytes stages_of
  stages =
      joined s _ _ 4 12 4 (number 4 4 (omega arith))
      (joined s _ _ 4 8 8 (number 4 8 (omega arith)) (joined s _ _ 4 4 12 (number 4 12 (omega arith)) (number 4 16 (omega arith))))

  head : head_of (eqb (get_or s 1 0) 1) (eqb (get_or s 2 0) 1) ≡ take 4 (drop 0 s)
  head = rw (bit_back (get_or s 1 0) one.started, bit_back (get_or s 2 0) one.rolling, ← part_from 4 0 0 s (omega (arith, one.long)), one.form, one.spare)

  again : snapshot_of (ledger_of s) ≡ s
  unfolding snapshot_of front_of ledger_of
  again =
      joined s _ _ 36 32 0
      (joined s _ _ 4 32 0 head (joined s _ _ 16 16 4 stages (joined s _ _ 8 8 20 (number 8 20 (omega arith)) (number 8 28 (omega arith)))))
      (joined s _ _ 16 16 36 (secret 36 (omega arith)) (secret 52 (omega arith)))
      ∙ take_all 68 s (omega (arith, one.long))

pub one_form : OneForm
unfolding ledger_in
one_form s octets l h = go (is_snapshot s) refl h
  where
    go : (b : Bool) → is_snapshot s ≡ b → cond b (some (ledger_of s)) none ≡ some l → snapshot_of l ≡ s
    go true e k = let same : ledger_of s ≡ l = cc in ap snapshot_of (sym same) ∙ again s octets (is_one s e)
    go false e k = absurd (none-ne-some l k)

-- ---- widths: each number that a step puts into a ledger was there, or was read from bytes, or is a set of members

-- a step whose numbers have the widths
record StepFits (s : Step) : Type 0 where
  time : s.time < 2 ^ 64
  secret : SecretFits s.secret

step_fits : (bytes : List ℕ) → Octets bytes → StepFits (read_step bytes)
unfolding read_step
step_fits bytes octets = record { time = be64_fits bytes octets 8; secret = words_fit bytes octets 16 }

fresh_fits : Fits fresh_ledger
unfolding fresh_ledger
fresh_fits = record {
  members = omega arith;
  learnt = omega arith;
  switched = omega arith;
  dropped = omega arith;
  last = omega arith;
  last_switch = omega arith;
  current = (omega arith, omega arith);
  new = (omega arith, omega arith);
}

either : (b : Bool) (l m : Ledger) → Fits l → Fits m → Fits (cond b l m)
either true l m f g = f
either false l m f g = g

module _ (l : Ledger) (s : Step) (fits : Fits l) (step : StepFits s) where
  none_fits : (0 < 2 ^ 64) × (0 < 2 ^ 64)
  none_fits = (omega arith, omega arith)

  close_fits : (current : Secret) → SecretFits current → Fits (after_close l s current)
  close_fits current fit = record {
    members = fits.members;
    learnt = omega arith;
    switched = omega arith;
    dropped = omega arith;
    last = step.time;
    last_switch = fits.last_switch;
    current = fit;
    new = none_fits;
  }

  -- LEARN, SWITCH and DROP
  move_fits : (stages : Stages) (at : ℕ) → stages.members < 2 ^ 32 → stages.learnt < 2 ^ 32 → stages.switched < 2 ^ 32 → stages.dropped < 2 ^ 32 → at < 2 ^ 64
      → Fits (after_move l s stages at)
  move_fits stages at m n o p t = record {
    members = m;
    learnt = n;
    switched = o;
    dropped = p;
    last = step.time;
    last_switch = t;
    current = fits.current;
    new = fits.new;
  }

  start_fits : Fits (after_start l s)
  start_fits = record {
    members = below_fits s.member;
    learnt = omega arith;
    switched = omega arith;
    dropped = omega arith;
    last = step.time;
    last_switch = fits.last_switch;
    current = step.secret;
    new = none_fits;
  }

  open_fits : Fits (after_open l s)
  open_fits = record {
    members = fits.members;
    learnt = omega arith;
    switched = omega arith;
    dropped = omega arith;
    last = step.time;
    last_switch = fits.last_switch;
    current = fits.current;
    new = step.secret;
  }

  drop_fits : Fits (after_drop l s)
  drop_fits =
      let after = dropped_by l.stages s.member in
      either (all_dropped (is_present after) (stage_of after)) (after_close l s l.new) (after_move l s after l.last_switch)
      (close_fits l.new fits.new)
      (move_fits after l.last_switch fits.members fits.learnt fits.switched (with_fits l.stages.dropped s.member fits.dropped) fits.last_switch)

  accept_fits : Fits (accept l s)
  unfolding accept
  accept_fits =
      either (is START s) _ _ start_fits
      (either (is OPEN s) _ _ open_fits
      (either (is LEARN s) _ _
      (move_fits (learnt_by l.stages s.member) l.last_switch fits.members (with_fits l.stages.learnt s.member fits.learnt) fits.switched fits.dropped fits.last_switch)
      (either (is SWITCH s) _ _
      (move_fits (switched_by l.stages s.member) s.time fits.members fits.learnt (with_fits l.stages.switched s.member fits.switched) fits.dropped step.time)
      (either (is DROP s) _ _ drop_fits (either (is CANCEL s) _ _ (close_fits l.current fits.current) fits)))))

  outcome_fits : (n : ℕ) → Fits (outcome n l s).ledger
  outcome_fits zero = accept_fits
  outcome_fits (suc n) = fits

pub steps_fit : StepsFit
unfolding stepped
steps_fit = (fresh_fits, λ w l fits bytes octets. outcome_fits l (read_step bytes) fits (step_fits bytes octets) (refusal w (view_of l) (read_step bytes)))
