-- A run of calls: its calls, splits of it, and the records that it offers to the ledger, by which what is known of records is known of calls. Assumes nothing.
use Prim.Native.Nat.{ℕ, zero, suc}
use mathlib.Core.Path.{◌≡◌, refl, sym, ap, ap₂, subst, ◌∙◌}
use mathlib.Core.Bool.{Bool, cond}
use mathlib.Core.List.{List, [], ◌∷◌, ◌++◌, map, nil≢cons, head-eq_of_cons-eq, tail-eq_of_cons-eq}
use lib.Dec.{eqb, eqb-suc-zero}
use Rattle.cookie.specs.ServerCookie.{CookieMethod}
use Rattle.ledger.specs.Journal.{read_step}
use Rattle.ledger.specs.Ledger.{view_of}
use Rattle.ledger.specs.Rules.{refusal}
use Rattle.ledger.specs.Run as ledger
use Rattle.ledger.specs.Run.{offered, after, accepted}
use Rattle.ledger.specs.declared.Ledger.{Ledger}
use Rattle.ledger.specs.declared.Step.{Step}
use Rattle.ledger.proofs.Along.{answer_is}
use Rattle.fleet.specs.Calls.{Call, Entry, step_answer, reply_to, past, run_on, past_on, is_accepted, noted, accepted_on}
use Rattle.fleet.specs.Calls.Call.{step, making, checking}

module _ (w : ℕ) (m : CookieMethod) where
  pub each_once : (l : Ledger) (calls : List Call) → map (λ e. e.call) (run_on w m l calls) ≡ calls
  each_once l [] = refl
  each_once l (c ∷ rest) = ap (◌∷◌ c) (each_once (past w l c) rest)

  -- ---- splits

  -- the entries before a point are the run of some of the calls, and the rest that of the others, on the ledger that was left
  pub record Split (l : Ledger) (before rest : List Entry) : Type 0 where
    pub earlier : List Call
    pub others : List Call
    pub first_part : before ≡ run_on w m l earlier
    pub second_part : rest ≡ run_on w m (past_on w l before) others

  pub split : (l : Ledger) (calls : List Call) (before rest : List Entry) → run_on w m l calls ≡ before ++ rest → Split l before rest
  split l calls [] rest e = record { earlier = []; others = calls; first_part = refl; second_part = sym e }
  split l [] (x ∷ before) rest e = absurd (nil≢cons e)
  split l (c ∷ calls) (x ∷ before) rest e =
      let s = split (past w l c) calls before rest (tail-eq_of_cons-eq e) in
      let h = head-eq_of_cons-eq e in
      record {
        earlier = c ∷ s.earlier;
        others = s.others;
        first_part = ap₂ ◌∷◌ (sym h) s.first_part;
        second_part = subst (λ (y : Entry). rest ≡ run_on w m (past_on w (past w l y.call) before) s.others) h s.second_part;
      }

  -- the first entry of a run is answered by what is seen of the ledger, and the later ones are a run on what it leaves
  pub record Next (l : Ledger) (e : Entry) (later : List Entry) : Type 0 where
    pub others : List Call
    pub this : e.reply ≡ reply_to w m (view_of l) e.call
    pub next : later ≡ run_on w m (past w l e.call) others

  pub next_of : (l : Ledger) (calls : List Call) (e : Entry) (later : List Entry) → e ∷ later ≡ run_on w m l calls → Next l e later
  next_of l [] e later p = absurd (nil≢cons (sym p))
  next_of l (c ∷ rest) e later p =
      subst (λ (x : Entry). Next l x later) (sym (head-eq_of_cons-eq p)) record { others = rest; this = refl; next = tail-eq_of_cons-eq p }

-- ---- the records

-- those that a call offers, before others
abbrev pub records_from : Call → List (List ℕ) → List (List ℕ)
records_from (step bytes) others = bytes ∷ others
records_from (making member time client address output) others = others
records_from (checking member mode time address body) others = others

-- the bytes of the steps, in their order
abbrev pub records_in : List Entry → List (List ℕ)
records_in [] = []
records_in (e ∷ rest) = records_from e.call (records_in rest)

module _ (w : ℕ) where
  past_after : (l : Ledger) (c : Call) (records : List (List ℕ)) → after w (past w l c) records ≡ after w l (records_from c records)
  unfolding past
  past_after l (step bytes) records = refl
  past_after l (making member time client address output) records = refl
  past_after l (checking member mode time address body) records = refl

  -- the calls leave the ledger that their records leave
  pub ledger_projected : (l : Ledger) (entries : List Entry) → past_on w l entries ≡ after w l (records_in entries)
  ledger_projected l [] = refl
  ledger_projected l (e ∷ rest) = ledger_projected (past w l e.call) rest ∙ past_after l e.call (records_in rest)

is_accepted_lem : (n : ℕ) → is_accepted (step_answer n) ≡ eqb n 0
is_accepted_lem zero = refl
is_accepted_lem (suc n) = sym (eqb-suc-zero n)

module _ (w : ℕ) (m : CookieMethod) where
  -- a step is noted as accepted exactly when the ledger answers 0
  noted_is : (l : Ledger) (h : List Step) (c : Call) (records : List (List ℕ))
      → accepted (ledger.run w (past w l c) records) (noted h c (reply_to w m (view_of l) c).answer) ≡ accepted (ledger.run w l (records_from c records)) h
  unfolding past reply_to
  noted_is l h (step bytes) records =
      ap (λ (b : Bool). accepted (ledger.run w (offered w l bytes).ledger records) (cond b (read_step bytes ∷ h) h))
      (is_accepted_lem (refusal w (view_of l) (read_step bytes)) ∙ ap (λ (n : ℕ). eqb n 0) (sym (answer_is w l bytes)))
  noted_is l h (making member time client address output) records = refl
  noted_is l h (checking member mode time address body) records = refl

  history_of : (l : Ledger) (h : List Step) (calls : List Call)
      → accepted_on h (run_on w m l calls) ≡ accepted (ledger.run w l (records_in (run_on w m l calls))) h
  history_of l h [] = refl
  history_of l h (c ∷ rest) =
      history_of (past w l c) (noted h c (reply_to w m (view_of l) c).answer) rest ∙ noted_is l h c (records_in (run_on w m (past w l c) rest))

  -- the steps that a run accepts are those that the ledger accepts of its records
  pub history_projected : (l : Ledger) (h : List Step) (calls : List Call) (entries : List Entry) → entries ≡ run_on w m l calls
      → accepted_on h entries ≡ accepted (ledger.run w l (records_in entries)) h
  history_projected l h calls entries e =
      subst (λ (es : List Entry). accepted_on h es ≡ accepted (ledger.run w l (records_in es)) h) (sym e) (history_of l h calls)
