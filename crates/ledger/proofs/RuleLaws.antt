-- Rows that refuse a step: that it has no kind; and those of a member step, behind rows that don't apply. Assumes nothing.
use Rattle.std.proofs.Common.{Result, Err, ◌⊎◌, inl, inr, ℕ, suc, ◌-◌, ◌≡◌, ◌<◌, Bool, true, false, not, ◌||◌, List, [], ◌∷◌, drop, eqb, ltb, refl, ap, subst, ◌∙◌, arith, lt-ltb}
use Rattle.octets.specs.Refusals.{Row, ◌when◌, first}
use Rattle.secret.specs.Secret.{same_secret}
use Rattle.ledger.specs.Answers.{refusal_number, answer_number, kind_number, of_kind}
use Rattle.ledger.specs.Ledger.{◌leaving◌, stepped}
use Rattle.ledger.specs.Rules.{View, latest, wait, refusals, refusal}
use Rattle.ledger.specs.declared.Ledger.{Ledger}
use Rattle.ledger.specs.declared.Refusal.{Refusal}
use Rattle.ledger.specs.declared.Refusal.TheVariants.{Kind, Time, Earlier, Again, NotOpen, OtherSecret, NoMember, OtherStage, OthersApart, Wait}
use Rattle.ledger.specs.declared.Step.{Step}
use Rattle.ledger.specs.declared.kinds.Kind as kind
use Rattle.ledger.specs.declared.kinds.Kind.TheVariants.{Start, Open, Learn, Switch, Drop, Cancel}

-- row 1: a byte that is no kind
pub no_kind : (l : Ledger) (s r : Step) (a : Result Unit Refusal) (reason : Refusal) → s ≡ r → a ≡ Err reason → (reason ≡ Kind) × (5 < s.kind)
    → (answer_number a leaving l) ≡ stepped wait l r
unfolding stepped refusal
no_kind l s r a reason read is h = rw (is, h.0, ← read, lt-ltb 5 s.kind h.1)

-- ---- rows 7 and 8, of a member step

-- no refusal has the number 0
one_up : (reason : Refusal) → (n : ℕ) × (refusal_number reason ≡ suc n)
one_up Kind = (0, refl)
one_up Time = (1, refl)
one_up Earlier = (2, refl)
one_up Again = (3, refl)
one_up NotOpen = (4, refl)
one_up OtherSecret = (5, refl)
one_up NoMember = (6, refl)
one_up OtherStage = (7, refl)
one_up OthersApart = (8, refl)
one_up Wait = (9, refl)

-- rows 2, 3, 5 and 6 don't apply, so 7 or 8 does
told : (n k : ℕ) (rest : List Row) (late early shut other absent apart : Bool) → n ≡ suc k → first (2 when late ∷ 3 when early ∷ []) ≡ 0 → first (5 when shut ∷ 6 when other ∷ []) ≡ 0
    → n ≡ first (7 when absent ∷ 8 when apart ∷ [])
    → n ≡ first (2 when late ∷ 3 when early ∷ 5 when shut ∷ 6 when other ∷ 7 when absent ∷ 8 when apart ∷ rest)
told n k rest true early shut other absent apart up time named row = absurd (omega (arith, time))
told n k rest false true shut other absent apart up time named row = absurd (omega (arith, time))
told n k rest false false true other absent apart up time named row = absurd (omega (arith, named))
told n k rest false false false true absent apart up time named row = absurd (omega (arith, named))
told n k rest false false false false true apart up time named row = row
told n k rest false false false false false true up time named row = row
told n k rest false false false false false false up time named row = absurd (omega (arith, up, row))

module _ (v : View) (s : Step) (a : Result Unit Refusal) (reason : Refusal) (from : ℕ) (is : a ≡ Err reason)
    (time : first (2 when ltb latest s.time ∷ 3 when ltb s.time v.last ∷ []) ≡ 0)
    (named : first (5 when (not v.started || not v.rolling) ∷ 6 when not (same_secret s.secret v.new) ∷ []) ≡ 0) where
  abbrev Refuses : ℕ → Type 0
  Refuses n = refusal_number reason ≡ first (7 when not (v.present s.member) ∷ 8 when not (eqb (v.stage s.member) n) ∷ [])

  pub member_refused : (k : kind.Kind) → (k ≡ Learn) ⊎ ((k ≡ Switch) ⊎ ((k ≡ Drop) ⊎ (k ≡ Cancel))) → (k ≡ Cancel → ⊥) → from ≡ kind_number k - 2
      → Refuses from
      → answer_number a ≡ refusal wait v (of_kind k s)
  unfolding refusal
  member_refused Start one other starts row = absurd (elim one [ inl e ↦ cc | inr r ↦ elim r [ inl e ↦ cc | inr q ↦ elim q [ inl e ↦ cc | inr e ↦ other e ] ] ])
  member_refused Open one other starts row = absurd (elim one [ inl e ↦ cc | inr r ↦ elim r [ inl e ↦ cc | inr q ↦ elim q [ inl e ↦ cc | inr e ↦ other e ] ] ])
  member_refused Learn one other starts row = ap answer_number is ∙ told _ (one_up reason).0 (drop 8 (refusals wait v (of_kind Learn s))) _ _ _ _ _ _ (one_up reason).1 time named (subst Refuses starts row)
  member_refused Switch one other starts row = ap answer_number is ∙ told _ (one_up reason).0 (drop 8 (refusals wait v (of_kind Switch s))) _ _ _ _ _ _ (one_up reason).1 time named (subst Refuses starts row)
  member_refused Drop one other starts row = ap answer_number is ∙ told _ (one_up reason).0 (drop 8 (refusals wait v (of_kind Drop s))) _ _ _ _ _ _ (one_up reason).1 time named (subst Refuses starts row)
  member_refused Cancel one other starts row = absurd (other refl)
