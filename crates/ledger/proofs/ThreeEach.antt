-- The claim `ThreeStepsEach`, for every wait: while a rollover is open, the member steps since its OPEN are the sum of the members' stages, and somebody is not yet
-- at 3. Assumes nothing.
use Prim.Native.Nat.{ℕ, zero, suc, ◌*◌, ◌≤◌, ◌<◌}
use mathlib.Core.Path.{◌≡◌, refl, sym, ap, subst, ◌∙◌}
use mathlib.Core.Bool.{Bool, true, false, not, cond, ◌&&◌, true≢false, false≢true}
use mathlib.Core.List.{List, [], ◌∷◌}
use native.Mathlib.Omega.{arith}
use lib.Dec.{eqb, leb, ltb}
use borrow.Author.Tests.{ltb-true, lt-ltb, eq-eqb, not-true, not-false}
use Rattle.stages.specs.Sets.{member_limit, count_below}
use Rattle.ledger.specs.declared.Ledger.{Ledger}
use Rattle.ledger.specs.declared.Step.{Step}
use Rattle.ledger.specs.Account.{account, count_by}
use Rattle.ledger.specs.Claims.{member_steps, ThreeStepsEach}
use Rattle.ledger.specs.Journal.{OPEN, LEARN, SWITCH, DROP, CANCEL, is, is_member_step, read_step}
use Rattle.ledger.specs.Rules.{View, refusal}
use Rattle.ledger.specs.Run.{offered, ledger_after, history}
use Rattle.stages.proofs.BelowLaws.{any_some}
use Rattle.ledger.proofs.EachKind.{OfKind, EachKind, by_kind, of_members}
use Rattle.ledger.proofs.Facts.{Small, Steps, not_shut, start_facts, open_facts, learn_facts, switch_facts, drop_facts}
use Rattle.ledger.proofs.Move.{put, move, drop_either, Accepted, nothing_yet, and_then, account_move}
use Rattle.ledger.proofs.Along.{follows, answer_by_account, next_view}
use Rattle.ledger.proofs.Sound.{Sound, sound_account}
use Rattle.ledger.proofs.Totals.{total, total_zero, one_more, unfinished, left, count_numbers}

-- how many members a fleet has
abbrev pub heads : View → ℕ
heads v = count_below member_limit v.present

-- of an open rollover that has had n member steps
pub record Tally (v : View) (n : ℕ) : Type 0 where
  pub begun : v.started ≡ true
  pub taken : total member_limit v.present v.stage ≡ n
  pub some_left : unfinished v.present v.stage member_limit ≡ true

abbrev pub Tallied : View → ℕ → Type 0
Tallied v n = v.rolling ≡ true → Tally v n

-- so they are fewer than three for each
pub fewer_than : {w : ℕ} (v : View) → Sound w v → (n : ℕ) → Tally v n → n < 3 * heads v
fewer_than v i n tally =
    let low = left v.present v.stage i.stages.at_most member_limit in
    omega (arith, ltb-true (total member_limit v.present v.stage) (3 * heads v) (sym low ∙ tally.some_left))

-- ---- what an accepted step does

-- a member step that shuts the rollover makes the new secret current
abbrev Closing : View → View → Type 0
Closing v u = u.rolling ≡ false → u.current ≡ v.new

-- only the last DROP shuts it
each_closing : {w : ℕ} (v : View) → EachKind w v (λ s. is_member_step s ≡ true → Closing v (move v s))
unfolding move
each_closing {w} v =
    of_members (λ m t b e shut. absurd (not_shut (learn_facts w v m t b e) shut)) (λ m t b e shut. absurd (not_shut (switch_facts w v m t b e) shut))
    (λ m t b e. drop_either (Closing v) v m t b (λ q shut. refl) (λ q shut. absurd (not_shut (drop_facts w v m t b e) shut)))

module _ {w : ℕ} (v : View) (i : Sound w v) (n : ℕ) (tally : Tallied v n) where
  -- somebody is left where a member is not at 3
  somebody : (stage : ℕ → ℕ) (k : ℕ) → v.present k ≡ true → not (eqb (stage k) 3) ≡ true → unfinished v.present stage member_limit ≡ true
  unfolding unfinished
  somebody stage k here low = any_some member_limit (λ j. v.present j && not (eqb (stage j) 3)) k (i.people.small k here) (rw (here, low))

  -- a member goes from a stage to the next
  module _ (m from : ℕ) (low : from ≤ 2) (x : Steps v m from) where
    abbrev after : ℕ → ℕ
    after = put v.stage m (suc from)

    raised : total member_limit v.present after ≡ suc n
    raised =
        ap (λ (f : ℕ). total member_limit v.present (put v.stage m (suc f))) (sym x.at)
        ∙ one_more v.present v.stage member_limit m x.member (i.people.small m x.member)
        ∙ ap suc (tally x.rolling).taken

    at_most : (k : ℕ) → after k ≤ 3
    at_most k = go (eqb m k)
      where
        go : (c : Bool) → cond c (suc from) (v.stage k) ≤ 3
        go true = omega arith
        go false = i.stages.at_most k

    -- somebody is left exactly while there are fewer than three steps for each
    left_after : unfinished v.present after member_limit ≡ ltb (suc n) (3 * heads v)
    left_after = left v.present after at_most member_limit ∙ ap (λ (j : ℕ). ltb j (3 * heads v)) raised

    -- the member itself is, if it is not at 3
    itself : not (eqb (suc from) 3) ≡ true → unfinished v.present after member_limit ≡ true
    itself d = somebody after m x.member (rw (eq-eqb m m refl, d))

  -- the rollover is open afterwards exactly if it has had fewer
  abbrev Next : Step → Type 0
  Next s = (move v s).rolling ≡ ltb (suc n) (3 * heads v)

  next_learn : OfKind w v Next LEARN
  unfolding move
  next_learn m t b e = let x = learn_facts w v m t b e in x.rolling ∙ sym (itself m 0 (omega arith) x refl) ∙ left_after m 0 (omega arith) x

  next_switch : OfKind w v Next SWITCH
  unfolding move
  next_switch m t b e = let x = switch_facts w v m t b e in x.rolling ∙ sym (itself m 1 (omega arith) x refl) ∙ left_after m 1 (omega arith) x

  next_drop : OfKind w v Next DROP
  unfolding unfinished
  next_drop m t b e =
      let x = drop_facts w v m t b e in
      let all = left_after m 2 (omega arith) x in
      drop_either (λ (u : View). u.rolling ≡ ltb (suc n) (3 * heads v)) v m t b (λ q. sym (not-true _ q) ∙ all) (λ q. x.rolling ∙ sym (not-false _ q) ∙ all)

  each_next : EachKind w v (λ s. is_member_step s ≡ true → Next s)
  each_next = of_members next_learn next_switch next_drop

  -- while it is open nothing else is accepted but a CANCEL, which leaves the current secret
  abbrev Other : Step → Type 0
  Other s = v.rolling ≡ true → is_member_step s ≡ false → (is CANCEL s ≡ true) × ((move v s).rolling ≡ false) × ((move v s).current ≡ v.current)

  each_other : EachKind w v Other
  unfolding move
  each_other = record {
    starts = λ m t b e o is. absurd (true≢false (sym (tally o).begun ∙ (start_facts w v m t b e).unstarted));
    opens = λ m t b e o is. absurd (true≢false (sym o ∙ (open_facts w v m t b e).shut));
    learns = λ m t b e o is. absurd (true≢false is);
    switches = λ m t b e o is. absurd (true≢false is);
    drops = λ m t b e o is. absurd (true≢false is);
    cancels = λ m t b e o is. (refl, refl, refl);
  }

  -- the tally goes on: nothing taken after an OPEN, one more after a member step
  abbrev Tallies : Step → Type 0
  Tallies s = Tallied (move v s) (cond (leb s.kind OPEN) 0 (cond (is_member_step s) (suc n) n))

  tally_open : OfKind w v Tallies OPEN
  unfolding move
  tally_open m t b e o =
      let begun = (open_facts w v m t b e).begun in
      let who = i.people.someone begun in
      record { begun = begun; taken = total_zero v.present member_limit; some_left = somebody (λ k. 0) who.0 who.1 refl }

  tally_learn : OfKind w v Tallies LEARN
  unfolding move
  tally_learn m t b e o =
      let x = learn_facts w v m t b e in
      record { begun = x.begun; taken = raised m 0 (omega arith) x; some_left = itself m 0 (omega arith) x refl }

  tally_switch : OfKind w v Tallies SWITCH
  unfolding move
  tally_switch m t b e o =
      let x = switch_facts w v m t b e in
      record { begun = x.begun; taken = raised m 1 (omega arith) x; some_left = itself m 1 (omega arith) x refl }

  tally_drop : OfKind w v Tallies DROP
  unfolding unfinished
  tally_drop m t b e =
      let x = drop_facts w v m t b e in
      drop_either (λ (u : View). Tallied u (suc n)) v m t b (λ q o. absurd (false≢true o))
      (λ q o. record { begun = x.begun; taken = raised m 2 (omega arith) x; some_left = not-false _ q })

  each_tallies : EachKind w v Tallies
  unfolding move
  each_tallies = record {
    starts = λ m t b e o. absurd (false≢true o);
    opens = tally_open;
    learns = tally_learn;
    switches = tally_switch;
    drops = tally_drop;
    cancels = λ m t b e o. absurd (false≢true o);
  }

-- ---- along accepted steps

none_open : Tallied (account []) 0
unfolding account
none_open o = absurd (false≢true o)

pub tallied : {w : ℕ} {h : List Step} → Accepted w h → Tallied (account h) (member_steps h)
tallied nothing_yet = none_open
tallied {w} (and_then {h = h} s a e) =
    subst (λ (v : View). Tallied v (member_steps (s ∷ h))) (sym (account_move w h s e))
    (by_kind (each_tallies (account h) (sound_account a) (member_steps h) (tallied a)) s e)

-- the count is how many members there are
room : (n : ℕ) → Small (λ k. ltb k n) → n ≤ member_limit
room zero small = omega arith
room (suc n) small = small n (lt-ltb n (suc n) (omega arith))

counted : {w : ℕ} (h : List Step) → Sound w (account h) → heads (account h) ≡ count_by h
unfolding account
counted h i = omega (arith, count_numbers member_limit (count_by h), room (count_by h) i.people.small)

-- ---- the claim

module _ (w : ℕ) (records : List (List ℕ)) where
  abbrev h : List Step
  h = history w records

  abbrev l : Ledger
  l = ledger_after w records

  i : Sound w (account h)
  i = sound_account (follows w records).steps

  tally : Tallied (account h) (member_steps h)
  tally = tallied (follows w records).steps

  -- what is seen of the ledger, by the account
  rolls : l.rolling ≡ true → (account h).rolling ≡ true
  rolls o = sym (ap (λ (v : View). v.rolling) (follows w records).seen) ∙ o

  fewer : l.rolling ≡ true → member_steps h < 3 * count_by h
  fewer o = rw (counted h i) at (fewer_than (account h) i (member_steps h) (tally (rolls o)))

  module _ (bytes : List ℕ) (e : (offered w l bytes).answer ≡ 0) where
    abbrev s : Step
    s = read_step bytes

    passes : refusal w (account h) s ≡ 0
    passes = sym (answer_by_account w records bytes) ∙ e

    rolls_on : (offered w l bytes).ledger.rolling ≡ (move (account h) s).rolling
    rolls_on = ap (λ (v : View). v.rolling) (next_view w records bytes e)

    current_on : (offered w l bytes).ledger.current ≡ (move (account h) s).current
    current_on = ap (λ (v : View). v.current) (next_view w records bytes e)

    next : is_member_step s ≡ true → (offered w l bytes).ledger.rolling ≡ ltb (suc (member_steps h)) (3 * count_by h)
    next is =
        rolls_on ∙ by_kind (each_next (account h) i (member_steps h) tally) s passes is
        ∙ ap (λ (n : ℕ). ltb (suc (member_steps h)) (3 * n)) (counted h i)

    closing : is_member_step s ≡ true → (offered w l bytes).ledger.rolling ≡ false → (offered w l bytes).ledger.current ≡ l.new
    closing is shut =
        current_on ∙ by_kind (each_closing (account h)) s passes is (sym rolls_on ∙ shut) ∙ sym (ap (λ (v : View). v.new) (follows w records).seen)

    other : l.rolling ≡ true → is_member_step s ≡ false
        → (is CANCEL s ≡ true) × ((offered w l bytes).ledger.rolling ≡ false) × ((offered w l bytes).ledger.current ≡ l.current)
    other o is =
        let x = by_kind (each_other (account h) i (member_steps h) tally) s passes (rolls o) is in
        (x.0, rolls_on ∙ x.1, current_on ∙ x.2 ∙ sym (ap (λ (v : View). v.current) (follows w records).seen))

pub three_steps_each : ThreeStepsEach
three_steps_each w records = record { fewer = fewer w records; next = next w records; closing = closing w records; other = other w records }
