-- The claim `OnlyTheRun`: replies that demand 3 holds of are those of the run. Assumes nothing.
use Prim.Native.Nat.{ℕ}
use mathlib.Core.Path.{◌≡◌, refl, sym, ap, ap₂, ◌∙◌}
use mathlib.Core.List.{List, [], ◌∷◌, ◌++◌, map, append_assoc}
use Rattle.cookie.specs.ServerCookie.{CookieMethod}
use Rattle.ledger.specs.Ledger.{fresh_ledger}
use Rattle.ledger.specs.Rules.{View}
use Rattle.ledger.specs.declared.Ledger.{Ledger}
use Rattle.fleet.specs.Calls.{Call, Entry, Reply, ◌got◌, reply_to, past, run_on, run, past_on, ledger_past}
use Rattle.fleet.specs.Claims.{DemandThreeFor, OnlyTheRun}

-- the ledger that one entry more leaves
past_more : (w : ℕ) (l : Ledger) (before : List Entry) (e : Entry) → past_on w l (before ++ (e ∷ [])) ≡ past w (past_on w l before) e.call
past_more w l [] e = refl
past_more w l (x ∷ before) e = past_more w (past w l x.call) before e

module _ (w : ℕ) (m : CookieMethod) (calls : List Call) (entries : List Entry) (claim : DemandThreeFor w m calls entries) where
  -- what stands behind a point is the run from there
  rest_is : (before rest : List Entry) → entries ≡ before ++ rest → rest ≡ run_on w m (ledger_past w before) (map (λ e. e.call) rest)
  rest_is before [] s = refl
  rest_is before (e ∷ rest) s =
      let this = claim.replies before rest e.call e.reply s ∙ ap (λ (v : View). reply_to w m v e.call) (sym (claim.seen before (e ∷ rest) s)) in
      let others = rest_is (before ++ (e ∷ [])) rest (s ∙ sym (append_assoc before (e ∷ []) rest)) in
      ap₂ ◌∷◌ (ap (λ (r : Reply). e.call got r) this) (others ∙ ap (λ (l : Ledger). run_on w m l (map (λ e. e.call) rest)) (past_more w fresh_ledger before e))

pub only_the_run : OnlyTheRun
only_the_run w m calls entries claim = rest_is w m calls entries claim [] entries refl ∙ ap (run w m) claim.each_once
