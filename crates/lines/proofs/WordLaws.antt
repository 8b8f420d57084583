-- Words put together: a piece is put behind the others, and all the pieces of a format are its text. Assumes nothing.
use Rattle.std.proofs.Common.{◌≡◌, ℕ, ◌+◌, ◌≤◌, Bool, true, List, [], ◌∷◌, ◌++◌, length, take, sym, ap, ◌∙◌, append_assoc, append-nil, subst, arith}
use Rattle.std.specs.List.{FoldsTo, concat}
use Rattle.std.specs.Fmt.{WritesInCalls}
use Rattle.std.specs.Prelude.{Option, Some, None, Result, Ok, Err, IfSome, OnOk}
use Rattle.std.specs.Io.KnownBytes.{Appends}
use Rattle.octets.specs.Runs.{fits, written}
use Rattle.octets.proofs.RunLaws.{fits_within, written_front}

-- a piece that has room
module _ (bytes text new : List ℕ) (len : ℕ) (done : Bool) (put : (done ≡ fits bytes len text) × (new ≡ written bytes len text)) (yes' : done ≡ true)
    (long : length bytes ≡ 64) where
  within : len + length text ≤ length bytes
  within = fits_within bytes len text (sym put.0 ∙ yes')

  pub has_room : len + length text ≤ 64
  has_room = omega (arith, within, long)

  pub stands_behind : take (len + length text) new ≡ take len bytes ++ text
  stands_behind = ap (take (len + length text)) put.1 ∙ written_front bytes len text within

-- all pieces
module _ {W : Type 0} (held : W → List ℕ) where
  together : (w : W) (parts : List (List ℕ)) (v : W) → FoldsTo (λ a text b. held b ≡ held a ++ text) w parts v → held v ≡ held w ++ concat parts
  together w [] v e = ap held (sym e) ∙ sym (append-nil (held w))
  together w (p ∷ ps) v f = together f.0 ps v f.2 ∙ ap (λ l. l ++ concat ps) f.1 ∙ append_assoc (held w) p (concat ps)

  pub text_together : (w : W) (text : List ℕ) (v : W) → WritesInCalls (λ a t b. held b ≡ held a ++ t) w text v → held v ≡ held w ++ text
  text_together w text v p = together w p.parts v p.calls ∙ ap (λ l. held w ++ l) p.whole

-- and written at once they are written: a writer whose result is r, from what it held to what it holds
pub written_at_once : {X E W : Type 0} (r : Result X E) (o : Option (List ℕ)) (held : W → List ℕ) (w v : W) (before after : Option (List ℕ)) → held w ≡ []
    → IfSome o (λ text. WritesInCalls (λ a t b. held b ≡ held a ++ t) w text v) → OnOk r (Appends before after (held v)) → OnOk r (IfSome o (Appends before after))
written_at_once (Err e) o held w v before after none' wrote all = tt
written_at_once (Ok x) None held w v before after none' wrote all = tt
written_at_once (Ok x) (Some text) held w v before after none' wrote all =
    subst (Appends before after) (text_together held w text v wrote ∙ ap (λ l. l ++ text) none') all
