-- What the proof of dnscookie_find cites, one law for each answer. Assumes nothing.
use mathlib.Core.Path.{◌≡◌, sym, ap, subst, ◌∙◌}
use mathlib.Core.List.{List}
use Prim.Native.Nat.{ℕ, ◌+◌, ◌*◌, ◌≤◌}
use native.Mathlib.Omega.{arith}
use Rattle.request.proofs.BodyLaws.{AnswerSmall, request_small}
use Rattle.request.specs.Request.{Answer, no_cookie, cookie, request}
use Rattle.dnscookie_find.specs.Find.{found_word, find_call}

module _ (s : List ℕ) where
  -- over what was read, as a number
  pub word_is : (a : Answer) → a ≡ request s → (w : ℕ) → w ≡ found_word a → w ≡ find_call s
  unfolding find_call
  word_is a read w is = is ∙ ap found_word read

  pub find_none : (q : ℕ) → no_cookie q ≡ request s → 201 + q * 256 ≡ find_call s
  find_none q read = word_is (no_cookie q) read (201 + q * 256) (omega arith)

  module _ (q start end : ℕ) (read : cookie q start end ≡ request s) where
    places : AnswerSmall (cookie q start end)
    places = subst AnswerSmall (sym read) (request_small s)

    pub start_small : start ≤ 65535
    start_small = omega (arith, places.1, places.2)

    pub end_small : end ≤ 65535
    end_small = places.2
