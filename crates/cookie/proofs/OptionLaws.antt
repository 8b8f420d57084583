-- What the proofs of cookie_option cite, one law for each answer. Assumes nothing.
use mathlib.Core.Path.{◌≡◌, refl, sym, ap, ap₂, ◌∙◌}
use mathlib.Core.Bool.{Bool, true, false}
use mathlib.Core.List.{List, [], ◌∷◌, ◌++◌, append_assoc}
use Prim.Native.Nat.{ℕ, zero, suc, ◌≤◌, ◌<◌}
use native.Mathlib.Nat.{zero-add}
use native.Mathlib.Omega.{arith}
use borrow.Author.Tests.{eq-eqb, ne_eqb, lt-ltb, le-ltb, le-leb, lt-leb}
use lib.ListN.{length, take, drop, get_or, length-append}
use lib.Seq.{drop-drop, take-add, take_all}
use Rattle.octets.specs.Numbers.{le_number, le_bytes, be_bytes}
use Rattle.octets.specs.Runs.{same_run, fits, written}
use Rattle.octets.proofs.NumberLaws.{length_le_bytes, le_again}
use Rattle.octets.proofs.RunLaws.{written_behind}
use Rattle.secret.specs.declared.Secret.{Secret}
use Rattle.siphash.specs.SipHash.{sip_hash24, sip_hash24_bytes}
use Rattle.cookie.specs.CookieOption.{option_head, fresh_front, fresh_server, fresh_option, fresh_refusal, kept_option, kept_refusal, output_after, written_body}
use Rattle.cookie.specs.ServerCookie.{sip_hash_method, is_address}

-- ---- an output that is refused stays

module _ (output option : List ℕ) where
  stays : (n number : ℕ) → suc n ≡ number → output ≡ output_after number option output
  stays n number e = ap (λ (k : ℕ). output_after k option output) e

module _ (output address option : List ℕ) where
  pub fresh_no_room : length output < 28
      → (1 ≡ fresh_refusal output address) × (output ≡ output_after (fresh_refusal output address) option output)
  unfolding fresh_refusal
  fresh_no_room short = let e : 1 ≡ fresh_refusal output address = rw (lt-ltb (length output) 28 short) in (e, stays output option 0 (fresh_refusal output address) e)

  pub fresh_no_address : 28 ≤ length output → is_address address ≡ false
      → (2 ≡ fresh_refusal output address) × (output ≡ output_after (fresh_refusal output address) option output)
  unfolding fresh_refusal
  fresh_no_address room no' =
      let e : 2 ≡ fresh_refusal output address = rw (le-ltb (length output) 28 room, no') in
      (e, stays output option 1 (fresh_refusal output address) e)

module _ (output body : List ℕ) where
  pub kept_no_room : length output < 28
      → (1 ≡ kept_refusal output body) × (output ≡ output_after (kept_refusal output body) (kept_option body) output)
  unfolding kept_refusal
  kept_no_room short = let e : 1 ≡ kept_refusal output body = rw (lt-ltb (length output) 28 short) in (e, stays output (kept_option body) 0 (kept_refusal output body) e)

  pub kept_no_body : 28 ≤ length output → (length body ≡ 24 → ⊥)
      → (100 ≡ kept_refusal output body) × (output ≡ output_after (kept_refusal output body) (kept_option body) output)
  unfolding kept_refusal
  kept_no_body room other =
      let e : 100 ≡ kept_refusal output body = rw (le-ltb (length output) 28 room, ne_eqb (length body) 24 other) in
      (e, stays output (kept_option body) 99 (kept_refusal output body) e)

-- ---- an output that is written

-- n bytes at the front
at_front : (n : ℕ) (output run : List ℕ) → length run ≡ n → n ≤ length output → written output 0 run ≡ run ++ drop n output
unfolding fits written
at_front n output run long room = rw (zero-add (length run), long, le-leb n (length output) room)

-- the head and three words
module _ (w0 w1 w2 : ℕ) (output a b c d x y z : List ℕ) (room : 28 ≤ length output)
    (is_x : x ≡ le_bytes 8 w0) (is_y : y ≡ le_bytes 8 w1) (is-z : z ≡ le_bytes 8 w2)
    (head : a ≡ written output 0 option_head) (next : b ≡ written a 4 x) (next' : c ≡ written b 12 y) (next'' : d ≡ written c 20 z) where
  pub words_done : d ≡ option_head ++ (le_bytes 8 w0 ++ (le_bytes 8 w1 ++ le_bytes 8 w2)) ++ drop 28 output
  words_done =
      let nx : length x ≡ 8 = ap length is_x ∙ length_le_bytes 8 w0 in
      let ny : length y ≡ 8 = ap length is_y ∙ length_le_bytes 8 w1 in
      let nz : length z ≡ 8 = ap length is-z ∙ length_le_bytes 8 w2 in
      let p = option_head ++ x in
      let q = p ++ y in
      let r = q ++ z in
      let np : length p ≡ 12 = omega (arith, length-append option_head x) in
      let nq : length q ≡ 20 = omega (arith, length-append p y) in
      let nr : length r ≡ 28 = omega (arith, length-append q z) in
      let bp = written_behind output option_head x a b 0 4 head refl (omega arith) next in
      let cq = written_behind output p y b c 0 12 bp (omega arith) (omega arith) next' in
      let dr = written_behind output q z c d 0 20 cq (omega arith) (omega arith) next'' in
      let parts : r ≡ option_head ++ (x ++ (y ++ z)) = append_assoc p y z ∙ append_assoc option_head x (y ++ z) in
      let words : option_head ++ (x ++ (y ++ z)) ≡ option_head ++ (le_bytes 8 w0 ++ (le_bytes 8 w1 ++ le_bytes 8 w2)) = rw (is_x, is_y, is-z) refl in
      dr ∙ at_front 28 output r nr room ∙ ap (λ (l : List ℕ). l ++ drop 28 output) (parts ∙ words)

-- a kept option: the three words of the body
module _ (output body two : List ℕ) (room : 28 ≤ length output) (long : length body ≡ 24) (w0 w1 w2 : ℕ)
    (first_is : le_bytes 8 w0 ≡ take 8 body) (second_is : le_bytes 8 w1 ≡ take 8 (drop 8 body)) (third-is : le_bytes 8 w2 ≡ take 8 (drop 16 body))
    (done : two ≡ option_head ++ (le_bytes 8 w0 ++ (le_bytes 8 w1 ++ le_bytes 8 w2)) ++ drop 28 output) where
  whole_body : le_bytes 8 w0 ++ (le_bytes 8 w1 ++ le_bytes 8 w2) ≡ body
  whole_body =
      ap₂ (λ (x y : List ℕ). x ++ y) first_is (ap₂ (λ (x y : List ℕ). x ++ y) second_is (third-is ∙ ap (take 8) (sym (drop-drop 8 8 body))) ∙ sym (take-add 8 8 (drop 8 body)))
      ∙ sym (take-add 8 16 body)
      ∙ take_all 24 body (omega arith)

  pub kept_done : (0 ≡ kept_refusal output body) × (two ≡ output_after (kept_refusal output body) (kept_option body) output)
  unfolding kept_refusal kept_option
  kept_done =
      let none : kept_refusal output body ≡ 0 = rw (le-ltb (length output) 28 room, eq-eqb (length body) 24 long) in
      let n28 : length (option_head ++ body) ≡ 28 = omega (arith, length-append option_head body) in (
        sym none,
        done ∙ ap (λ (l : List ℕ). option_head ++ l ++ drop 28 output) whole_body ∙ ap (λ (k : ℕ). option_head ++ body ++ drop k output) (sym n28)
            ∙ sym (ap (λ (k : ℕ). output_after k (kept_option body) output) none),
      )

-- bytes 0 to 7 of a fresh server cookie
pub front_is : (clock w : ℕ) (b : List ℕ) → b ≡ be_bytes 4 clock
    → w ≡ le_number (1 ∷ 0 ∷ 0 ∷ 0 ∷ get_or b 0 0 ∷ get_or b 1 0 ∷ get_or b 2 0 ∷ get_or b 3 0 ∷ [])
    → le_bytes 8 w ≡ fresh_front sip_hash_method clock
unfolding fresh_front be_bytes
front_is clock w b is e = ap (le_bytes 8) e ∙ rw is (le_again (1 ∷ 0 ∷ 0 ∷ 0 ∷ be_bytes 4 clock) small)
  where
    small : (i : ℕ) → get_or (1 ∷ 0 ∷ 0 ∷ 0 ∷ be_bytes 4 clock) i 0 < 256
    small zero = omega arith
    small (suc zero) = omega arith
    small (suc (suc zero)) = omega arith
    small (suc (suc (suc zero))) = omega arith
    small (suc (suc (suc (suc zero)))) = omega arith
    small (suc (suc (suc (suc (suc zero))))) = omega arith
    small (suc (suc (suc (suc (suc (suc zero)))))) = omega arith
    small (suc (suc (suc (suc (suc (suc (suc zero))))))) = omega arith
    small (suc (suc (suc (suc (suc (suc (suc (suc i)))))))) = omega arith

-- a fresh option
module _ (output address client two : List ℕ) (secret : Secret) (clock : ℕ) (room : 28 ≤ length output) (long : length client ≡ 8)
    (is : is_address address ≡ true) (w0 w1 hash : ℕ)
    (first_is : le_bytes 8 w0 ≡ take 8 client) (second_is : le_bytes 8 w1 ≡ fresh_front sip_hash_method clock)
    (hashes : hash ≡ sip_hash24 secret (le_bytes 8 w0 ++ le_bytes 8 w1 ++ address))
    (done : two ≡ option_head ++ (le_bytes 8 w0 ++ (le_bytes 8 w1 ++ le_bytes 8 hash)) ++ drop 28 output) where
  client_is : le_bytes 8 w0 ≡ client
  client_is = first_is ∙ take_all 8 client (omega arith)

  abbrev words : List ℕ
  words = option_head ++ (le_bytes 8 w0 ++ (le_bytes 8 w1 ++ le_bytes 8 hash))

  length_words : length words ≡ 28
  unfolding le_bytes
  length_words = refl

  option_is : words ≡ fresh_option sip_hash_method secret clock address client
  unfolding fresh_option fresh_server sip_hash24_bytes
  option_is = rw (hashes, client_is, second_is) refl

  pub fresh_done : (0 ≡ fresh_refusal output address)
      × (two ≡ output_after (fresh_refusal output address) (fresh_option sip_hash_method secret clock address client) output)
  unfolding fresh_refusal
  fresh_done =
      let none : fresh_refusal output address ≡ 0 = rw (le-ltb (length output) 28 room, is) in (
        sym none,
        done ∙ ap (λ (k : ℕ). words ++ drop k output) (sym length_words) ∙ ap (λ (l : List ℕ). l ++ drop (length l) output) option_is
            ∙ sym (ap (λ (k : ℕ). output_after k (fresh_option sip_hash_method secret clock address client) output) none),
      )

-- ---- read back

module _ (s : List ℕ) where
  pub body_short : length s < 28 → [] ≡ written_body s
  unfolding written_body
  body_short short = rw (lt-leb 28 (length s) short)

  module _ (long : 28 ≤ length s) (t : Bool) (told : t ≡ same_run (take 4 s) option_head) where
    same : same_run (take 4 s) option_head ≡ t
    same = sym told

    pub body_other : t ≡ false → [] ≡ written_body s
    unfolding written_body
    body_other no' = rw (le-leb 28 (length s) long, same, no') refl

    pub body_is : t ≡ true → take 24 (drop 4 s) ≡ written_body s
    unfolding written_body
    body_is yes' = rw (le-leb 28 (length s) long, same, yes') refl
