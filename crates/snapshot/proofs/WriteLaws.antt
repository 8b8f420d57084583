-- What the proofs of writing a snapshot cite. Runs written one behind the other are one run. Assumes nothing.
use mathlib.Core.Path.{◌≡◌, refl, sym, ap, ap₂, ◌∙◌}
use mathlib.Core.Bool.{Bool, true, false, cond}
use mathlib.Core.List.{List, [], ◌∷◌, ◌++◌, append_assoc, append-nil}
use Prim.Native.Nat.{ℕ}
use native.Mathlib.Omega.{arith}
use borrow.Author.Tests.{eq-eqb}
use lib.Dec.{eqb}
use mir.Val.{bool_byte}
use lib.ListN.{length, drop, length-append, drop_of_length-le}
use Rattle.octets.specs.Numbers.{le_bytes}
use Rattle.octets.specs.Runs.{written}
use Rattle.octets.proofs.NumberLaws.{length_le_bytes}
use Rattle.octets.proofs.RunLaws.{written_behind, written_all}
use Rattle.secret.specs.Secret.{secret_bytes}
use Rattle.secret.specs.declared.Secret.{Secret}
use Rattle.stages.specs.declared.Stages.{Stages}
use Rattle.ledger.specs.declared.Ledger.{Ledger}
use Rattle.snapshot.specs.Snapshot.{head_of, front_of, stages_bytes, snapshot_of, kept_in}

-- a bit's byte
bit_is : (b : Bool) → bool_byte b ≡ cond b 1 0
bit_is true = refl
bit_is false = refl

head_is : (started rolling : Bool) → ◌≡◌ {A = List ℕ} (1 ∷ bool_byte started ∷ bool_byte rolling ∷ 0 ∷ []) (head_of started rolling)
head_is started rolling = ap₂ (λ (x y : ℕ). 1 ∷ x ∷ y ∷ 0 ∷ []) (bit_is started) (bit_is rolling)

-- ---- how long the parts are

pub length_secret : (s : Secret) → length (secret_bytes s) ≡ 16
unfolding secret_bytes
length_secret s = omega (arith, length-append (le_bytes 8 s.k0) (le_bytes 8 s.k1), length_le_bytes 8 s.k0, length_le_bytes 8 s.k1)

pub length_stages : (s : Stages) → length (stages_bytes s) ≡ 16
unfolding stages_bytes
length_stages s =
    let c = le_bytes 4 s.switched ++ le_bytes 4 s.dropped in
    let b = le_bytes 4 s.learnt ++ c in
    omega (
      arith,
      length-append (le_bytes 4 s.members) b,
      length-append (le_bytes 4 s.learnt) c,
      length-append (le_bytes 4 s.switched) (le_bytes 4 s.dropped),
      length_le_bytes 4 s.members,
      length_le_bytes 4 s.learnt,
      length_le_bytes 4 s.switched,
      length_le_bytes 4 s.dropped,
    )

-- ---- the members

-- runs as the code has them, one written behind the other
module _ (stages : Stages) (lent a b c d p q r s : List ℕ) (long : length lent ≡ 68)
    (is : p ≡ le_bytes 4 stages.members) (put : a ≡ written lent 4 p) (is₁ : q ≡ le_bytes 4 stages.learnt) (put₁ : b ≡ written a 8 q)
    (is₂ : r ≡ le_bytes 4 stages.switched) (put₂ : c ≡ written b 12 r) (is₃ : s ≡ le_bytes 4 stages.dropped) (put₃ : d ≡ written c 16 s) where
  pub stages_put : d ≡ written lent 4 (stages_bytes stages)
  unfolding stages_bytes
  stages_put =
      let w = le_bytes 4 stages.members in
      let x = le_bytes 4 stages.learnt in
      let y = le_bytes 4 stages.switched in
      let z = le_bytes 4 stages.dropped in
      let nw = length_le_bytes 4 stages.members in
      let nx = length_le_bytes 4 stages.learnt in
      let ny = length_le_bytes 4 stages.switched in
      let nz = length_le_bytes 4 stages.dropped in
      let nwx = length-append w x in
      let nwxy = length-append (w ++ x) y in
      let e = written_behind lent w x a b 4 8 (put ∙ ap (written lent 4) is) (omega arith) (omega arith) (put₁ ∙ ap (written a 8) is₁) in
      let f = written_behind lent (w ++ x) y b c 4 12 e (omega arith) (omega arith) (put₂ ∙ ap (written b 12) is₂) in
      let g = written_behind lent ((w ++ x) ++ y) z c d 4 16 f (omega arith) (omega arith) (put₃ ∙ ap (written c 16) is₃) in
      g ∙ ap (written lent 4) (append_assoc (w ++ x) y z ∙ append_assoc w x (y ++ z))

-- ---- the whole

module _ (l : Ledger) (lent a b c d x y : List ℕ) (long : length lent ≡ 68)
    (put : a ≡ written lent 0 (1 ∷ bool_byte l.started ∷ bool_byte l.rolling ∷ 0 ∷ [])) (put₁ : b ≡ written a 4 (stages_bytes l.stages))
    (is₂ : x ≡ le_bytes 8 l.last) (put₂ : c ≡ written b 20 x) (is₃ : y ≡ le_bytes 8 l.last_switch) (put₃ : d ≡ written c 28 y) where
  pub front_put : d ≡ written lent 0 (front_of l)
  unfolding front_of
  front_put =
      let head = head_of l.started l.rolling in
      let stages = stages_bytes l.stages in
      let last = le_bytes 8 l.last in
      let switch = le_bytes 8 l.last_switch in
      let ns = length_stages l.stages in
      let nl = length_le_bytes 8 l.last in
      let nw = length_le_bytes 8 l.last_switch in
      let p = head ++ stages in
      let q = p ++ last in
      let np : length p ≡ 20 = omega (arith, length-append head stages) in
      let nq : length q ≡ 28 = omega (arith, length-append p last) in
      let bp = written_behind lent head stages a b 0 4 (put ∙ ap (written lent 0) (head_is l.started l.rolling)) refl (omega arith) put₁ in
      let cq = written_behind lent p last b c 0 20 bp (omega arith) (omega arith) (put₂ ∙ ap (written b 20) is₂) in
      let dr = written_behind lent q switch c d 0 28 cq (omega arith) (omega arith) (put₃ ∙ ap (written c 28) is₃) in
      dr ∙ ap (written lent 0) (append_assoc p last switch ∙ append_assoc head stages (last ++ switch))

pub length_front : (l : Ledger) → length (front_of l) ≡ 36
unfolding front_of
length_front l =
    let head = head_of l.started l.rolling in
    let stages = stages_bytes l.stages in
    let last = le_bytes 8 l.last in
    let switch = le_bytes 8 l.last_switch in
    omega (
      arith,
      length-append head (stages ++ (last ++ switch)),
      length-append stages (last ++ switch),
      length-append last switch,
      length_stages l.stages,
      length_le_bytes 8 l.last,
      length_le_bytes 8 l.last_switch,
    )

module _ (l : Ledger) (lent a b c x y : List ℕ) (long : length lent ≡ 68) (put : a ≡ written lent 0 (front_of l))
    (is₁ : x ≡ secret_bytes l.current) (put₁ : b ≡ written a 36 x) (is₂ : y ≡ secret_bytes l.new) (put₂ : c ≡ written b 52 y) where
  pub snapshot_put : c ≡ snapshot_of l
  unfolding snapshot_of
  snapshot_put =
      let front = front_of l in
      let current = secret_bytes l.current in
      let new = secret_bytes l.new in
      let nf = length_front l in
      let nc = length_secret l.current in
      let nn = length_secret l.new in
      let t = front ++ current in
      let nt : length t ≡ 52 = omega (arith, length-append front current) in
      let nu : length (t ++ new) ≡ 68 = omega (arith, length-append t new) in
      let bt = written_behind lent front current a b 0 36 put (omega arith) (omega arith) (put₁ ∙ ap (written a 36) is₁) in
      let cu = written_behind lent t new b c 0 52 bt (omega arith) (omega arith) (put₂ ∙ ap (written b 52) is₂) in
      cu ∙ written_all lent (t ++ new) (omega arith) ∙ append_assoc front current new

-- nothing stands behind a snapshot in bytes that are as many as it has
pub kept : (l : Ledger) (lent after : List ℕ) → length lent ≡ 68 → after ≡ snapshot_of l → (true ≡ eqb (length lent) 68) × (after ++ drop 68 lent ≡ kept_in lent l)
unfolding kept_in
kept l lent after long is =
    let e = eq-eqb (length lent) 68 long in
    let none : drop 68 lent ≡ [] = drop_of_length-le lent {i = 68} (omega arith) in
    (sym e, ap₂ (λ (x y : List ℕ). x ++ y) is none ∙ append-nil (snapshot_of l) ∙ rw e refl)
