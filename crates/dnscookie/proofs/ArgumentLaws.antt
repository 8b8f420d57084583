-- What passes as a mode and secrets are secrets. Assumes nothing.
use Rattle.std.proofs.Common.{◌≡◌, ℕ, Bool, true, false, eqb, leb, List, length, refl, arith, ne_eqb, eqb-true}
use Rattle.dnscookie.specs.Calls.{is_mode, are_secrets, holder_refusal, maker_refusal}

module _ (mode : ℕ) (secrets : List ℕ) where
  pub holder_held : holder_refusal mode secrets ≡ 0 → are_secrets secrets ≡ true
  unfolding holder_refusal is_mode
  holder_held e = go (leb mode 2) refl (are_secrets secrets) refl e
    where
      go : (a : Bool) → leb mode 2 ≡ a → (b : Bool) → are_secrets secrets ≡ b → holder_refusal mode secrets ≡ 0 → are_secrets secrets ≡ true
      go true p true q h = q
      go true p false q h = let wrong : ◌≡◌ {A = ℕ} 102 0 = rw (p, q) at h in absurd (omega arith)
      go false p b q h = let wrong : ◌≡◌ {A = ℕ} 101 0 = rw p at h in absurd (omega arith)

-- ---- docs/PORT.md names these two laws, and no answer cites them today

pub no_secrets_lem : (s : List ℕ) → (length s ≡ 16 → ⊥) → (length s ≡ 32 → ⊥) → false ≡ are_secrets s
unfolding are_secrets
no_secrets_lem s not_16 not_32 = rw (ne_eqb (length s) 16 not_16, ne_eqb (length s) 32 not_32)

pub made_with_lem : (secrets client : List ℕ) → maker_refusal secrets client ≡ 0 → (are_secrets secrets ≡ true) × (length client ≡ 8)
unfolding maker_refusal
made_with_lem secrets client e = go (are_secrets secrets) refl (eqb (length client) 8) refl e
  where
    go : (a : Bool) → are_secrets secrets ≡ a → (b : Bool) → eqb (length client) 8 ≡ b → maker_refusal secrets client ≡ 0 → (are_secrets secrets ≡ true) × (length client ≡ 8)
    go true p true q h = (p, eqb-true (length client) 8 q)
    go true p false q h = let wrong : ◌≡◌ {A = ℕ} 103 0 = rw (p, q) at h in absurd (omega arith)
    go false p b q h = let wrong : ◌≡◌ {A = ℕ} 102 0 = rw p at h in absurd (omega arith)
