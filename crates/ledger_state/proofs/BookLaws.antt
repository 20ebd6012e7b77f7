-- A row of values with another one at k: what stands at k, and elsewhere.
use Rattle.std.specs.Prelude.{ℕ, ◌≡◌, Bool}
use Rattle.std.proofs.Math.Path.{refl, ap}
use Rattle.std.proofs.Math.Bool.{true, false, cond}
use Rattle.std.proofs.Math.Dec.{eqb}
use Rattle.std.proofs.Common.{eqb-true, eq-eqb, ne_eqb}
use Rattle.ledger_state.specs.State.{replaced}

module _ {A : Type 0} (f : ℕ → A) (k : ℕ) (a : A) where
  pub replaced-same : replaced f k a k ≡ a
  unfolding replaced
  replaced-same = ap (λ (b : Bool). cond b a (f k)) (eq-eqb k k refl)

  pub replaced-other : (j : ℕ) → (j ≡ k → ⊥) → replaced f k a j ≡ f j
  unfolding replaced
  replaced-other j n = ap (λ (b : Bool). cond b a (f j)) (ne_eqb j k n)

  -- what stands at j: what stood there, or the new value
  pub replaced-cases : (P : A → Type 0) (j : ℕ) → P (f j) → (j ≡ k → P a) → P (replaced f k a j)
  unfolding replaced
  replaced-cases P j old new = go (eqb j k) refl
    where
      go : (b : Bool) → eqb j k ≡ b → P (cond b a (f j))
      go true e = new (eqb-true j k e)
      go false e = old
