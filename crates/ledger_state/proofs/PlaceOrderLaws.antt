-- The order of two places: of the pair turned round, whatever the places; where the words say what no ledger of the library says; and of two held places it is exactly that
-- of their updates.
use Rattle.std.specs.Prelude.{◌≡◌, refl, ℕ, ◌<◌, List, Bool, true, false, length, eqb}
use Rattle.std.proofs.Common.{sym, ◌∙◌}
use Rattle.std.proofs.Math.Path.{ap, ap₂}
use borrow.Author.Tests.{eq-eqb, ne_eqb, eqb-true}
use Rattle.bytes_order.specs.BoolLaws.{test-ext}
use Rattle.bytes_order.specs.DistinctLaws.{distinct-index}
use Rattle.update_format.specs.Update.{Update}
use Rattle.rules.specs.declared.CausalOrder.TheVariants.{Same, Apart}
use Rattle.rules.specs.CausalOrder.{OrderExactly, turned, order_by}
use Rattle.rules.proofs.CausalLaws.{order_by-turned, tells-exactly}
use Rattle.bitset.specs.Bits.{has}
use Rattle.rules.specs.declared.Standing.TheVariants.{Held as IsHeld}
use Rattle.ledger_state.specs.State.{Place, Book, place_at}
use Rattle.ledger_state.specs.PlaceOrder.{place_order, order_at}
use Rattle.ledger_state.specs.Stands.{ident, rules, no_update, update_at, Holds, Truthful}

pub place_order-turned : (p : Place) (j : ℕ) (q : Place) (k : ℕ) → place_order q k p j ≡ turned (place_order p j q k)
unfolding place_order
place_order-turned p j q k =
    ap (λ (b : Bool). order_by b (has p.ancestors k) (has q.ancestors j))
    (test-ext (eqb k j) (eqb j k) (λ e. eq-eqb j k (sym (eqb-true k j e))) (λ e. eq-eqb k j (sym (eqb-true j k e))))
    ∙ order_by-turned (eqb j k) (has q.ancestors j) (has p.ancestors k)

-- by the two numbers and what is in the words
module _ (p : Place) (j : ℕ) (q : Place) (k : ℕ) where
  pub place_order-one : j ≡ k → place_order p j q k ≡ Same
  unfolding place_order order_by
  place_order-one e = ap (λ (b : Bool). order_by b (has q.ancestors j) (has p.ancestors k)) (eq-eqb j k e)

  pub place_order-two : (j ≡ k → ⊥) → (first second : Bool) → has q.ancestors j ≡ first → has p.ancestors k ≡ second → place_order p j q k ≡ order_by false first second
  unfolding place_order
  place_order-two n first second x y =
      ap (λ (b : Bool). order_by b (has q.ancestors j) (has p.ancestors k)) (ne_eqb j k n) ∙ ap₂ (order_by false) x y

-- so a place is the same as itself, also where it is among its own ancestors
pub place_order-own : (p q : Place) (k : ℕ) → place_order p k q k ≡ Same
place_order-own p q k = place_order-one p k q k refl

-- and two places that are among each other's ancestors are apart
pub place_order-mutual : (p : Place) (j : ℕ) (q : Place) (k : ℕ) → (j ≡ k → ⊥) → has q.ancestors j ≡ true → has p.ancestors k ≡ true → place_order p j q k ≡ Apart
unfolding order_by
place_order-mutual p j q k n x y = place_order-two p j q k n true true x y

module _ {l : Book} {s : List ℕ} {us : List Update} (holds : Holds l s us) (truthful : Truthful l us) where
  pub order-at-exactly : (j k : ℕ) → j < length us → k < length us → (place_at l j).standing ≡ IsHeld → (place_at l k).standing ≡ IsHeld
      → OrderExactly rules us (update_at us j) (update_at us k) (order_at l j k)
  unfolding place_order
  order-at-exactly j k g h d e =
      tells-exactly rules us (eqb j k) (has (place_at l k).ancestors j) (has (place_at l j).ancestors k) (truthful.held_right j g d)
      (record {
        one→ = λ b. ap (update_at us) (eqb-true j k b);
        →one = λ b. eq-eqb j k (distinct-index no_update holds.distinct j k g h (ap ident b));
        first→ = λ b. truthful.above_right k j h g e b;
        →first = λ a. truthful.above_all k j h g e a;
        second→ = λ b. truthful.above_right j k g h d b;
        →second = λ a. truthful.above_all j k g h d a;
      })
