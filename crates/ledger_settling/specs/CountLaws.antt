-- How many places stand so, before and after a place is settled; and the counts of what settling comes to.
use Rattle.std.specs.Prelude.{◌≡◌, ℕ, ◌+◌, ◌<◌, List, Bool, true, false}
use Rattle.std.proofs.Math.Path.{refl, sym, ap}
use Rattle.std.proofs.Common.{◌∙◌, arith}
use Rattle.bitset.specs.BelowLaws.{count_below-one, count_below-cong}
use Rattle.rules.specs.declared.Standing.{Standing}
use Rattle.rules.specs.declared.Standing.TheVariants.{Held as IsHeld, Void as IsVoid}
use Rattle.ledger_state.specs.State.{Place, Book, place_at, with_standing, is_held, is_void, standing_count}
use Rattle.ledger_state.proofs.BookLaws.{replaced-same, replaced-other}
use Rattle.ledger_settling.specs.Settle.{SettleSteps, start, held, void}
use Rattle.ledger_settling.specs.SettleLaws.{settled-place, place-cases}

-- the place k is settled
module _ (t : Standing → Bool) (l : Book) (k : ℕ) (v : Standing) (w : ℕ) where
  test : Place → Bool
  test p = t p.standing

  there : place_at (with_standing l k v w) k ≡ settled-place l k v w
  there = replaced-same l.place k (settled-place l k v w)

  elsewhere : (j : ℕ) → (j ≡ k → ⊥) → place_at (with_standing l k v w) j ≡ place_at l j
  elsewhere = replaced-other l.place k (settled-place l k v w)

  one_more : k < l.used → t (place_at l k).standing ≡ false → t v ≡ true → standing_count t (with_standing l k v w) ≡ standing_count t l + 1
  unfolding standing_count test
  one_more h old now =
      count_below-one l.used (λ (j : ℕ). t (place_at (with_standing l k v w) j).standing) (λ (j : ℕ). t (place_at l j).standing) k h (ap test there ∙ now) old
      (λ j _ ne. ap test (elsewhere j ne))

  pub one_less : k < l.used → t (place_at l k).standing ≡ true → t v ≡ false → standing_count t l ≡ standing_count t (with_standing l k v w) + 1
  unfolding standing_count test
  one_less h old now =
      count_below-one l.used (λ (j : ℕ). t (place_at l j).standing) (λ (j : ℕ). t (place_at (with_standing l k v w) j).standing) k h old (ap test there ∙ now)
      (λ j _ ne. ap test (sym (elsewhere j ne)))

  as_many : t (place_at l k).standing ≡ t v → standing_count t (with_standing l k v w) ≡ standing_count t l
  unfolding standing_count
  as_many e =
      count_below-cong l.used (λ (j : ℕ). t (place_at (with_standing l k v w) j).standing) (λ (j : ℕ). t (place_at l j).standing)
      (λ j _.
      place-cases l k v w (λ p. t p.standing ≡ t (place_at l j).standing) j refl
      (λ g. sym (ap (λ (i : ℕ). t (place_at l i).standing) g ∙ e)))

-- the counts are the differences of how many stand so
pub record StepsCounted (l : Book) (h v : ℕ) (r : Book) : Type 0 where
  pub held_more : standing_count is_held r ≡ standing_count is_held l + h
  pub void_more : standing_count is_void r ≡ standing_count is_void l + v

pub steps-counted : {s : List ℕ} {l r : Book} {h v : ℕ} → SettleSteps s l h v r → StepsCounted l h v r
unfolding is_held is_void
steps-counted start = record { held_more = omega arith; void_more = omega arith }
steps-counted (held {m = m} {k = k} {w = w} p g q e) =
    let c = steps-counted p in
    record {
      held_more = omega (arith, c.held_more, one_more is_held m k IsHeld w g (ap is_held q) refl);
      void_more = as_many is_void m k IsHeld w (ap is_void q) ∙ c.void_more;
    }
steps-counted (void {m = m} {k = k} p g q e) =
    let c = steps-counted p in
    record {
      held_more = as_many is_held m k IsVoid 0 (ap is_held q) ∙ c.held_more;
      void_more = omega (arith, c.void_more, one_more is_void m k IsVoid 0 g (ap is_void q) refl);
    }
