-- The antichain rule by places: what passes says of each pair; for held places it is the rule of their updates; and how many pairs are asked about.
use Rattle.std.specs.Prelude.{◌≡◌, ℕ, zero, suc, ◌+◌, ◌-◌, ◌*◌, ◌≤◌, ◌<◌, List, Bool, cond, ◌||◌, length}
use Rattle.std.proofs.Math.Path.{refl, ap}
use Rattle.std.proofs.Common.{sym, ◌∙◌, ap₂, subst, ⊎_elim, arith, le_of_eq, add-zero, add-suc, mul-suc, mul_comm, add-one}
use Rattle.std.proofs.Math.Bool.{true, false, not}
use Rattle.std.proofs.Math.Dec.{ltb}
use borrow.Author.Tests.{ltb-true, ltb-false, not-true}
use Rattle.bytes_order.specs.BoolLaws.{true-false, not-true→false}
use Rattle.update_format.specs.Update.{Id, Update}
use Rattle.rules.specs.declared.CausalOrder.TheVariants.{Before, After}
use Rattle.rules.specs.Standing.{Ancestor}
use Rattle.rules.specs.CausalOrder.{OrderExactly, before_or_after}
use Rattle.rules.proofs.LeastSets.{held-acyclic}
use Rattle.rules.proofs.CausalLaws.{before_or_after→}
use Rattle.bitset.specs.Below.{count_below}
use Rattle.bitset.specs.BelowLaws.{all_below→, all_below←}
use Rattle.bitset.specs.Bits.{has}
use Rattle.rules.specs.declared.Standing.TheVariants.{Held as IsHeld}
use Rattle.ledger_state.specs.State.{Book, place_at}
use Rattle.ledger_state.specs.PlaceOrder.{order_at}
use Rattle.ledger_state.proofs.PlaceOrderLaws.{order-at-exactly}
use Rattle.ledger_state.specs.Stands.{rules, update_at, Holds, Truthful}
use Rattle.ledger_judging.specs.Antichain.{clear_below, antichain_at, pairs_below}
use Rattle.ledger_judging.specs.Judge.{nothing_gathered, gather}
use Rattle.ledger_judging.specs.GatherLaws.{gather-few}

-- each pair, for every ledger
module _ (l : Book) (w : ℕ) where
  abbrev Unordered : ℕ → ℕ → Type 0
  Unordered j k = before_or_after (order_at l j k) ≡ false

  pairs→ : antichain_at l w ≡ true → (j k : ℕ) → j < k → k < l.used → has w j ≡ true → has w k ≡ true → Unordered j k
  unfolding antichain_at clear_below
  pairs→ e j k g h x y =
      let below = ap (λ (b : Bool). not b || clear_below l w k) (sym y) ∙ all_below→ l.used (λ (k : ℕ). not (has w k) || clear_below l w k) e k h in
      let clear = all_below→ k (λ (q : ℕ). not (has w q) || not (before_or_after (order_at l q k))) below j g in
      not-true _ (ap (λ (b : Bool). not b || not (before_or_after (order_at l j k))) (sym x) ∙ clear)

  →pairs : ((j k : ℕ) → j < k → k < l.used → has w j ≡ true → has w k ≡ true → Unordered j k) → antichain_at l w ≡ true
  unfolding antichain_at clear_below
  →pairs each = all_below← l.used (λ (k : ℕ). not (has w k) || clear_below l w k) (λ k h. outer k h (has w k) refl)
    where
      inner : (j k : ℕ) → j < k → k < l.used → has w k ≡ true → (b : Bool) → has w j ≡ b → (not b || not (before_or_after (order_at l j k))) ≡ true
      inner j k g h y true x = ap not (each j k g h x y)
      inner j k g h y false x = refl

      outer : (k : ℕ) → k < l.used → (b : Bool) → has w k ≡ b → (not b || clear_below l w k) ≡ true
      outer k h true y = all_below← k (λ (q : ℕ). not (has w q) || not (before_or_after (order_at l q k))) (λ j g. inner j k g h y (has w j) refl)
      outer k h false y = refl

-- a set of held places
module _ {l : Book} {s : List ℕ} {us : List Update} (holds : Holds l s us) (truthful : Truthful l us) (w : ℕ)
    (held : (j : ℕ) → has w j ≡ true → (j < length us) × ((place_at l j).standing ≡ IsHeld)) where
  -- no update at a place of the set is an ancestor of another
  abbrev pub PlacesApart : Type 0
  PlacesApart = (j k : ℕ) → has w j ≡ true → has w k ≡ true → Ancestor rules us (update_at us j) (update_at us k) → ⊥

  taken : (j : ℕ) → has w j ≡ true → j < l.used
  taken j x = subst (λ (n : ℕ). j < n) (sym holds.number) (held j x).0

  order : (j k : ℕ) → has w j ≡ true → has w k ≡ true → OrderExactly rules us (update_at us j) (update_at us k) (order_at l j k)
  order j k x y = let f = held j x in let g = held k y in order-at-exactly holds truthful j k f.0 g.0 f.1 g.1

  pub antichain-at→ : antichain_at l w ≡ true → PlacesApart
  unfolding before_or_after
  antichain-at→ e j k x y a = step (ltb j k) (ltb k j) refl refl
    where
      step : (b c : Bool) → ltb j k ≡ b → ltb k j ≡ c → ⊥
      step true c p q = true-false (ap before_or_after ((order j k x y).all Before a)) (pairs→ l w e j k (ltb-true j k p) (taken k y) x y)
      step false true p q = true-false (ap before_or_after ((order k j y x).all After a)) (pairs→ l w e k j (ltb-true k j q) (taken j x) y x)
      step false false p q =
          let one : j ≡ k = omega (arith, ltb-false j k p, ltb-false k j q) in
          let f = held j x in
          held-acyclic rules us (truthful.held_right j f.0 f.1) (subst (λ (i : ℕ). Ancestor rules us (update_at us j) (update_at us i)) (sym one) a)

  pub →antichain-at : PlacesApart → antichain_at l w ≡ true
  →antichain-at apart =
      →pairs l w
      (λ j k less inside x y.
      not-true→false (before_or_after (order_at l j k))
      (λ e.
      ⊎_elim (λ (b : order_at l j k ≡ Before). apart j k x y ((order j k x y).right Before b))
      (λ (b : order_at l j k ≡ After). apart k j y x ((order j k x y).right After b))
      (before_or_after→ (order_at l j k) e)))

-- of c places there are c (c - 1) / 2 pairs
square : (c : ℕ) → suc c * suc c ≡ c * c + 2 * c + 1
square c = mul-suc (suc c) c ∙ ap (λ (n : ℕ). n + suc c) (mul_comm (suc c) c ∙ mul-suc c c) ∙ omega arith

pub pairs-count : (w n : ℕ) → 2 * pairs_below w n + count_below n (has w) ≡ count_below n (has w) * count_below n (has w)
unfolding pairs_below count_below
pairs-count w zero = refl
pairs-count w (suc n) = step (has w n) (count_below n (has w)) (pairs_below w n) (pairs-count w n)
  where
    step : (b : Bool) (c p : ℕ) → 2 * p + c ≡ c * c → 2 * (p + cond b c 0) + cond b (c + 1) c ≡ cond b (c + 1) c * cond b (c + 1) c
    step true c p e = omega (arith, e, square c) ∙ sym (ap₂ ◌*◌ (add-one c) (add-one c))
    step false c p e = omega (arith, e)

-- and of m places or fewer m (m - 1) / 2 at most
pairs-within : (p c d : ℕ) → 2 * p + c ≤ c * c → 2 * p + (c + d) ≤ (c + d) * (c + d)
pairs-within p c zero h = subst (λ (m : ℕ). 2 * p + m ≤ m * m) (sym (add-zero c)) h
pairs-within p c (suc d) h =
    subst (λ (m : ℕ). 2 * p + m ≤ m * m) (sym (add-suc c d)) (omega (arith, pairs-within p c d h, square (c + d)))

less_one : (q m : ℕ) → q + m ≤ m * m → q ≤ m * (m - 1)
less_one q zero h = omega arith
less_one q (suc m) h =
    let e : suc m - 1 ≡ m = omega arith in subst (λ (n : ℕ). q ≤ suc m * n) (sym e) (omega (arith, h, mul-suc (suc m) m))

-- The antichain test of an update asks about n (n - 1) / 2 pairs at most, n being the number of its predecessors: whatever the ledger, no more of their places are in the
-- set, and each pair of these is asked about once.
pub antichain-work : (l : Book) (preds : List Id) → 2 * pairs_below (gather l nothing_gathered preds).direct l.used ≤ length preds * (length preds - 1)
antichain-work l preds =
    let w = (gather l nothing_gathered preds).direct in
    let c = count_below l.used (has w) in
    let few : c ≤ length preds = gather-few l l.used preds in
    let whole : c + (length preds - c) ≡ length preds = omega (arith, few) in
    less_one (2 * pairs_below w l.used) (length preds)
    (subst (λ (m : ℕ). 2 * pairs_below w l.used + m ≤ m * m) whole
    (pairs-within (pairs_below w l.used) c (length preds - c) (le_of_eq (pairs-count w l.used))))
