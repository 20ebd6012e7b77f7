-- The tests of places, from what their parts answer.
use Prim.Native.Nat.{ℕ, zero, suc, ◌+◌}
use mathlib.Core.Path.{◌≡◌, refl, sym, ap, ap₂, ◌∙◌}
use mathlib.Core.List.{List}
use mathlib.Core.Bool.{Bool, true, false, not, ◌&&◌, ◌||◌}
use denote.Enum.Bare.{sameb}
use lib.Dec.{eqb}
use native.Mathlib.Omega.{arith}
use Rattle.std.specs.List.{list_any, range_with_len}
use Rattle.bitset.specs.Below.{any_below}
use Rattle.rules.specs.Settle.{is_insert}
use Rattle.rules.specs.CausalOrder.{is_before, is_apart}
use Rattle.rules.specs.contracts.CausalOrder.{the_type}
use Rattle.rules.specs.declared.CausalOrder.{CausalOrder}
use Rattle.rules.specs.declared.CausalOrder.TheVariants.{Same, Before, After, Apart}
use Rattle.bitset.specs.Bits.{count}
use Rattle.rules.specs.declared.Standing.TheVariants.{Held, Waiting, Void}
use Rattle.ledger_state.specs.State.{Place, Book, place_at, decoded_in, decoded_at, is_held, Terms}
use Rattle.ledger_state.specs.Number.{has_standing}
use Rattle.ledger_state.proofs.NumberLaws.{is-held, is-waiting, is-void}
use Rattle.update_fields.specs.Fields.{test_of, is_any_add}
use Rattle.ledger_judging.specs.Judge.{ready_at}
use Rattle.ledger_relations.specs.declared.Effect.TheVariants.{Removes, Deletes}
use Rattle.ledger_relations.specs.PlaceTests.{id_at, held_at, waiting_at, void_at, fault_at, removed_at, present_at, deleted_at, shown_at}
use Rattle.ledger_relations.specs.Effects.{ranked_in, some_held}

pub with-true : (x : Bool) → (x && true) ≡ x
with-true true = refl
with-true false = refl

with-false : (x : Bool) → (x && false) ≡ false
with-false true = refl
with-false false = refl

pub both_true : {a b c : Bool} → a ≡ true → b ≡ c → b ≡ (a && c)
both_true {a} {b} {c} e f = f ∙ ap (λ (x : Bool). x && c) (sym e)

first-false : {a : Bool} (c : Bool) → a ≡ false → false ≡ (a && c)
first-false c e = ap (λ (x : Bool). x && c) (sym e)

-- the same, by the second
pub second_true : {a b c : Bool} → a ≡ true → b ≡ c → b ≡ (c && a)
second_true {a} {b} {c} e f = f ∙ sym (with-true c) ∙ ap (λ (x : Bool). c && x) (sym e)

pub second-false : {a : Bool} (c : Bool) → a ≡ false → false ≡ (c && a)
second-false c e = sym (with-false c) ∙ ap (λ (x : Bool). c && x) (sym e)

-- what `o == CausalOrder::Before` and `o == CausalOrder::Apart` are
pub eq-before : (o : CausalOrder) → sameb the_type o Before ≡ is_before o
unfolding is_before
eq-before Same = refl
eq-before Before = refl
eq-before After = refl
eq-before Apart = refl

pub eq-apart : (o : CausalOrder) → sameb the_type o Apart ≡ is_apart o
unfolding is_apart
eq-apart Same = refl
eq-apart Before = refl
eq-apart After = refl
eq-apart Apart = refl

-- a test of a place that is to be held, by the answer whether it is
module _ (p : Place) {b : Bool} (h : b ≡ has_standing Held p.standing) where
  pub held-and : {c x : Bool} → b ≡ true → c ≡ x → c ≡ (is_held p.standing && x)
  held-and e f = both_true (sym (h ∙ is-held p.standing) ∙ e) f

  pub held-not : (x : Bool) → b ≡ false → false ≡ (is_held p.standing && x)
  held-not x e = first-false x (sym (h ∙ is-held p.standing) ∙ e)

-- a held Insert of a rank, by the answer whether it is held and of that rank
module _ (terms : Terms) (s : List ℕ) (p : Place) (k n : ℕ) {v : Bool} (h : v ≡ (is_held p.standing && eqb (count p.ancestors) n)) where
  swap : (a b c : Bool) → ((a && b) && c) ≡ ((a && c) && b)
  swap true true true = refl
  swap true true false = refl
  swap true false true = refl
  swap true false false = refl
  swap false b c = refl

  pub ranked-insert : {c : Bool} → v ≡ true → c ≡ test_of is_insert (decoded_in terms s p k) → c ≡ ranked_in terms s n p k
  ranked-insert e f = both_true (sym h ∙ e) f ∙ swap (is_held p.standing) (eqb (count p.ancestors) n) (test_of is_insert (decoded_in terms s p k))

  pub ranked-not : v ≡ false → false ≡ ranked_in terms s n p k
  ranked-not e =
      first-false (test_of is_insert (decoded_in terms s p k)) (sym h ∙ e)
      ∙ swap (is_held p.standing) (eqb (count p.ancestors) n) (test_of is_insert (decoded_in terms s p k))

module _ (l : Book) (s : List ℕ) (k : ℕ) where
  -- the standings
  pub held-is : {b : Bool} → b ≡ has_standing Held (place_at l k).standing → b ≡ held_at l s k
  unfolding held_at
  held-is e = e ∙ is-held (place_at l k).standing

  pub waiting-is : {b : Bool} → b ≡ has_standing Waiting (place_at l k).standing → b ≡ waiting_at l s k
  unfolding waiting_at
  waiting-is e = e ∙ is-waiting (place_at l k).standing

  pub void-is : {b : Bool} → b ≡ has_standing Void (place_at l k).standing → b ≡ void_at l s k
  unfolding void_at
  void-is e = e ∙ is-void (place_at l k).standing

  module _ {b : Bool} (h : b ≡ has_standing Void (place_at l k).standing) where
    pub fault-ready : {c : Bool} → b ≡ true → c ≡ ready_at l s k → c ≡ fault_at l s k
    unfolding fault_at
    fault-ready e f = both_true (sym (void-is h) ∙ e) f

    pub fault-none : b ≡ false → false ≡ fault_at l s k
    unfolding fault_at
    fault-none e = first-false (ready_at l s k) (sym (void-is h) ∙ e)

  -- a held Add that no held Remove names, by the answer whether it is a held Add
  module _ {v : Bool} (h : v ≡ (is_held (place_at l k).standing && test_of is_any_add (decoded_at l s k))) where
    regroup : (a b c : Bool) → ((a && b) && c) ≡ (a && (b && c))
    regroup true b c = refl
    regroup false b c = refl

    pub present-not : v ≡ false → false ≡ present_at l s k
    unfolding present_at held_at
    present-not e =
        first-false (not (removed_at l s (id_at l s k))) (sym h ∙ e)
        ∙ regroup (is_held (place_at l k).standing) (test_of is_any_add (decoded_at l s k)) (not (removed_at l s (id_at l s k)))

    pub present-add : {d : Bool} → v ≡ true → d ≡ some_held l s Removes k → not d ≡ present_at l s k
    unfolding present_at removed_at held_at some_held
    present-add e r =
        both_true (sym h ∙ e) (ap not r)
        ∙ regroup (is_held (place_at l k).standing) (test_of is_any_add (decoded_at l s k)) (not (removed_at l s (id_at l s k)))

  pub shown-is : {c : Bool} → c ≡ some_held l s Deletes k → not c ≡ shown_at l s k
  unfolding shown_at deleted_at held_at some_held
  shown-is e = ap not e

-- `any` over the numbers below n is `any_below`
or-assoc : (a b c : Bool) → (a || (b || c)) ≡ ((a || b) || c)
or-assoc true b c = refl
or-assoc false b c = refl

any-last : (p : ℕ → Bool) (a n : ℕ) → list_any p (range_with_len a (suc n)) ≡ (list_any p (range_with_len a n) || p (a + n))
any-last p a zero = or-false (p a) ∙ ap p (omega arith)
  where
    or-false : (b : Bool) → (b || false) ≡ b
    or-false true = refl
    or-false false = refl
any-last p a (suc n) =
    ap (λ (x : Bool). p a || x) (any-last p (a + 1) n ∙ ap (λ (m : ℕ). list_any p (range_with_len (a + 1) n) || p m) (omega arith))
    ∙ or-assoc (p a) (list_any p (range_with_len (a + 1) n)) (p (a + suc n))

pub any-range : (p : ℕ → Bool) (n : ℕ) → list_any p (range_with_len 0 n) ≡ any_below n p
unfolding any_below
any-range p zero = refl
any-range p (suc n) = any-last p 0 n ∙ ap₂ (λ (x : Bool) (m : ℕ). x || p m) (any-range p n) (omega arith)
