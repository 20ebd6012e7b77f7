-- The places of a ledger that stands: each holds an update of the set, and what it says of it is so.
use Rattle.std.specs.Prelude.{ℕ, ◌<◌, ◌≡◌, List, [], ◌∷◌, Bool, length}
use Rattle.std.proofs.Math.Path.{refl, ap}
use Rattle.std.proofs.Common.{sym, ◌∙◌, subst}
use Rattle.std.proofs.Math.Bool.{true}
use Rattle.bytes_order.specs.Member.{◌∈◌}
use Rattle.bytes_order.specs.Distinct.{Distinct}
use Rattle.bytes_order.specs.MemberLaws.{get_or-∈, ∈-get_or}
use Rattle.bytes_order.specs.DistinctLaws.{distinct-index, distinct-rekey}
use Rattle.bytes_order.specs.SortLaws.{ascending-distinct}
use Rattle.update_format.specs.Update.{Operation, Update}
use Rattle.update_format.specs.Decode.{update}
use Rattle.rules.specs.Standing.{Ancestor, Held}
use Rattle.rules.specs.CausalOrder.{OrderExactly}
use Rattle.rules.proofs.LeastSets.{held-not-void}
use Rattle.rules.proofs.SettlingTable.{is_held→}
use Rattle.bitset.specs.Below.{up_to}
use Rattle.bitset.specs.BelowLaws.{up_to-∈, up_to-ascending}
use Rattle.bitset.specs.Bits.{has}
use Rattle.rules.specs.declared.Standing.{Standing}
use Rattle.rules.specs.declared.Standing.TheVariants.{Held as IsHeld, Waiting as IsWaiting, Void as IsVoid}
use Rattle.ledger_state.specs.FindLaws.{stored-update}
use Rattle.ledger_state.specs.State.{Book, place_at, decoded_at, is_held}
use Rattle.ledger_state.specs.PlaceOrder.{order_at}
use Rattle.ledger_state.proofs.PlaceOrderLaws.{order-at-exactly}
use Rattle.update_fields.specs.Fields.{test_of, author_in}
use Rattle.ledger_state.specs.Stands.{ident, rules, no_update, update_at, Stands}
use Rattle.ledger_relations.specs.PlaceTests.{id_at, held_at, author_at}

module _ {l : Book} {s : List ℕ} {us : List Update} (stands : Stands l s us) where
  -- a number of a taken place
  pub from-used : {k : ℕ} → k < l.used → k < length us
  from-used {k} h = subst (λ (n : ℕ). k < n) stands.holds.number h

  pub to-used : {k : ℕ} → k < length us → k < l.used
  to-used {k} h = subst (λ (n : ℕ). k < n) (sym stands.holds.number) h

  pub place_in : {k : ℕ} → k < length us → update_at us k ∈ us
  place_in {k} h = get_or-∈ us k no_update h

  pub place_of : {u : Update} → u ∈ us → (k : ℕ) × (k < length us) × (update_at us k ≡ u)
  place_of m = ∈-get_or no_update m

  pub place-id : {k : ℕ} → k < length us → id_at l s k ≡ ident (update_at us k)
  place-id {k} h = stands.holds.ids k h

  pub same_place : {j k : ℕ} → j < length us → k < length us → id_at l s j ≡ id_at l s k → j ≡ k
  same_place {j} {k} h g e = distinct-index no_update stands.holds.distinct j k h g (sym (place-id h) ∙ e ∙ place-id g)

  pub places-distinct : Distinct (id_at l s) (up_to (length us))
  places-distinct =
      distinct-rekey (id_at l s) (ascending-distinct (up_to-ascending (length us)))
      (λ j k m n e. ap (λ (i : ℕ). i ∷ []) (same_place (up_to-∈ (length us) m) (up_to-∈ (length us) n) e))

  pub place-decoded : {k : ℕ} → k < length us → decoded_at l s k ≡ update (update_at us k)
  place-decoded {k} h = stored-update l s us stands.holds k h

  pub place-author : {k : ℕ} → k < length us → author_at l s k ≡ (update_at us k).author
  unfolding author_at author_in
  place-author h = ap author_in (place-decoded h)

  pub place-test : (p : Operation → Bool) {k : ℕ} → k < length us → test_of p (decoded_at l s k) ≡ p (update_at us k).op
  unfolding test_of
  place-test p h = ap (test_of p) (place-decoded h)

  -- a place is held exactly where its update is
  standing-held : (k : ℕ) → held_at l s k ≡ true → (place_at l k).standing ≡ IsHeld
  unfolding held_at
  standing-held k e = is_held→ (place_at l k).standing e

  pub held-at→ : {k : ℕ} → k < length us → held_at l s k ≡ true → Held rules us (update_at us k)
  held-at→ {k} h e = stands.truthful.held_right k h (standing-held k e)

  pub →held-at : {k : ℕ} → k < length us → Held rules us (update_at us k) → held_at l s k ≡ true
  unfolding held_at is_held
  →held-at {k} h d = step (place_at l k).standing refl
    where
      step : (t : Standing) → (place_at l k).standing ≡ t → is_held t ≡ true
      step IsHeld e = refl
      step IsWaiting e = absurd ((stands.settled.waiting_right k h e).not-held d)
      step IsVoid e = absurd (held-not-void rules us d (stands.truthful.void_right k h e))

  -- and its word has exactly the places of its ancestors
  pub above-at→ : {j k : ℕ} → j < length us → k < length us → held_at l s k ≡ true → has (place_at l k).ancestors j ≡ true
      → Ancestor rules us (update_at us j) (update_at us k)
  above-at→ {j} {k} g h e b = stands.truthful.above_right k j h g (standing-held k e) b

  pub →above-at : {j k : ℕ} → j < length us → k < length us → held_at l s k ≡ true → Ancestor rules us (update_at us j) (update_at us k)
      → has (place_at l k).ancestors j ≡ true
  →above-at {j} {k} g h e a = stands.truthful.above_all k j h g (standing-held k e) a

  -- and two held places stand to each other exactly as their updates do
  pub order-at : {j k : ℕ} → j < length us → k < length us → held_at l s j ≡ true → held_at l s k ≡ true
      → OrderExactly rules us (update_at us j) (update_at us k) (order_at l j k)
  order-at {j} {k} g h d e = order-at-exactly stands.holds stands.truthful j k g h (standing-held j d) (standing-held k e)
