-- The settled table of a ledger's updates has a row for each place, in the order of the places' ids, and the tests of the rows are those of the places.
use Rattle.std.specs.Prelude.{ℕ, ◌<◌, ◌≡◌, refl, ◌⊎◌, List, [], ◌∷◌, map, Bool, cond, ◌&&◌, length}
use Rattle.std.proofs.Math.Path.{sym, ap}
use Rattle.std.proofs.Common.{◌∙◌, ap₂, subst, subst₂, inl, inr}
use mathlib.Core.List.Memᴰ
use Rattle.std.proofs.lemmas.Simd.{map-map}
use Rattle.std.proofs.Math.Bool.{true, not}
use Rattle.std.proofs.Math.Dec.{eqb}
use Rattle.bytes_order.specs.Order.{same, ascending}
use Rattle.bytes_order.specs.Member.{◌∈◌, member, any, all}
use Rattle.bytes_order.specs.Distinct.{Distinct, distinct_nil, distinct_cons, Identifies}
use Rattle.bytes_order.specs.Ascending.{Ascending}
use Rattle.bytes_order.specs.BoolLaws.{test-ext, and-agrees}
use Rattle.bytes_order.specs.OrderLaws.{eq→same, ne→same-false}
use Rattle.bytes_order.specs.MemberLaws.{∈-cases, ∈-cast, ∈-map, map-∈, member→∈, ∈→member, any→∈, ∈→any, ∈→all, map-cong}
use Rattle.bytes_order.specs.DistinctLaws.{distinct-eq}
use Rattle.bytes_order.specs.SortLaws.{Ascending→ascending, ascending→Ascending, ascending-unique, sort-ascending, sort-∈, ∈-sort}
use Rattle.update_format.specs.Update.{Id, Operation, Update}
use Rattle.rules.specs.Standing.{Ancestor, Held, Void}
use Rattle.rules.specs.CausalOrder.{is_before, is_apart}
use Rattle.rules.specs.Settle.{Row, Table, is_held, is_waiting, is_void, held_in, held_row, order_in, settled_table, covered, forked_by, forked_row, fault_row}
use Rattle.rules.proofs.Decides.{Decides}
use Rattle.rules.proofs.LeastSets.{ancestor-stored, held-not-void}
use Rattle.rules.proofs.SettlingTable.{is_held→, held_in_lem, all_held}
use Rattle.rules.proofs.TableLaws.{held-order}
use Rattle.rules.proofs.Settling.{settled-ascending, settled-decides}
use Rattle.bitset.specs.Below.{any_below, up_to}
use Rattle.bitset.specs.BelowLaws.{any_below→, any_below←, up_to-∈, ∈-up_to}
use Rattle.bitset.specs.Bits.{has}
use Rattle.rules.specs.declared.Standing.{Standing}
use Rattle.rules.specs.declared.Standing.TheVariants.{Held as IsHeld, Waiting as IsWaiting, Void as IsVoid}
use Rattle.ledger_state.specs.State.{Book, place_at, decoded_at}
use Rattle.update_fields.specs.Fields.{test_of}
use Rattle.ledger_state.specs.PlaceOrder.{order_at}
use Rattle.ledger_state.specs.Stands.{ident, rules, no_update, update_at, Stands}
use Rattle.ledger_judging.specs.Judge.{ready_at}
use Rattle.ledger_judging.specs.JudgeLaws.{ready-at→, →ready-at}
use Rattle.ledger_relations.specs.PlaceTests.{id_at, held_at, waiting_at, void_at, author_at, covered_at, head_at, forked_with, forked_at, fault_at, id_order}
use Rattle.ledger_relations.specs.PlaceLaws.{from-used, to-used, place_in, place_of, place-id, same_place, place-author, place-test, held-at→, above-at→, →above-at, order-at}

-- the row of an id
no_row : Row
no_row = record { id = []; update = no_update; verdict = IsWaiting; above = [] }

row_in : Table → Id → Row
row_in [] i = no_row
row_in (r ∷ T) i = cond (same r.id i) r (row_in T i)

row-in : {T : Table} {r : Row} → Distinct (λ (r : Row). r.id) T → r ∈ T → row_in T r.id ≡ r
unfolding row_in
row-in distinct_nil m = absurd (Memᴰ.not-nil m)
row-in {r = r} (distinct_cons {x = q} {xs = T} n d) m = step (∈-cases m) (λ (k : r ∈ T). row-in d k)
  where
    here : Bool → Row
    here b = cond b q (row_in T r.id)

    step : (r ≡ q) ⊎ (r ∈ T) → (r ∈ T → row_in T r.id ≡ r) → here (same q.id r.id) ≡ r
    step (inl e) below = ap here (eq→same q.id r.id (ap (λ (r : Row). r.id) (sym e))) ∙ sym e
    step (inr k) below = ap here (ne→same-false q.id r.id (n r k)) ∙ below k

-- the row of a place
pub row_at : List Update → ℕ → Row
row_at us k = row_in (settled_table rules us) (ident (update_at us k))

module _ {l : Book} {s : List ℕ} {us : List Update} (stands : Stands l s us) where
  decides : Decides rules us (settled_table rules us)
  decides = settled-decides rules us stands.holds.distinct

  abbrev T : Table
  T = settled_table rules us

  found : {k : ℕ} → k < length us → (row_at us k ∈ T) × ((row_at us k).update ≡ update_at us k)
  unfolding row_at
  found {k} h =
      let f = decides.row_for (update_at us k) (place_in stands h) in
      let e : row_in T (ident (update_at us k)) ≡ f.0 =
      ap (row_in T) (sym (decides.has-id f.0 f.1 ∙ ap ident f.2)) ∙ row-in decides.once f.1 in
      (∈-cast e f.1, ap (λ (r : Row). r.update) e ∙ f.2)

  pub row-update : {k : ℕ} → k < length us → (row_at us k).update ≡ update_at us k
  row-update h = (found h).1

  pub update-id : {k : ℕ} → k < length us → ident (row_at us k).update ≡ id_at l s k
  update-id h = ap ident (row-update h) ∙ sym (place-id stands h)

  pub row-id : {k : ℕ} → k < length us → (row_at us k).id ≡ id_at l s k
  row-id {k} h = decides.has-id (row_at us k) (found h).0 ∙ update-id h

  -- the order of the places
  pub order-∈ : {k : ℕ} → k ∈ id_order l s → k < length us
  unfolding id_order
  order-∈ m = from-used stands (up_to-∈ l.used (sort-∈ (id_at l s) (up_to l.used) m))

  places-identify : Identifies (id_at l s) (up_to l.used)
  places-identify j k m n e = same_place stands (from-used stands (up_to-∈ l.used m)) (from-used stands (up_to-∈ l.used n)) e

  pub ∈-order : {k : ℕ} → k < length us → k ∈ id_order l s
  unfolding id_order
  ∈-order h = ∈-sort (id_at l s) places-identify (∈-up_to l.used (to-used stands h))

  pub order-ascending : Ascending (id_at l s) (id_order l s)
  unfolding id_order
  order-ascending = sort-ascending (id_at l s) (up_to l.used)

  rows-ascending : Ascending (λ (r : Row). r.id) (map (row_at us) (id_order l s))
  rows-ascending =
      ascending→Ascending (map (row_at us) (id_order l s))
      (ap ascending
      (map-map (λ (r : Row). r.id) (row_at us) (id_order l s) ∙ map-cong (λ (k : ℕ). (row_at us k).id) (id_at l s) (id_order l s) (λ k m. row-id (order-∈ m)))
      ∙ Ascending→ascending order-ascending)

  row_of : (r : Row) → r ∈ T → (k : ℕ) × (k < length us) × (row_at us k ≡ r)
  unfolding row_at
  row_of r m =
      let f = place_of stands (decides.of_set r m) in
      (f.0, f.1, ap (row_in T) (ap ident f.2 ∙ sym (decides.has-id r m)) ∙ row-in decides.once m)

  pub table-rows : settled_table rules us ≡ map (row_at us) (id_order l s)
  table-rows =
      ascending-unique (settled-ascending rules us) rows-ascending
      (record {
        forth = λ r m. let f = row_of r m in ∈-cast (sym f.2) (∈-map (row_at us) (∈-order f.1));
        back = λ r m. let f = map-∈ (row_at us) (id_order l s) m in ∈-cast (sym f.2) (found (order-∈ f.1)).0;
      })

  -- a test of some row, and of some place
  pub any-agrees : (p : Row → Bool) (p' : ℕ → Bool) → ((k : ℕ) → k < length us → p (row_at us k) ≡ p' k) → any p (settled_table rules us) ≡ any_below l.used p'
  any-agrees p p' h =
      test-ext (any p T) (any_below l.used p')
      (λ e. let f = any→∈ p T e in let g = row_of f.0 f.1 in
      any_below← l.used p' g.0 (to-used stands g.1) (sym (h g.0 g.1) ∙ ap p g.2 ∙ f.2))
      (λ e. let f = any_below→ l.used p' e in let k = from-used stands f.1 in ∈→any p (found k).0 (h f.0 k ∙ f.2))

  -- the verdict of a row is the standing of its place
  verdict-agrees : {k : ℕ} → k < length us → (row_at us k).verdict ≡ (place_at l k).standing
  verdict-agrees {k} h = step (row_at us k).verdict refl (place_at l k).standing refl
    where
      r : Row
      r = row_at us k

      m : r ∈ T
      m = (found h).0

      e : r.update ≡ update_at us k
      e = (found h).1

      step : (v : Standing) → r.verdict ≡ v → (t : Standing) → (place_at l k).standing ≡ t → v ≡ t
      step IsHeld p IsHeld q = refl
      step IsHeld p IsWaiting q = absurd ((stands.settled.waiting_right k h q).not-held (subst (Held rules us) e (decides.held_right r m p)))
      step IsHeld p IsVoid q = absurd (held-not-void rules us (decides.held_right r m p) (subst (Void rules us) (sym e) (stands.truthful.void_right k h q)))
      step IsWaiting p IsHeld q = absurd ((decides.waiting_right r m p).not-held (subst (Held rules us) (sym e) (stands.truthful.held_right k h q)))
      step IsWaiting p IsWaiting q = refl
      step IsWaiting p IsVoid q = absurd ((decides.waiting_right r m p).not-void (subst (Void rules us) (sym e) (stands.truthful.void_right k h q)))
      step IsVoid p IsHeld q = absurd (held-not-void rules us (stands.truthful.held_right k h q) (subst (Void rules us) e (decides.void_right r m p)))
      step IsVoid p IsWaiting q = absurd ((stands.settled.waiting_right k h q).not-void (subst (Void rules us) e (decides.void_right r m p)))
      step IsVoid p IsVoid q = refl

  pub held-agrees : (k : ℕ) → k < length us → held_row (row_at us k) ≡ held_at l s k
  unfolding held_row held_at
  held-agrees k h = ap is_held (verdict-agrees h)

  pub waiting-agrees : (k : ℕ) → k < length us → is_waiting (row_at us k).verdict ≡ waiting_at l s k
  unfolding waiting_at
  waiting-agrees k h = ap is_waiting (verdict-agrees h)

  pub void-agrees : (k : ℕ) → k < length us → is_void (row_at us k).verdict ≡ void_at l s k
  unfolding void_at
  void-agrees k h = ap is_void (verdict-agrees h)

  -- the ids above a held row are those of the places in its word
  pub above-agrees : {j k : ℕ} → j < length us → k < length us → held_at l s k ≡ true → member (row_at us j).id (row_at us k).above ≡ has (place_at l k).ancestors j
  unfolding held_row
  above-agrees {j} {k} g h e =
      test-ext (member r.id q.above) (has (place_at l k).ancestors j)
      (λ b. let f = decides.above_right q m v r.id (member→∈ r.id q.above b) in
      →above-at stands g h e (subst₂ (Ancestor rules us)
      (distinct-eq stands.holds.distinct (ancestor-stored rules us f.1) (place_in stands g) (f.2 ∙ row-id g ∙ place-id stands g)) (row-update h) f.1))
      (λ b. ∈→member (∈-cast (row-id g ∙ place-id stands g) (decides.above_all q m v (update_at us j)
      (subst (Ancestor rules us (update_at us j)) (sym (row-update h)) (above-at→ stands g h e b)))))
    where
      r : Row
      r = row_at us j

      q : Row
      q = row_at us k

      m : q ∈ T
      m = (found h).0

      v : q.verdict ≡ IsHeld
      v = is_held→ q.verdict (held-agrees k h ∙ e)

  pub author-agrees : {k : ℕ} → k < length us → (row_at us k).update.author ≡ author_at l s k
  author-agrees h = ap (λ (u : Update). u.author) (row-update h) ∙ sym (place-author stands h)

  pub op-agrees : {k : ℕ} → k < length us → (row_at us k).update.op ≡ (update_at us k).op
  op-agrees h = ap (λ (u : Update). u.op) (row-update h)

  -- two held places stand to each other as their rows do
  pub order-agrees : {j k : ℕ} → j < length us → k < length us → held_at l s j ≡ true → held_at l s k ≡ true
      → order_in (settled_table rules us) (row_at us j).id (row_at us k).id ≡ order_at l j k
  order-agrees {j} {k} g h d e =
      ap₂ (order_in T) (row-id g ∙ place-id stands g) (row-id h ∙ place-id stands h)
      ∙ (held-order stands.holds.distinct decides (held-at→ stands g d) (held-at→ stands h e)).all (order_at l j k)
      ((order-at stands g h d e).right (order_at l j k) refl)

  -- heads
  covered-agrees : {k : ℕ} → k < length us → held_at l s k ≡ true → covered (settled_table rules us) (row_at us k) ≡ covered_at l s k
  unfolding covered covered_at
  covered-agrees {k} h d =
      any-agrees (λ (q : Row). held_row q && is_before (order_in T (row_at us k).id q.id)) (λ (q : ℕ). held_at l s q && is_before (order_at l k q))
      (λ q g. and-agrees (held_row (row_at us q)) (held-agrees q g) (λ e. ap is_before (order-agrees h g d e)))

  pub head-agrees : (k : ℕ) → k < length us → (held_row (row_at us k) && not (covered (settled_table rules us) (row_at us k))) ≡ head_at l s k
  unfolding head_at
  head-agrees k h = and-agrees (held_row (row_at us k)) (held-agrees k h) (λ e. ap not (covered-agrees h e))

  -- forks
  forked-agrees : {r q : ℕ} → r < length us → q < length us → held_at l s r ≡ true → forked_by (settled_table rules us) (row_at us r) (row_at us q) ≡ forked_with l s r q
  unfolding forked_by forked_with
  forked-agrees {r} {q} h g d =
      and-agrees (held_row (row_at us q)) (held-agrees q g) (λ e. λ i.
      eqb (author-agrees h i) (author-agrees g i) && is_apart (order-agrees h g d e i))

  pub fork-agrees : (k : ℕ) → k < length us → forked_row (settled_table rules us) (row_at us k) ≡ forked_at l s k
  unfolding forked_row forked_at
  fork-agrees k h =
      and-agrees (held_row (row_at us k)) (held-agrees k h) (λ e. any-agrees (forked_by T (row_at us k)) (forked_with l s k) (λ q g. forked-agrees h g e))

  -- faults
  ready-agrees : {k : ℕ} → k < length us → all (held_in (settled_table rules us)) (row_at us k).update.preds ≡ ready_at l s k
  unfolding held_row is_held held_at
  ready-agrees {k} h =
      test-ext (all (held_in T) (row_at us k).update.preds) (ready_at l s k)
      (λ e. →ready-at l s us stands.holds k h (λ i m.
      let r = (all_held T (row_at us k).update e).held-row i (subst (λ (u : Update). i ∈ u.preds) (sym (row-update h)) m) in
      let f = row_of r.0 r.1 in
      let v : held_at l s f.0 ≡ true = sym (held-agrees f.0 f.1) ∙ ap (λ (q : Row). is_held q.verdict) f.2 ∙ ap is_held r.3 in
      (f.0, f.1, sym (row-id f.1 ∙ place-id stands f.1) ∙ ap (λ (q : Row). q.id) f.2 ∙ r.2, is_held→ (place_at l f.0).standing v)))
      (λ e. ∈→all (held_in T) (row_at us k).update.preds (λ i m.
      let r = ready-at→ l s us stands.holds k h e i (subst (λ (u : Update). i ∈ u.preds) (row-update h) m) in
      held_in_lem (found r.1).0 (row-id r.1 ∙ place-id stands r.1 ∙ r.2) (verdict-agrees r.1 ∙ r.3)))

  pub fault-agrees : (k : ℕ) → k < length us → fault_row (settled_table rules us) (row_at us k) ≡ fault_at l s k
  unfolding fault_row fault_at
  fault-agrees k h = and-agrees (is_void (row_at us k).verdict) (void-agrees k h) (λ e. ready-agrees h)

  -- a held update whose operation passes a test
  pub op-test-agrees : (p : Operation → Bool) → any (λ (q : Row). held_row q && p q.update.op) (settled_table rules us)
      ≡ any_below l.used (λ (q : ℕ). held_at l s q && test_of p (decoded_at l s q))
  op-test-agrees p =
      any-agrees (λ (q : Row). held_row q && p q.update.op) (λ (q : ℕ). held_at l s q && test_of p (decoded_at l s q))
      (λ q g. and-agrees (held_row (row_at us q)) (held-agrees q g) (λ e. ap p (op-agrees g) ∙ sym (place-test stands p g)))
