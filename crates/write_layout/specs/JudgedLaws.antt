-- The judgement of an update that names heads only: it holds exactly when its operation is valid by the settled table.
use Rattle.std.specs.Prelude.{ℕ, ◌<◌, ◌≡◌, List, true, false, ◌&&◌, length}
use Rattle.std.proofs.Math.Path.{refl, sym, ap, ap₂}
use Rattle.std.proofs.Common.{◌∙◌, subst}
use Rattle.std.specs.Prelude.{Option, None, Some}
use Rattle.std.proofs.Math.Bool.{Bool, cond, ◌||◌}
use Rattle.bytes_order.specs.Order.{same}
use Rattle.bytes_order.specs.Member.{◌∈◌, member, keep, any}
use Rattle.bytes_order.specs.BoolLaws.{not-true→false, test-ext, and-true→, and-true}
use Rattle.bytes_order.specs.OrderLaws.{same→eq, eq→same}
use Rattle.bytes_order.specs.MemberLaws.{∈-cast, ∈-map, map-∈, ∈-keep, keep-∈, member→∈, ∈→member, any→∈, ∈→any, all-cong}
use Rattle.bytes_order.specs.DistinctLaws.{distinct-eq}
use Rattle.update_format.specs.Update.{Id, Operation, Add, Remove, Insert, Delete, Update}
use Rattle.update_format.specs.Decode.{update}
use Rattle.rules.specs.Standing.{beginning, Held}
use Rattle.rules.specs.ReadOff.{Head}
use Rattle.rules.specs.Settle.{Row, Table, is_add, is_insert, add_in, insert_in, above_in, ancestors_of, valid_op, settled_table}
use Rattle.rules.proofs.LeastSets.{held-stored, held-not-void}
use Rattle.rules.proofs.TableLaws.{row-eq}
use Rattle.rules.proofs.ChoiceLaws.{row_id}
use Rattle.bitset.specs.Bits.{has, join}
use Rattle.bitset.specs.BitsLaws.{has_join}
use Rattle.rules.specs.declared.Standing.{Standing}
use Rattle.rules.specs.declared.Standing.TheVariants.{Held as IsHeld, Waiting as IsWaiting, Void as IsVoid}
use Rattle.ledger_judging.specs.declared.Gathered.{Gathered}
use Rattle.ledger_judging.specs.declared.Judgement.TheVariants.{Holds, Fails, Waits}
use Rattle.ledger_state.specs.State.{Book, place_at, find_in, is_held}
use Rattle.ledger_judging.specs.Antichain.{antichain_at}
use Rattle.ledger_judging.specs.AntichainLaws.{→antichain-at}
use Rattle.ledger_judging.specs.Judge.{nothing_gathered, gather, names_at, names_ancestor, valid, judge_ready, judge_gathered, judge_decoded}
use Rattle.ledger_state.specs.Stands.{ident, rules, update_at, Stands}
use Rattle.ledger_state.specs.FindLaws.{find-right, find_none}
use Rattle.ledger_judging.specs.GatherLaws.{AllHeld, gathered-void→, gathered-ready←, gathered-direct→, gathered-direct←, gathered-held, gathered-above→, gathered-above←}
use Rattle.ledger_relations.specs.PlaceTests.{held_at}
use Rattle.ledger_relations.specs.PlaceLaws.{place_in, place_of, place-id, place-test}
use Rattle.ledger_relations.specs.RowLaws.{row_at, row-id, above-agrees, op-agrees}
use Rattle.write_highest.specs.TopLaws.{decides, row-at, at_row}

module _ {l : Book} {s : List ℕ} {us : List Update} (stands : Stands l s us) where
  abbrev T : Table
  T = settled_table rules us

  abbrev row : ℕ → Row
  row = row_at us

  row-ident : {k : ℕ} → k < length us → (row k).id ≡ ident (update_at us k)
  row-ident h = row-id stands h ∙ place-id stands h

  is_row : {r : Row} {k : ℕ} → r ∈ T → k < length us → r.id ≡ (row k).id → r ≡ row k
  is_row m h e = row-eq stands.holds.distinct (decides stands) m (row-at stands h) e

  standing-held : {k : ℕ} → k < length us → Held rules us (update_at us k) → (place_at l k).standing ≡ IsHeld
  standing-held {k} h d = step (place_at l k).standing refl
    where
      step : (t : Standing) → (place_at l k).standing ≡ t → t ≡ IsHeld
      step IsHeld e = refl
      step IsWaiting e = absurd ((stands.settled.waiting_right k h e).not-held d)
      step IsVoid e = absurd (held-not-void rules us d (stands.truthful.void_right k h e))

  held-at : (k : ℕ) → (place_at l k).standing ≡ IsHeld → held_at l s k ≡ true
  unfolding held_at is_held
  held-at k e = ap is_held e

  -- an update whose operation passes a test has the id of place j
  test_at : (p : Operation → Bool) {j : ℕ} → j < length us → any (λ (r : Row). same r.id (row j).id && p r.update.op) T ≡ p (update_at us j).op
  test_at p {j} h =
      test-ext (any passes T) (p (update_at us j).op)
      (λ e.
      let f = any→∈ passes T e in
      let g = and-true→ (same f.0.id (row j).id) (p f.0.update.op) f.2 in
      ap p (sym (op-agrees stands h)) ∙ ap (λ (r : Row). p r.update.op) (sym (is_row f.1 h (same→eq f.0.id (row j).id g.0))) ∙ g.1)
      (λ e.
      ∈→any passes (row-at stands h)
      (and-true (same (row j).id (row j).id) (p (row j).update.op) (eq→same (row j).id (row j).id refl) (ap p (op-agrees stands h) ∙ e)))
    where
      passes : Row → Bool
      passes r = same r.id (row j).id && p r.update.op

  module _ (w : Update) (named : (i : Id) → i ∈ w.preds → (u : Update) × Head rules us u × (ident u ≡ i)) where
    abbrev gathered : Gathered
    gathered = gather l nothing_gathered w.preds

    -- the predecessors are heads
    pred-head : {j : ℕ} → j < length us → ident (update_at us j) ∈ w.preds → Head rules us (update_at us j)
    pred-head {j} h m =
        let f = named (ident (update_at us j)) m in
        subst (Head rules us) (distinct-eq stands.holds.distinct (held-stored rules us f.1.is-held) (place_in stands h) f.2) f.1

    pred-standing : {j : ℕ} → j < length us → ident (update_at us j) ∈ w.preds → (place_at l j).standing ≡ IsHeld
    pred-standing h m = standing-held h (pred-head h m).is-held

    all_held : AllHeld l us w.preds
    all_held i m =
        let f = named i m in
        let g = place_of stands (held-stored rules us f.1.is-held) in
        let e : ident (update_at us g.0) ≡ i = ap ident g.2 ∙ f.2 in
        (g.0, g.1, e, pred-standing g.1 (∈-cast e m))

    not-void : gathered.void ≡ false
    not-void =
        not-true→false gathered.void
        (λ e.
        let r = gathered-void→ l s us stands.holds w.preds e in
        held-not-void rules us (pred-head r.1 r.2).is-held (stands.truthful.void_right r.0 r.1 r.3))

    ready : gathered.ready ≡ true
    ready = gathered-ready← l s us stands.holds w.preds all_held

    apart : antichain_at l gathered.direct ≡ true
    apart =
        →antichain-at stands.holds stands.truthful gathered.direct (gathered-held l s us stands.holds w.preds)
        (λ j k x y a.
        let d = gathered-direct→ l s us stands.holds w.preds j x in
        let e = gathered-direct→ l s us stands.holds w.preds k y in
        (pred-head d.0 d.1).on-top (update_at us k) (pred-head e.0 e.1).is-held a)

    -- its ancestor word
    unfoldable pub ancestor_word : ℕ
    ancestor_word = join gathered.direct gathered.above

    direct-agrees : {j : ℕ} → j < length us → member (row j).id w.preds ≡ has gathered.direct j
    direct-agrees {j} h =
        test-ext (member (row j).id w.preds) (has gathered.direct j)
        (λ e.
        let m = ∈-cast (sym (row-ident h)) (member→∈ (row j).id w.preds e) in
        gathered-direct← l s us stands.holds w.preds j h m (pred-standing h m))
        (λ e. ∈→member (∈-cast (row-ident h) (gathered-direct→ l s us stands.holds w.preds j e).1))

    further-agrees : {j : ℕ} → j < length us → any (λ (i : Id). above_in T (row j).id i) w.preds ≡ has gathered.above j
    unfolding above_in
    further-agrees {j} h =
        test-ext (any (λ (i : Id). above_in T (row j).id i) w.preds) (has gathered.above j)
        (λ e.
        let f = any→∈ (λ (i : Id). above_in T (row j).id i) w.preds e in
        let g = any→∈ (λ (r : Row). same r.id f.0 && member (row j).id r.above) T f.2 in
        let b = and-true→ (same g.0.id f.0) (member (row j).id g.0.above) g.2 in
        let k = at_row stands g.1 in
        let m = ∈-cast (sym (row-ident k.1) ∙ ap row_id k.2 ∙ same→eq g.0.id f.0 b.0) f.1 in
        let d = pred-standing k.1 m in
        gathered-above← l s us stands.holds w.preds j k.0 k.1 m d
        (sym (above-agrees stands h k.1 (held-at k.0 d)) ∙ ap (λ (r : Row). member (row j).id r.above) k.2 ∙ b.1))
        (λ e.
        let r = gathered-above→ l s us stands.holds w.preds j e in
        ∈→any (λ (i : Id). above_in T (row j).id i) r.2
        (∈→any (λ (q : Row). same q.id (ident (update_at us r.0)) && member (row j).id q.above) (row-at stands r.1)
        (and-true (same (row r.0).id (ident (update_at us r.0))) (member (row j).id (row r.0).above)
        (eq→same (row r.0).id (ident (update_at us r.0)) (row-ident r.1)) (above-agrees stands h r.1 (held-at r.0 r.3) ∙ r.4))))

    abbrev up : List Id
    up = ancestors_of T w

    abbrev reached : Row → Bool
    reached r = member r.id w.preds || any (λ (p : Id). above_in T r.id p) w.preds

    ancestor-agrees : {j : ℕ} → j < length us → member (row j).id up ≡ has ancestor_word j
    unfolding ancestors_of ancestor_word
    ancestor-agrees {j} h =
        test-ext (member (row j).id up) (has ancestor_word j)
        (λ e.
        let f = map-∈ row_id (keep reached T) (member→∈ (row j).id up e) in
        let g = keep-∈ reached T f.1 in
        sym agrees ∙ ap reached (sym (is_row g.0 h f.2)) ∙ g.1)
        (λ e. ∈→member (∈-map row_id (∈-keep reached (row-at stands h) (agrees ∙ e))))
      where
        agrees : reached (row j) ≡ has ancestor_word j
        agrees = ap₂ ◌||◌ (direct-agrees h) (further-agrees h) ∙ sym (has_join gathered.direct gathered.above j)

    -- the operation is valid by the word as by the table
    names-agrees : (p : Operation → Bool) (i : Id) → names_ancestor l s p ancestor_word i ≡ (member i up && any (λ (r : Row). same r.id i && p r.update.op) T)
    unfolding names_ancestor names_at ancestors_of
    names-agrees p i = step (find_in l i) refl
      where
        listed : Id → Bool
        listed i = member i up && any (λ (r : Row). same r.id i && p r.update.op) T

        step : (o : Option ℕ) → find_in l i ≡ o → names_at l s p ancestor_word o ≡ listed i
        step None e =
            ap (λ (b : Bool). b && any (λ (r : Row). same r.id i && p r.update.op) T)
            (sym
            (not-true→false (member i up)
            (λ t.
            let f = map-∈ row_id (keep reached T) (member→∈ i up t) in
            let g = (keep-∈ reached T f.1).0 in
            find_none l s us stands.holds i e f.0.update ((decides stands).of_set f.0 g) (sym ((decides stands).has-id f.0 g) ∙ f.2))))
        step (Some j) e =
            let r = find-right l s us stands.holds i j e in
            ap₂ ◌&&◌ (sym (ancestor-agrees r.0)) (place-test stands p r.0 ∙ sym (test_at p r.0)) ∙ ap listed (row-ident r.0 ∙ r.1)

    valid-agrees : (o : Operation) → valid l s ancestor_word o ≡ valid_op T up o
    unfolding valid valid_op add_in insert_in
    valid-agrees (Add t) = refl
    valid-agrees (Remove t ids) =
        all-cong (names_ancestor l s (is_add t) ancestor_word) (λ (i : Id). member i up && add_in T t i) ids (λ i m. names-agrees (is_add t) i)
    valid-agrees (Insert a v) = ap (λ (b : Bool). same a beginning || b) (names-agrees is_insert a)
    valid-agrees (Delete i) = names-agrees is_insert i

    pub judged : judge_decoded l s (update w) ≡ cond (valid_op (settled_table rules us) (ancestors_of (settled_table rules us) w) w.op) (Holds ancestor_word) Fails
    unfolding judge_decoded judge_gathered judge_ready ancestor_word
    judged = λ i.
        cond (not-void i) Fails
        (cond (ready i)
        (cond (apart i) (cond (valid-agrees w.op i) (Holds ancestor_word) Fails) Fails) Waits)
