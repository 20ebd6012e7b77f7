-- The list: the entries put in the order of their ranks and ids show the values that the rules list. Of a ledger that stands, in order: ranks; the places of the held Inserts;
-- their order; their anchors; siblings; the walk; what is shown. The one law that others cite is the last, `values_agree`. That entries so put make the walk of their tree is in
-- `EntryLaws`.
use Prim.Native.Nat.{ℕ, zero, suc, ◌<◌}
use Rattle.std.proofs.Common.{arith, le_of_suc-le-suc, eq-or-lt_of_le, ◌∙◌, subst₂}
use Rattle.std.specs.Prelude.{◌≡◌, Bool, cond, ◌&&◌, length, eqb}
use Rattle.std.proofs.Math.Path.{refl, sym, ap, subst}
use Rattle.std.proofs.Math.Logic.{⊎_elim}
use mathlib.Core.List.Memᴰ
use mathlib.Core.List.{List, [], ◌∷◌, map, map-append, append-nil}
use Rattle.std.proofs.Math.Bool.{true, false, not}
use Rattle.std.proofs.lemmas.List.{length-map}
use borrow.Author.Tests.{eqb-true, eq-eqb}
use Rattle.bytes_order.specs.Order.{before, same}
use Rattle.bytes_order.specs.Member.{◌∈◌, keep, concat_map}
use Rattle.bytes_order.specs.Ascending.{Ascending, ascending-nil}
use Rattle.bytes_order.specs.BoolLaws.{true-false, not-true→false, and-true→, and-true}
use Rattle.bytes_order.specs.OrderLaws.{same→eq, eq→same, ne→same-false, before-less, before-equal}
use Rattle.bytes_order.specs.MemberLaws.{∈-cast, ∈-map, map-∈, ∈-keep, keep-∈, append-∈, ∈-append-left, ∈-append-right}
use Rattle.bytes_order.specs.DistinctLaws.{distinct-keep, distinct-keys}
use Rattle.bytes_order.specs.SortLaws.{ascending-keep, ascending-append, ascending-rekey}
use Rattle.update_format.specs.Update.{Id, Operation, Insert, Delete, Update}
use Rattle.rules.specs.Standing.{beginning, Ancestor, Held, Valid, InsertAncestor}
use Rattle.rules.specs.ReadOff.{Deleted, Rank, InsertAt, Sooner, Ordered, Siblings, AtBeginning, Under, Walk, Shown, Listed}
use Rattle.rules.specs.Settle.{is_insert, deletes, values_of, list, settled_table}
use Rattle.rules.proofs.LeastSets.{ancestor-stored, ancestor-trans, held-stored, held-ancestors, held-acyclic}
use Rattle.rules.proofs.TableLaws.{deletes→, →deletes, held-fine, not-true→}
use Rattle.rules.proofs.SettlingTable.{is_insert→}
use Rattle.rules.proofs.Settling.{settled-decides}
use Rattle.rules.proofs.ReadOffLaws.{list_right, listed-unique}
use Rattle.bitset.specs.Below.{count_below, up_to}
use Rattle.bitset.specs.BelowLaws.{up_to-∈, ∈-up_to, count_below-le, count_below-lt, count_below-length, any_below→, any_below←}
use Rattle.bitset.specs.Bits.{has}
use Rattle.bitset.specs.BitsLaws.{within→lt, count_within, count-lt}
use Rattle.ledger_state.specs.State.{Book, place_at, decoded_at}
use Rattle.update_fields.specs.Fields.{test_of, anchor_of, anchor_in, value_in}
use Rattle.ledger_state.specs.Stands.{ident, rules, update_at, Stands}
use Rattle.ledger_relations.specs.PlaceTests.{id_at, held_at, deleted_at, shown_at, id_order, rank_at}
use Rattle.report_parts.specs.PlaceParts.{insert_at, by_rank, entries_of, value_at}
use Rattle.ledger_relations.specs.PlaceLaws.{from-used, to-used, place_of, place-id, same_place, places-distinct, place-decoded, place-test, held-at→, →held-at, above-at→, →above-at}
use Rattle.ledger_relations.specs.RowLaws.{order-∈, ∈-order, order-ascending}
use Rattle.report_parts.specs.EntryLaws.{anchor_at, at_start, under_at, entries_at, Walked, Descending, descending-nil, descending-cons, Rooted, IsWalk, put-all}

module _ {l : Book} {s : List ℕ} {us : List Update} (stands : Stands l s us) where
  -- ranks

  rank-count : {k : ℕ} → k < length us → rank_at l s k ≡ count_below (length us) (has (place_at l k).ancestors)
  unfolding rank_at
  rank-count {k} h = count_within (place_at l k).ancestors (length us) (stands.holds.inside k h)

  not-above : {k : ℕ} → k < length us → held_at l s k ≡ true → has (place_at l k).ancestors k ≡ false
  not-above {k} h e = not-true→false (has (place_at l k).ancestors k) (λ b. held-acyclic rules us (held-at→ stands h e) (above-at→ stands h h e b))

  rank-small : {k : ℕ} → k < length us → held_at l s k ≡ true → rank_at l s k < l.terms.places
  rank-small {k} h e =
      omega (
        arith,
        rank-count h,
        stands.holds.room.few,
        count_below-le (length us) (λ (j : ℕ). true),
        count_below-lt (length us) (has (place_at l k).ancestors) (λ (j : ℕ). true) (λ j g b. refl) k h (not-above h e) refl,
      )

  rank-grows : {j k : ℕ} → j < length us → k < length us → held_at l s j ≡ true → held_at l s k ≡ true → Ancestor rules us (update_at us j) (update_at us k)
      → rank_at l s j < rank_at l s k
  unfolding rank_at
  rank-grows {j} {k} g h d e a =
      count-lt (length us) (within→lt (place_at l j).ancestors (length us) (stands.holds.inside j g))
      (within→lt (place_at l k).ancestors (length us) (stands.holds.inside k h))
      (λ i f b. →above-at stands f h e (ancestor-trans rules us (above-at→ stands f g d b) a)) j (not-above g d) (→above-at stands g h e a)

  rank_right : {k : ℕ} → k < length us → held_at l s k ≡ true → Rank rules us (update_at us k) (rank_at l s k)
  rank_right {k} h e = record {
    ids = map (id_at l s) above;
    once = distinct-keys (id_at l s) (distinct-keep (has (place_at l k).ancestors) (places-distinct stands));
    counts = λ x a.
        let f = place_of stands (ancestor-stored rules us a) in
        ∈-cast (ap ident (sym f.2) ∙ sym (place-id stands f.1))
        (∈-map (id_at l s) (∈-keep (has (place_at l k).ancestors) (∈-up_to (length us) f.1)
        (→above-at stands f.1 h e (subst (λ (y : Update). Ancestor rules us y (update_at us k)) (sym f.2) a))));
    only = λ i m.
        let f = map-∈ (id_at l s) above m in
        let g = keep-∈ (has (place_at l k).ancestors) (up_to (length us)) f.1 in
        let j = up_to-∈ (length us) g.0 in
        (update_at us f.0, above-at→ stands j h e g.1, sym (place-id stands j) ∙ f.2);
    number = length-map above (id_at l s) ∙ count_below-length (length us) (has (place_at l k).ancestors) ∙ sym (rank-count h);
  }
    where
      above : List ℕ
      above = keep (has (place_at l k).ancestors) (up_to (length us))

  -- the places of the held Inserts

  record EntryAt (k : ℕ) : Type 0 where
    taken : k < length us
    is-held : held_at l s k ≡ true
    anchor : Id
    value : List ℕ
    is-insert : (update_at us k).op ≡ Insert anchor value

  insert-at→ : {k : ℕ} → k < length us → insert_at l s k ≡ true → EntryAt k
  unfolding insert_at
  insert-at→ {k} h e =
      let f = and-true→ (held_at l s k) (test_of is_insert (decoded_at l s k)) e in
      let g = is_insert→ (update_at us k).op (sym (place-test stands is_insert h) ∙ f.1) in
      record { taken = h; is-held = f.0; anchor = g.0; value = g.1; is-insert = g.2 }

  →insert-at : {k : ℕ} → EntryAt k → insert_at l s k ≡ true
  unfolding insert_at is_insert
  →insert-at {k} f = and-true (held_at l s k) (test_of is_insert (decoded_at l s k)) f.is-held (place-test stands is_insert f.taken ∙ ap is_insert f.is-insert)

  entry-anchor : {k : ℕ} (f : EntryAt k) → anchor_at l s k ≡ f.anchor
  unfolding anchor_in anchor_of
  entry-anchor f = ap anchor_in (place-decoded stands f.taken) ∙ ap anchor_of f.is-insert

  entry_value : {k : ℕ} (f : EntryAt k) → value_at l s k ≡ f.value
  unfolding value_at value_in values_of concat_map
  entry_value f =
      ap value_in (place-decoded stands f.taken) ∙ ap (λ (o : Operation). concat_map (λ (v : List ℕ). v) (values_of o)) f.is-insert ∙ append-nil f.value

  -- an update that is a held Insert has such a place
  entry_of : {a : Id} {u : Update} → InsertAt rules us a u → (k : ℕ) × (f : EntryAt k) × (update_at us k ≡ u) × (f.anchor ≡ a)
  entry_of {a} {u} h =
      let g = place_of stands (held-stored rules us h.is-held) in (
        g.0,
        record {
          taken = g.1;
          is-held = →held-at stands g.1 (subst (Held rules us) (sym g.2) h.is-held);
          anchor = a;
          value = h.value;
          is-insert = ap (λ (v : Update). v.op) g.2 ∙ h.is-insert;
        },
        g.2,
        refl,
      )

  entry_insert : {k : ℕ} (f : EntryAt k) → InsertAt rules us f.anchor (update_at us k)
  entry_insert f = record { is-held = held-at→ stands f.taken f.is-held; value = f.value; is-insert = f.is-insert }

  -- in the order of their ranks and ids

  abbrev key : ℕ → List ℕ
  key k = rank_at l s k ∷ id_at l s k

  of-rank : ℕ → ℕ → Bool
  of-rank n k = insert_at l s k && eqb (rank_at l s k) n

  by-rank-∈ : (n : ℕ) {k : ℕ} → k ∈ by_rank l s n → EntryAt k × (rank_at l s k < n)
  unfolding by_rank of-rank
  by-rank-∈ zero m = absurd (Memᴰ.not-nil m)
  by-rank-∈ (suc n) {k} m =
      ⊎_elim
      (λ (i : k ∈ by_rank l s n). let f = by-rank-∈ n i in (f.0, omega (arith, f.1)))
      (λ (i : k ∈ keep (of-rank n) (id_order l s)).
      let f = keep-∈ (of-rank n) (id_order l s) i in
      let g = and-true→ (insert_at l s k) (eqb (rank_at l s k) n) f.1 in
      let q : rank_at l s k ≡ n = eqb-true (rank_at l s k) n g.1 in
      (insert-at→ (order-∈ stands f.0) g.0, omega arith))
      (append-∈ (by_rank l s n) m)

  ∈-by-rank : (n : ℕ) {k : ℕ} → EntryAt k → rank_at l s k < n → k ∈ by_rank l s n
  unfolding by_rank of-rank
  ∈-by-rank zero f h = absurd (omega arith)
  ∈-by-rank (suc n) {k} f h =
      ⊎_elim
      (λ (q : rank_at l s k ≡ n). ∈-append-right (by_rank l s n)
      (∈-keep (of-rank n) (∈-order stands f.taken) (and-true (insert_at l s k) (eqb (rank_at l s k) n) (→insert-at f) (eq-eqb (rank_at l s k) n q))))
      (λ (i : rank_at l s k < n). ∈-append-left (keep (of-rank n) (id_order l s)) (∈-by-rank n f i))
      (eq-or-lt_of_le (le_of_suc-le-suc h))

  rank-of : (n : ℕ) {k : ℕ} → k ∈ keep (of-rank n) (id_order l s) → rank_at l s k ≡ n
  unfolding of-rank
  rank-of n {k} m = eqb-true (rank_at l s k) n (and-true→ (insert_at l s k) (eqb (rank_at l s k) n) (keep-∈ (of-rank n) (id_order l s) m).1).1

  by-rank-ascending : (n : ℕ) → Ascending key (by_rank l s n)
  unfolding by_rank of-rank
  by-rank-ascending zero = ascending-nil
  by-rank-ascending (suc n) =
      ascending-append (by-rank-ascending n)
      (ascending-rekey key (ascending-keep (of-rank n) (order-ascending stands)) (λ x y m k b. before-equal (id_at l s x) (id_at l s y) (rank-of n m ∙ sym (rank-of n k)) b))
      (λ x y m k. before-less (id_at l s x) (id_at l s y) (let h : rank_at l s x < n = (by-rank-∈ n m).1 in let q : rank_at l s y ≡ n = rank-of n k in omega arith))

  abbrev entries : List ℕ
  entries = by_rank l s l.terms.places

  entry_at : {k : ℕ} → k ∈ entries → EntryAt k
  entry_at m = (by-rank-∈ l.terms.places m).0

  at_entry : {k : ℕ} → EntryAt k → k ∈ entries
  at_entry f = ∈-by-rank l.terms.places f (rank-small f.taken f.is-held)

  -- each is anchored at the beginning or at one of a lower rank
  anchored-at : {k : ℕ} (f : EntryAt k) → InsertAncestor rules us (update_at us k) f.anchor
      → (q : ℕ) × (q ∈ entries) × (id_at l s q ≡ anchor_at l s k) × (before (key q) (key k) ≡ true)
  anchored-at {k} f x =
      let e = held-at→ stands f.taken f.is-held in
      let g = entry_of (record { is-held = held-ancestors rules us e x.above; value = x.value; is-insert = x.is-insert }) in
      let q : EntryAt g.0 = g.1 in (
        g.0,
        at_entry q,
        place-id stands q.taken ∙ ap ident g.2 ∙ x.has-id ∙ sym (entry-anchor f),
        before-less (id_at l s g.0) (id_at l s k)
            (rank-grows q.taken f.taken q.is-held f.is-held (subst (λ (y : Update). Ancestor rules us y (update_at us k)) (sym g.2) x.above)),
      )

  entries-rooted : Rooted l s key entries
  entries-rooted = record {
    apart = λ x y m n e. same_place stands (entry_at m).taken (entry_at n).taken e;
    parent = λ x m e.
        let f = entry_at m in
        ⊎_elim (λ (q : f.anchor ≡ beginning). absurd (true-false (eq→same (anchor_at l s x) beginning (entry-anchor f ∙ q)) e))
        (λ (y : InsertAncestor rules us (update_at us x) f.anchor). anchored-at f y)
        (subst (Valid rules us (update_at us x)) f.is-insert (held-fine (held-at→ stands f.taken f.is-held)).valid);
  }

  walk_of : IsWalk l s key entries (entries_of l s)
  unfolding entries_of
  walk_of = put-all l s entries-rooted (by-rank-ascending l.terms.places)

  -- the siblings are those of the rules

  abbrev updates : List ℕ → List Update
  updates ks = map (update_at us) ks

  sooner : {x y : ℕ} → EntryAt x → EntryAt y → before (key y) (key x) ≡ true → Sooner rules us (update_at us x) (update_at us y)
  sooner {x} {y} f g b = record {
    rank-u = rank_at l s x;
    rank-v = rank_at l s y;
    is-rank-u = rank_right f.taken f.is-held;
    is-rank-v = rank_right g.taken g.is-held;
    larger = subst₂ (λ (i j : Id). before (rank_at l s y ∷ i) (rank_at l s x ∷ j) ≡ true) (place-id stands g.taken) (place-id stands f.taken) b;
  }

  ordered : (p : ℕ → Bool) {ks : List ℕ} → Descending l s key ks → ((k : ℕ) → k ∈ ks → EntryAt k) → Ordered rules us (updates (keep p ks))
  unfolding keep
  ordered p descending-nil h = Ordered.none
  ordered p (descending-cons {x = x} {xs = xs} b d) h = step (p x) (ordered p d (λ k m. h k (Memᴰ.tail m)))
    where
      step : (c : Bool) → Ordered rules us (updates (keep p xs)) → Ordered rules us (updates (cond c (x ∷ keep p xs) (keep p xs)))
      step true below =
          Ordered.first (λ v m. let f = map-∈ (update_at us) (keep p xs) m in
          let g = (keep-∈ p xs f.1).0 in
          subst (Sooner rules us (update_at us x)) f.2 (sooner (h x (Memᴰ.head refl)) (h f.0 (Memᴰ.tail g)) (b f.0 g))) below
      step false below = below

  abbrev O : List ℕ
  O = walk_of.from-largest

  in-O : {k : ℕ} → k ∈ O → EntryAt k
  in-O {k} m = entry_at (walk_of.only k m)

  among-∈ : (p : Id → Bool) {k : ℕ} → k ∈ entries_at l s O p → EntryAt k × (p (anchor_at l s k) ≡ true)
  unfolding entries_at
  among-∈ p m = let f = keep-∈ (λ (k : ℕ). p (anchor_at l s k)) O m in (in-O f.0, f.1)

  siblings-right : (p : Id → Bool) (At : Update → Type 0) → ((u : Update) → At u → (a : Id) × InsertAt rules us a u × (p a ≡ true))
      → ((a : Id) (u : Update) → InsertAt rules us a u → p a ≡ true → At u) → Siblings rules us At (updates (entries_at l s O p))
  unfolding entries_at
  siblings-right p At to from = record {
    ordered = ordered (λ (k : ℕ). p (anchor_at l s k)) walk_of.descending (λ k m. in-O m);
    all_in = λ u h.
        let t = to u h in
        let f = entry_of t.1 in
        ∈-cast (sym f.2)
        (∈-map (update_at us) (∈-keep (λ (k : ℕ). p (anchor_at l s k)) (walk_of.all_in f.0 (at_entry f.1)) (ap p (entry-anchor f.1 ∙ f.3) ∙ t.2)));
    only = λ u m.
        let f = map-∈ (update_at us) (entries_at l s O p) m in
        let g = among-∈ p f.1 in
        subst At f.2 (from g.0.anchor (update_at us f.0) (entry_insert g.0) (ap p (sym (entry-anchor g.0)) ∙ g.1));
  }

  first_right : Siblings rules us (AtBeginning rules us) (updates (entries_at l s O (at_start l s)))
  unfolding at_start
  first_right =
      siblings-right (at_start l s) (AtBeginning rules us) (λ u h. (beginning, h, eq→same beginning beginning refl))
      (λ a u h e. subst (λ (b : Id). InsertAt rules us b u) (same→eq a beginning e) h)

  under-right : {e : ℕ} → EntryAt e → Siblings rules us (Under rules us (update_at us e)) (updates (entries_at l s O (under_at l s e)))
  unfolding under_at
  under-right {e} f =
      let i : id_at l s e ≡ ident (update_at us e) = place-id stands f.taken in
      siblings-right (under_at l s e) (Under rules us (update_at us e))
      (λ u h. (
        ident (update_at us e),
        h.0,
        and-true (not (same (ident (update_at us e)) beginning)) (same (ident (update_at us e)) (id_at l s e))
            (ap not (ne→same-false (ident (update_at us e)) beginning h.1)) (eq→same (ident (update_at us e)) (id_at l s e) (sym i)),
      ))
      (λ a u h t.
      let g = and-true→ (not (same a beginning)) (same a (id_at l s e)) t in
      let q : a ≡ ident (update_at us e) = same→eq a (id_at l s e) g.1 ∙ i in
      (subst (λ (b : Id). InsertAt rules us b u) q h, λ z. true-false (eq→same a beginning (q ∙ z)) (not-true→ (same a beginning) g.0)))

  -- and so is the walk

  walk-right : {es w : List ℕ} → Walked l s O es w → ((k : ℕ) → k ∈ es → EntryAt k) → Walk rules us (updates es) (updates w)
  walk-right Walked.none h = Walk.none
  walk-right (Walked.entry {e = e} {es = es} {below = below} {next = next} b n) h =
      subst (λ (w : List Update). Walk rules us (updates (e ∷ es)) (update_at us e ∷ w)) (sym (map-append (update_at us) below next))
      (Walk.entry (under-right (h e (Memᴰ.head refl))) (walk-right b (λ k m. (among-∈ (under_at l s e) m).0)) (walk-right n (λ k m. h k (Memᴰ.tail m))))

  -- and what is shown

  deleted→ : {k : ℕ} → k < length us → deleted_at l s (id_at l s k) ≡ true → Deleted rules us (ident (update_at us k))
  unfolding deleted_at
  deleted→ {k} h e =
      let f = any_below→ l.used (λ (q : ℕ). held_at l s q && test_of (deletes (id_at l s k)) (decoded_at l s q)) e in
      let g = and-true→ (held_at l s f.0) (test_of (deletes (id_at l s k)) (decoded_at l s f.0)) f.2 in
      let j = from-used stands f.1 in
      record {
        by = update_at us f.0;
        by-held = held-at→ stands j g.0;
        is-delete = deletes→ (id_at l s k) (update_at us f.0).op (sym (place-test stands (deletes (id_at l s k)) j) ∙ g.1) ∙ ap Delete (place-id stands h);
      }

  →deleted : {k : ℕ} → k < length us → Deleted rules us (ident (update_at us k)) → deleted_at l s (id_at l s k) ≡ true
  unfolding deleted_at
  →deleted {k} h d =
      let f = place_of stands (held-stored rules us d.by-held) in
      any_below← l.used (λ (q : ℕ). held_at l s q && test_of (deletes (id_at l s k)) (decoded_at l s q)) f.0 (to-used stands f.1)
      (and-true (held_at l s f.0) (test_of (deletes (id_at l s k)) (decoded_at l s f.0))
      (→held-at stands f.1 (subst (Held rules us) (sym f.2) d.by-held))
      (place-test stands (deletes (id_at l s k)) f.1 ∙ →deletes (ap (λ (u : Update). u.op) f.2 ∙ d.is-delete ∙ ap Delete (sym (place-id stands h)))))

  shown-right : (ks : List ℕ) → ((k : ℕ) → k ∈ ks → EntryAt k) → Shown rules us (updates ks) (map (value_at l s) (keep (shown_at l s) ks))
  unfolding keep shown_at
  shown-right [] h = Shown.none
  shown-right (k ∷ ks) h = step (deleted_at l s (id_at l s k)) refl (shown-right ks (λ j m. h j (Memᴰ.tail m)))
    where
      f : EntryAt k
      f = h k (Memᴰ.head refl)

      rest : List ℕ
      rest = keep (shown_at l s) ks

      step : (b : Bool) → deleted_at l s (id_at l s k) ≡ b → Shown rules us (updates ks) (map (value_at l s) rest) → Shown rules us (updates (k ∷ ks)) (map (value_at l s) (cond (not b) (k ∷ rest) rest))
      step true q below = Shown.left_out (deleted→ f.taken q) below
      step false q below =
          Shown.shown (λ d. true-false (→deleted f.taken d) q) (f.is-insert ∙ ap (Insert f.anchor) (sym (entry_value f))) below

  listed : Listed rules us (map (value_at l s) (keep (shown_at l s) (entries_of l s)))
  listed = record {
    first = updates (entries_at l s O (at_start l s));
    walk = updates (entries_of l s);
    siblings = first_right;
    walked = walk-right walk_of.is-put.walked (λ k m. (among-∈ (at_start l s) m).0);
    shows = shown-right (entries_of l s) (λ k m. in-O (walk_of.is-put.forth k m));
  }

  pub values_agree : map (value_at l s) (keep (shown_at l s) (entries_of l s)) ≡ list (settled_table rules us)
  values_agree =
      let distinct = stands.holds.distinct in
      listed-unique rules us distinct listed (list_right rules us (settled_table rules us) distinct (settled-decides rules us distinct))
