-- The author's held place of highest rank is that of the rules' first ranked row.
use Prim.Native.Nat.{ℕ, zero, suc, ◌<◌}
use Rattle.std.proofs.Common.{arith, le_of_suc-le-suc, not-suc-le-zero, ◌∙◌, subst, subst₂, inl, inr, ⊎_elim}
use Rattle.std.proofs.Math.Nat.{eq-or-lt_of_le}
use Rattle.std.specs.Prelude.{◌≡◌, ◌⊎◌, Bool, true, false, cond, ◌&&◌, length}
use Rattle.std.proofs.Math.Path.{refl, sym, ap}
use mathlib.Core.List.{List, [], ◌∷◌, reverse, tail-eq_of_cons-eq}
use Rattle.std.specs.Prelude.{Option, None, Some}
use Rattle.std.proofs.Math.ListN.{length-map}
use Rattle.std.proofs.Math.Dec.{eqb}
use Rattle.bytes_order.specs.Order.{before}
use Rattle.bytes_order.specs.Member.{◌∈◌, keep}
use Rattle.bytes_order.specs.Sort.{sort}
use Rattle.bytes_order.specs.BoolLaws.{true-false, not-true→false, and-true→, and-true, and-agrees}
use Rattle.bytes_order.specs.OrderLaws.{before-irrefl, before-trans}
use Rattle.bytes_order.specs.MemberLaws.{∈-cast, ∈-map, map-∈, ∈-keep, keep-∈, keep-none, member→∈, ∈→member}
use Rattle.bytes_order.specs.DistinctLaws.{distinct-keep, distinct-keys, distinct-same-length}
use Rattle.bytes_order.specs.SortLaws.{sort-∈, ∈-sort, sort-ascending, greatest-first}
use Rattle.update_format.specs.Update.{Update}
use Rattle.rules.specs.Settle.{Row, Table, held_row, rank, settled_table, rank_key}
use Rattle.rules.proofs.Decides.{Decides}
use Rattle.rules.proofs.Settling.{settled-decides}
use Rattle.rules.proofs.TableLaws.{HeldRow, keep-held→, row-eq, above-row}
use Rattle.rules.specs.Writing.{held_by, ranked}
use Rattle.bitset.specs.Below.{up_to}
use Rattle.bitset.specs.BelowLaws.{up_to-∈, ∈-up_to, count_below-length}
use Rattle.bitset.specs.Bits.{has}
use Rattle.bitset.specs.BitsLaws.{count_within}
use Rattle.ledger_state.specs.State.{Book, place_at}
use Rattle.ledger_state.specs.Stands.{rules, Stands}
use Rattle.ledger_relations.specs.PlaceTests.{id_at, held_at, author_at, rank_at, id_order}
use Rattle.ledger_relations.specs.PlaceLaws.{from-used, to-used, places-distinct}
use Rattle.ledger_relations.specs.RowLaws.{row_at, row-id, order-∈, ∈-order, table-rows, held-agrees, author-agrees, above-agrees}
use Rattle.write_highest.specs.Top.{own_at, higher, better_than, top_below}

module _ (l : Book) (s : List ℕ) where
  -- what places are compared by
  abbrev key_at : ℕ → List ℕ
  key_at k = rank_at l s k ∷ id_at l s k

  -- what is found below n: no place of the author, or one of them, of which no other is higher
  Top : ℕ → ℕ → Option ℕ → Type 0
  Top a n None = (k : ℕ) → k < n → own_at l s a k ≡ false
  Top a n (Some j) = (j < n) × (own_at l s a j ≡ true) × ((k : ℕ) → k < n → own_at l s a k ≡ true → before (key_at j) (key_at k) ≡ false)

  top_below_lem : (a n : ℕ) → Top a n (top_below l s a n)
  unfolding Top top_below better_than higher before
  top_below_lem a zero = λ k h. absurd (not-suc-le-zero h)
  top_below_lem a (suc n) = step (top_below l s a n) (own_at l s a n) refl (top_below_lem a n)
    where
      last : {k : ℕ} → k < suc n → (k ≡ n) ⊎ (k < n)
      last h = eq-or-lt_of_le (le_of_suc-le-suc h)

      better : (j : ℕ) (b : Bool) → before (key_at j) (key_at n) ≡ b → own_at l s a n ≡ true → Top a n (Some j)
          → Top a (suc n) (cond b (Some n) (Some j))
      better j true q e t = (
        omega arith,
        e,
        λ k h o.
            ⊎_elim (λ (p : k ≡ n). ap (λ (i : ℕ). before (key_at n) (key_at i)) p ∙ before-irrefl (key_at n))
            (λ (i : k < n). not-true→false (before (key_at n) (key_at k)) (λ f. true-false (before-trans (key_at j) (key_at n) (key_at k) q f) (t.2 k i o)))
            (last h),
      )
      better j false q e t = (
        omega (arith, t.0),
        t.1,
        λ k h o. ⊎_elim (λ (p : k ≡ n). ap (λ (i : ℕ). before (key_at j) (key_at i)) p ∙ q) (λ (i : k < n). t.2 k i o) (last h),
      )

      step : (o : Option ℕ) (b : Bool) → own_at l s a n ≡ b → Top a n o → Top a (suc n) (cond (b && better_than l s o n) (Some n) o)
      step None true e t = (
        omega arith,
        e,
        λ k h o.
            ⊎_elim (λ (p : k ≡ n). ap (λ (i : ℕ). before (key_at n) (key_at i)) p ∙ before-irrefl (key_at n))
            (λ (i : k < n). absurd (true-false o (t k i))) (last h),
      )
      step None false e t = λ k h. ⊎_elim (λ (p : k ≡ n). ap (own_at l s a) p ∙ e) (λ (i : k < n). t k i) (last h)
      step (Some j) true e t = better j (before (key_at j) (key_at n)) refl e t
      step (Some j) false e t = (
        omega (arith, t.0),
        t.1,
        λ k h o. ⊎_elim (λ (p : k ≡ n). absurd (true-false (sym (ap (own_at l s a) p) ∙ o) e)) (λ (i : k < n). t.2 k i o) (last h),
      )

module _ {l : Book} {s : List ℕ} {us : List Update} (stands : Stands l s us) where
  abbrev T : Table
  T = settled_table rules us

  pub decides : Decides rules us (settled_table rules us)
  decides = settled-decides rules us stands.holds.distinct

  -- the rows of the table are those of the places
  pub row-at : {k : ℕ} → k < length us → row_at us k ∈ settled_table rules us
  row-at {k} h = subst (λ (rs : Table). row_at us k ∈ rs) (sym (table-rows stands)) (∈-map (row_at us) (∈-order stands h))

  pub at_row : {r : Row} → r ∈ settled_table rules us → (k : ℕ) × (k < length us) × (row_at us k ≡ r)
  at_row {r} m =
      let f = map-∈ (row_at us) (id_order l s) (subst (λ (rs : Table). r ∈ rs) (table-rows stands) m) in (f.0, order-∈ stands f.1, f.2)

  held-row-at : {k : ℕ} → k < length us → held_at l s k ≡ true → HeldRow (settled_table rules us) (row_at us k)
  held-row-at {k} h e =
      (keep-held→ T (λ (r : Row). true)
      (∈-keep (λ (r : Row). held_row r && true) (row-at h) (and-true (held_row (row_at us k)) true (held-agrees stands k h ∙ e) refl))).0

  -- the rank of a held row is that of its place
  rank-agrees : {k : ℕ} → k < length us → held_at l s k ≡ true → rank (row_at us k) ≡ rank_at l s k
  unfolding rank rank_at
  rank-agrees {k} h e =
      distinct-same-length (decides.above_once (row_at us k) (held-row-at h e).row-in (held-row-at h e).ruled_held)
      (distinct-keys (id_at l s) (distinct-keep (has (place_at l k).ancestors) (places-distinct stands)))
      (record {
        forth = λ i m.
            let f = above-row stands.holds.distinct decides (held-row-at h e) m in
            let g = at_row f.1.row-in in
            let q : (row_at us g.0).id ≡ i = ap (λ (r : Row). r.id) g.2 ∙ f.2 in
            ∈-cast (sym q ∙ row-id stands g.1)
            (∈-map (id_at l s) (∈-keep (has (place_at l k).ancestors) (∈-up_to (length us) g.1)
            (sym (above-agrees stands g.1 h e) ∙ ∈→member (∈-cast q m))));
        back = λ i m.
            let f = map-∈ (id_at l s) above m in
            let g = keep-∈ (has (place_at l k).ancestors) (up_to (length us)) f.1 in
            let j = up_to-∈ (length us) g.0 in
            ∈-cast (sym f.2 ∙ sym (row-id stands j)) (member→∈ (row_at us f.0).id (row_at us k).above (above-agrees stands j h e ∙ g.1));
      })
      ∙ length-map above (id_at l s) ∙ count_below-length (length us) (has (place_at l k).ancestors)
      ∙ sym (count_within (place_at l k).ancestors (length us) (stands.holds.inside k h))
    where
      above : List ℕ
      above = keep (has (place_at l k).ancestors) (up_to (length us))

  key-agrees : {k : ℕ} → k < length us → held_at l s k ≡ true → rank_key (row_at us k) ≡ key_at l s k
  key-agrees h e = λ i. rank-agrees h e i ∷ row-id stands h i

  -- the author's rows
  own : ℕ → Row → Bool
  own a r = held_row r && eqb r.update.author a

  own-agrees : (a : ℕ) {k : ℕ} → k < length us → own a (row_at us k) ≡ own_at l s a k
  unfolding own own_at
  own-agrees a {k} h = and-agrees (held_row (row_at us k)) (held-agrees stands k h) (λ e. ap (λ (b : ℕ). eqb b a) (author-agrees stands h))

  own_held : (a k : ℕ) → own_at l s a k ≡ true → held_at l s k ≡ true
  unfolding own_at
  own_held a k e = (and-true→ (held_at l s k) (eqb (author_at l s k) a) e).0

  -- the first of the ranked rows
  unfoldable pub RankedBy : Table → Option ℕ → Type 0
  RankedBy rs None = rs ≡ []
  RankedBy rs (Some t) = (t < length us) × (held_at l s t ≡ true) × (ts : Table) × (rs ≡ row_at us t ∷ ts)

  pub top_right : (a : ℕ) → RankedBy (ranked (held_by (settled_table rules us) a)) (top_below l s a l.used)
  unfolding RankedBy Top ranked held_by own sort
  top_right a = step (top_below l s a l.used) (top_below_lem l s a l.used)
    where
      rows : Table
      rows = keep (own a) T

      row_of : {r : Row} → r ∈ rows → (k : ℕ) × (k < length us) × (row_at us k ≡ r) × (own_at l s a k ≡ true)
      row_of m =
          let f = keep-∈ (own a) T m in
          let g = at_row f.0 in
          (g.0, g.1, g.2, sym (own-agrees a g.1) ∙ ap (own a) g.2 ∙ f.1)

      -- no row has a greater key than that of the top place
      greatest : (j : ℕ) → Top l s a l.used (Some j) → {r : Row} → r ∈ rows
          → (row_at us j ≡ r) ⊎ (before (rank_key (row_at us j)) (rank_key r) ≡ true) → r ≡ row_at us j
      greatest j t m (inl q) = sym q
      greatest j t m (inr b) =
          let g = row_of m in
          absurd
          (true-false
          (subst₂ (λ (x y : List ℕ). before x y ≡ true) (key-agrees (from-used stands t.0) (own_held a j t.1))
          (ap rank_key (sym g.2) ∙ key-agrees g.1 (own_held a g.0 g.3)) b) (t.2 g.0 (to-used stands g.1) g.3))

      top_in : (j : ℕ) → Top l s a l.used (Some j) → row_at us j ∈ sort rank_key rows
      top_in j t =
          ∈-sort rank_key
          (λ x y i k q. row-eq stands.holds.distinct decides (keep-∈ (own a) T i).0 (keep-∈ (own a) T k).0 (tail-eq_of_cons-eq q))
          (∈-keep (own a) (row-at (from-used stands t.0)) (own-agrees a (from-used stands t.0) ∙ t.1))

      step : (o : Option ℕ) → Top l s a l.used o → RankedBy (reverse (sort rank_key rows)) o
      step None t =
          ap (λ (rs : Table). reverse (sort rank_key rs))
          (keep-none (own a) T (λ r m. let g = at_row m in ap (own a) (sym g.2) ∙ own-agrees a g.1 ∙ t g.0 (to-used stands g.1)))
      step (Some j) t =
          let f = greatest-first rank_key (sort rank_key rows) (sort-ascending rank_key rows) (top_in j t) in (
            from-used stands t.0,
            own_held a j t.1,
            f.1,
            subst (λ (r : Row). reverse (sort rank_key rows) ≡ r ∷ f.1)
                (greatest j t (sort-∈ rank_key rows f.3) (f.4 (row_at us j) (top_in j t))) f.2,
          )
