-- The places chosen are those of the rules' chosen rows.
use Prim.Native.Nat.{ℕ, zero, suc, ◌-◌, ◌<◌}
use native.Mathlib.Omega.{arith}
use Rattle.std.specs.Prelude.{◌≡◌, ◌&&◌, ◌||◌, length, get_or, leb, ltb}
use Rattle.std.proofs.Math.Path.{refl, ap, ap₂}
use Rattle.std.proofs.Common.{sym, ◌∙◌, ⊎_elim}
use mathlib.Core.List.Memᴰ
use mathlib.Core.List.{List, [], ◌∷◌, ◌++◌, map, map-map, map-append}
use Rattle.std.specs.Prelude.{Option, None, Some}
use Rattle.std.proofs.Math.Bool.{Bool, true, false, cond, not}
use Rattle.std.proofs.Math.ListN.{take}
use Rattle.std.proofs.lemmas.List.{length-map}
use Rattle.bytes_order.specs.Member.{◌∈◌, member, keep}
use Rattle.bytes_order.specs.Sort.{sort}
use Rattle.bytes_order.specs.BoolLaws.{and-true→}
use Rattle.bytes_order.specs.OrderLaws.{same_refl, ne→same-false}
use Rattle.bytes_order.specs.MemberLaws.{append-∈, keep-∈, keep-map, keep-cong, keep_all, map-cong, take-∈}
use Rattle.bytes_order.specs.SortLaws.{sort-∈, sort_sorted, sort-map, sort-cong}
use Rattle.update_format.specs.Update.{Id, Update}
use Rattle.rules.specs.CausalOrder.{same_or_before}
use Rattle.rules.specs.Settle.{Row, Table, held_row, covered, heads, settled_table}
use Rattle.rules.proofs.ChoiceLaws.{row_id}
use Rattle.rules.specs.Writing.{held_by, ranked, at_or_above, first_heads, others, chosen_from, chosen}
use Rattle.bitset.specs.Below.{first_below}
use Rattle.bitset.specs.BelowLaws.{first_below-some→, first_below-none→}
use Rattle.rules.proofs.TermsLaws.{some-predecessors}
use Rattle.ledger_state.specs.State.{Book}
use Rattle.ledger_state.specs.PlaceOrder.{order_at}
use Rattle.ledger_state.specs.Stands.{rules, Stands}
use Rattle.ledger_relations.specs.PlaceTests.{id_at, held_at, covered_at, head_at, id_order}
use Rattle.ledger_relations.specs.RowLaws.{row_at, row-id, order-∈, table-rows, order-agrees, head-agrees}
use Rattle.write_highest.specs.Top.{top_below}
use Rattle.write_highest.specs.TopLaws.{RankedBy, top_right}
use Rattle.write_predecessors.specs.Choose.{heads_of, above_at, most_with, most_for, chosen_places}
use Rattle.write_predecessors.specs.FrontLaws.{take-map, first-kept, none_kept, ascending-take, front-with}
use Rattle.write_predecessors.specs.ShapeLaws.{heads-ascending}

module _ {l : Book} {s : List ℕ} {us : List Update} (stands : Stands l s us) where
  abbrev T : Table
  T = settled_table rules us

  abbrev row : ℕ → Row
  row = row_at us

  abbrev H : List ℕ
  H = heads_of l s

  -- heads
  head_at_lem : {k : ℕ} → k ∈ H → (k < length us) × (held_at l s k ≡ true)
  unfolding heads_of head_at
  head_at_lem {k} m =
      let f = keep-∈ (head_at l s) (id_order l s) m in (order-∈ stands f.0, (and-true→ (held_at l s k) (not (covered_at l s k)) f.1).0)

  heads-rows : heads T ≡ map row H
  unfolding heads heads_of
  heads-rows =
      ap (keep is_head) (table-rows stands) ∙ keep-map is_head row (id_order l s)
      ∙ ap (map row) (keep-cong (λ (k : ℕ). is_head (row k)) (head_at l s) (id_order l s) (λ k m. head-agrees stands k (order-∈ stands m)))
    where
      is_head : Row → Bool
      is_head r = held_row r && not (covered T r)

  -- place k is at or above place t
  up_at : ℕ → ℕ → Bool
  up_at t k = same_or_before (order_at l t k)

  up-agrees : {t k : ℕ} → t < length us → k < length us → held_at l s t ≡ true → held_at l s k ≡ true → at_or_above T (row t) (row k) ≡ up_at t k
  unfolding at_or_above up_at
  up-agrees g h d e = ap same_or_before (order-agrees stands g h d e)

  -- the first head, by its place
  first_of : Option ℕ → List ℕ
  first_of None = []
  first_of (Some t) = take 1 (keep (up_at t) H)

  first-∈ : (o : Option ℕ) {k : ℕ} → k ∈ first_of o → k ∈ H
  unfolding first_of
  first-∈ None m = absurd (Memᴰ.not-nil m)
  first-∈ (Some t) m = (keep-∈ (up_at t) H (take-∈ 1 (keep (up_at t) H) m)).0

  first-agrees : (rs : Table) (o : Option ℕ) → RankedBy stands rs o → first_heads T (heads T) rs ≡ map row (first_of o)
  unfolding first_of first_heads RankedBy
  first-agrees rs None e = ap (first_heads T (heads T)) e
  first-agrees rs (Some t) e =
      ap (first_heads T (heads T)) e.3 ∙ ap (λ (hs : Table). take 1 (keep (at_or_above T (row t)) hs)) heads-rows
      ∙ ap (take 1)
      (keep-map (at_or_above T (row t)) row H
      ∙ ap (map row) (keep-cong (λ (k : ℕ). at_or_above T (row t) (row k)) (up_at t) H (λ k m. let f = head_at_lem m in up-agrees e.0 f.0 e.1 f.1)))
      ∙ take-map row 1 (keep (up_at t) H)

  -- what is chosen with these first places
  other_than : List ℕ → ℕ → Bool
  other_than first k = not (member (id_at l s k) (map (id_at l s) first))

  most_of : List ℕ → List ℕ
  most_of first = sort (id_at l s) (take l.terms.bounds.predecessors (first ++ keep (other_than first) H))

  places_of : List ℕ → List ℕ
  places_of first = cond (leb (length H) l.terms.bounds.predecessors) H (most_of first)

  module _ (first : List ℕ) (among : (k : ℕ) → k ∈ first → k ∈ H) where
    candidates-∈ : {k : ℕ} → k ∈ first ++ keep (other_than first) H → k ∈ H
    candidates-∈ {k} m =
        ⊎_elim (λ (i : k ∈ first). among k i) (λ (i : k ∈ keep (other_than first) H). (keep-∈ (other_than first) H i).0) (append-∈ first m)

    taken-∈ : {k : ℕ} → k ∈ take l.terms.bounds.predecessors (first ++ keep (other_than first) H) → k ∈ H
    taken-∈ m = candidates-∈ (take-∈ l.terms.bounds.predecessors (first ++ keep (other_than first) H) m)

    places-∈ : {k : ℕ} → k ∈ places_of first → k ∈ H
    unfolding places_of most_of
    places-∈ {k} = step (leb (length H) l.terms.bounds.predecessors)
      where
        step : (b : Bool) → k ∈ cond b H (most_of first) → k ∈ H
        step true m = m
        step false m = taken-∈ (sort-∈ (id_at l s) (take l.terms.bounds.predecessors (first ++ keep (other_than first) H)) m)

    others-agrees : others (map row H) (map row first) ≡ map row (keep (other_than first) H)
    unfolding others other_than
    others-agrees =
        keep-map (λ (r : Row). not (member r.id (map row_id (map row first)))) row H
        ∙ ap (map row)
        (keep-cong (λ (k : ℕ). not (member (row k).id (map row_id (map row first)))) (other_than first) H (λ k m.
        ap₂ (λ (i : Id) (is : List Id). not (member i is)) (row-id stands (head_at_lem m).0)
        (map-map row_id row first ∙ map-cong (λ (j : ℕ). (row j).id) (id_at l s) first (λ j n. row-id stands (head_at_lem (among j n)).0))))

    most-agrees : sort row_id (take l.terms.bounds.predecessors (map row first ++ others (map row H) (map row first))) ≡ map row (most_of first)
    unfolding most_of
    most-agrees =
        ap (λ (rs : Table). sort row_id (take l.terms.bounds.predecessors (map row first ++ rs))) others-agrees
        ∙ ap (λ (rs : Table). sort row_id (take l.terms.bounds.predecessors rs)) (sym (map-append row first (keep (other_than first) H)))
        ∙ ap (sort row_id) (take-map row l.terms.bounds.predecessors (first ++ keep (other_than first) H))
        ∙ sort-map row_id row (take l.terms.bounds.predecessors (first ++ keep (other_than first) H))
        ∙ ap (map row)
        (sort-cong (λ (k : ℕ). (row k).id) (id_at l s) (take l.terms.bounds.predecessors (first ++ keep (other_than first) H)) (λ k m. row-id stands (head_at_lem (taken-∈ m)).0))

    places-agree : chosen_from l.terms.bounds.predecessors (map row H) (map row first) ≡ map row (places_of first)
    unfolding chosen_from places_of
    places-agree =
        ap₂ (λ (n : ℕ) (rs : Table). cond (leb n l.terms.bounds.predecessors) (map row H) rs) (length-map H row) most-agrees ∙ step (leb (length H) l.terms.bounds.predecessors)
      where
        step : (b : Bool) → cond b (map row H) (map row (most_of first)) ≡ map row (cond b H (most_of first))
        step true = refl
        step false = refl

  -- the places
  most-none : most_of [] ≡ take l.terms.bounds.predecessors H
  unfolding most_of other_than member
  most-none =
      ap (λ (ks : List ℕ). sort (id_at l s) (take l.terms.bounds.predecessors ks)) (keep_all (other_than []) H (λ k m. refl))
      ∙ sort_sorted (id_at l s) (ascending-take l.terms.bounds.predecessors (heads-ascending l s))

  most-some : (j : ℕ) → j < length H → most_of (get_or H j 0 ∷ []) ≡ most_with l s (Some j)
  unfolding most_of most_with other_than member
  most-some j h = step l.terms.bounds.predecessors (some-predecessors l.terms stands.holds.terms_allowed)
    where
      step : (m : ℕ) → 0 < m → sort (id_at l s) (take m (get_or H j 0 ∷ keep (other_than (get_or H j 0 ∷ [])) H)) ≡ cond (ltb j m) (take m H) (take (m - 1) H ++ (get_or H j 0 ∷ []))
      step zero g = absurd (omega arith)
      step (suc n) g =
          let less : n ≡ suc n - 1 = omega arith in
          front-with (other_than (get_or H j 0 ∷ [])) (get_or H j 0) 0 (ap (λ (b : Bool). not (b || false)) (same_refl (id_at l s (get_or H j 0))))
          (λ y n. ap (λ (b : Bool). not (b || false)) (ne→same-false (id_at l s y) (id_at l s (get_or H j 0)) n)) n j (heads-ascending l s) h refl
          ∙ ap (λ (i : ℕ). cond (ltb j (suc n)) (take (suc n) H) (take i H ++ (get_or H j 0 ∷ []))) less

  most-right : (o : Option ℕ) → most_of (first_of o) ≡ most_for l s o
  unfolding first_of most_for most_with up_at above_at
  most-right None = most-none
  most-right (Some t) = step (first_below (length H) (above_at l s t)) refl
    where
      step : (o : Option ℕ) → first_below (length H) (above_at l s t) ≡ o → most_of (take 1 (keep (up_at t) H)) ≡ most_with l s o
      step None e =
          ap (λ (ks : List ℕ). most_of (take 1 ks)) (none_kept (up_at t) H 0 (first_below-none→ (length H) (above_at l s t) e)) ∙ most-none
      step (Some j) e =
          let f = first_below-some→ (length H) (above_at l s t) e in
          ap most_of (first-kept (up_at t) H j 0 f.0 f.1 f.2) ∙ most-some j f.0

  module _ (a : ℕ) where
    abbrev top : Option ℕ
    top = top_below l s a l.used

    chosen-rows : chosen l.terms.bounds.predecessors T a ≡ map row (places_of (first_of top))
    unfolding chosen
    chosen-rows = ap₂ (chosen_from l.terms.bounds.predecessors) heads-rows (first-agrees (ranked (held_by T a)) top (top_right stands a)) ∙ places-agree (first_of top) (λ k m. first-∈ top m)

    chosen-places : places_of (first_of top) ≡ chosen_places l s a
    unfolding places_of chosen_places
    chosen-places = ap (λ (ks : List ℕ). cond (leb (length H) l.terms.bounds.predecessors) H ks) (most-right top)

    -- the ids of the chosen places
    pub chosen-ids : map (id_at l s) (chosen_places l s a) ≡ map row_id (chosen l.terms.bounds.predecessors T a)
    chosen-ids =
        sym
        (ap (map row_id) chosen-rows ∙ map-map row_id row (places_of (first_of top))
        ∙ map-cong (λ (k : ℕ). (row k).id) (id_at l s) (places_of (first_of top))
        (λ k m. row-id stands (head_at_lem (places-∈ (first_of top) (λ j n. first-∈ top n) m)).0)
        ∙ ap (map (id_at l s)) chosen-places)
