-- How much each part of the report has to show, for every ledger: the bounds of what a place's bytes show; of the places by standing no more than are taken, in the set
-- and the list together no more either, since no update is an Add and an Insert; and one mark at most of each author, but no more than places taken.
use Prim.Native.Nat.{ℕ, zero, suc, ◌+◌, ◌≤◌, ◌<◌, zero-le}
use native.Mathlib.Omega.{arith}
use Rattle.std.specs.Prelude.{◌≡◌, ◌⊎◌, Bool, cond, not, ◌&&◌, ltb}
use Rattle.std.proofs.Math.Path.{refl, ap, subst}
use Rattle.std.proofs.Common.{sym, eqb-true, ne_eqb, lt-ltb, le-ltb, ltb-true}
use Rattle.std.proofs.Math.Logic.{⊎_elim}
use mathlib.Core.List.{List, [], ◌∷◌, map}
use Rattle.std.proofs.Math.Bool.{true, false}
use Rattle.std.proofs.Math.ListN.{length, length-append, length-map}
use Rattle.std.proofs.Math.Dec.{eqb}
use Rattle.bytes_order.specs.BoolLaws.{bool_cases, and-true→}
use Rattle.bytes_order.specs.Order.{same}
use Rattle.bytes_order.specs.Member.{◌∈◌, keep}
use Rattle.bytes_order.specs.MemberLaws.{∈-cast, ∈-map, ∈-keep, keep-∈, keep-length, concat_map-∈}
use Rattle.bytes_order.specs.CountLaws.{one_if, keep-apart-length, keep-three-length, concat_map-length}
use Rattle.bytes_order.specs.DistinctLaws.{distinct-length, distinct-keep, distinct-subset-length}
use Rattle.bytes_order.specs.SortLaws.{ascending-distinct, sort-∈, sort-length, sort-distinct}
use Rattle.update_format.specs.Update.{Id, tag_length}
use Rattle.rules.specs.Standing.{beginning}
use Rattle.rules.specs.Settle.{is_insert}
use Rattle.rules.specs.Mark.{Mark, mark_key, marks_by}
use Rattle.rules.proofs.ReportLengthLaws.{one-standing}
use Rattle.rules.proofs.MarkLaws.{marks-by-author, marks-by-few, marks-by-some}
use Rattle.bitset.specs.Below.{up_to}
use Rattle.bitset.specs.BelowLaws.{any_below→, up_to-∈, ∈-up_to, up_to-length}
use Rattle.update_fields.specs.Fields.{test_of, is_any_add, anchor_in}
use Rattle.update_fields.specs.FieldLaws.{one-operation, author_small, tag_small, value-small}
use Rattle.ledger_state.specs.State.{Book, place_at, stored_at, decoded_at}
use Rattle.ledger_relations.specs.PlaceTests.{id_at, author_at, held_at, waiting_at, void_at, rank_at, id_order, removed_at, present_at}
use Rattle.ledger_sorting.specs.PlaceLists.{sorted_by}
use Rattle.report_parts.specs.declared.Evidence.{Evidence}
use Rattle.report_parts.specs.declared.Evidence.TheVariants.{Fork, Fault}
use Rattle.report_parts.specs.PlacePartsLaws.{author-marks-ascending}
use Rattle.report_parts.specs.PlaceParts.{evidence_at, marked_by, marks_of, set_entry_at, set_order, insert_at, by_rank, after, put_by, put_entry, put_all, entries_of, value_at}

-- a number below n or equal to n is below n + 1, and not both
one_rank : (b : Bool) (y n : ℕ) → one_if (b && ltb y n) + one_if (b && eqb y n) + one_if false ≤ one_if (b && ltb y (suc n))
one_rank false y n = omega arith
one_rank true y n = ⊎_elim low (λ (e : ltb y n ≡ false). ⊎_elim mid (high e) (bool_cases (eqb y n))) (bool_cases (ltb y n))
  where
    low : ltb y n ≡ true → one_if (ltb y n) + one_if (eqb y n) + one_if false ≤ one_if (ltb y (suc n))
    low e =
        let h : y < n = ltb-true y n e in
        let g : y < suc n = omega arith in
        rw (lt-ltb y n h, lt-ltb y (suc n) g, ne_eqb y n (λ q. omega arith)) (omega arith)

    mid : eqb y n ≡ true → one_if (ltb y n) + one_if (eqb y n) + one_if false ≤ one_if (ltb y (suc n))
    mid e =
        let q : y ≡ n = eqb-true y n e in
        let g : y < suc n = omega arith in
        let h : n ≤ y = omega arith in
        rw (e, lt-ltb y (suc n) g, le-ltb y n h) (omega arith)

    high : ltb y n ≡ false → eqb y n ≡ false → one_if (ltb y n) + one_if (eqb y n) + one_if false ≤ one_if (ltb y (suc n))
    high e f = rw (e, f) zero-le

and_one : (a b : Bool) → one_if (a && b) + one_if false + one_if false ≤ one_if a
and_one false b = omega arith
and_one true false = omega arith
and_one true true = omega arith

-- a held update is present or an entry of the list, not both, where it is an Add or an Insert, not both
one-shown : (held add insert removed : Bool) → one_if add + one_if insert ≤ 1 → one_if (held && (add && not removed)) + one_if (held && insert) + one_if false ≤ 1
one-shown false add insert removed h = omega arith
one-shown true false true removed h = omega arith
one-shown true false false removed h = omega arith
one-shown true true true removed h = absurd (omega arith)
one-shown true true false true h = omega arith
one-shown true true false false h = omega arith

module _ (l : Book) (s : List ℕ) where
  -- what a place's bytes show is bounded, whatever the bytes are, where there are authors

  pub author-bound : 0 < l.terms.bounds.authors → (k : ℕ) → author_at l s k < l.terms.bounds.authors
  unfolding author_at
  author-bound some k = author_small l.terms.bounds some (stored_at l s k)

  pub tag-bound : (k : ℕ) → length (set_entry_at l s k).tag ≤ tag_length
  unfolding set_entry_at
  tag-bound k = tag_small l.terms.bounds (stored_at l s k)

  pub entry-author-bound : 0 < l.terms.bounds.authors → (k : ℕ) → (set_entry_at l s k).author < l.terms.bounds.authors
  unfolding set_entry_at
  entry-author-bound some k = author_small l.terms.bounds some (stored_at l s k)

  pub value-bound : (k : ℕ) → length (value_at l s k) ≤ tag_length
  unfolding value_at
  value-bound k = value-small l.terms.bounds (stored_at l s k)

  -- the places in order

  pub order-taken : {k : ℕ} → k ∈ id_order l s → k < l.used
  unfolding id_order
  order-taken m = up_to-∈ l.used (sort-∈ (id_at l s) (up_to l.used) m)

  pub order-few : length (id_order l s) ≤ l.used
  unfolding id_order
  order-few = omega (arith, sort-length (id_at l s) (up_to l.used), up_to-length l.used)

  -- each has one standing
  pub standings-few : length (keep (held_at l s) (id_order l s)) + length (keep (waiting_at l s) (id_order l s)) + length (keep (void_at l s) (id_order l s)) ≤ l.used
  unfolding held_at waiting_at void_at
  standings-few =
      omega (
        arith,
        order-few,
        keep-three-length (held_at l s) (waiting_at l s) (void_at l s) (id_order l s) (λ k. one-standing (place_at l k).standing),
      )

  -- the entries of the list: those of rank below n, each of one rank

  lower : ℕ → ℕ → Bool
  lower n k = insert_at l s k && ltb (rank_at l s k) n

  by-rank-lower : (n : ℕ) → length (by_rank l s n) ≤ length (keep (lower n) (id_order l s))
  unfolding by_rank lower
  by-rank-lower zero = zero-le
  by-rank-lower (suc n) =
      omega (
        arith,
        length-append (by_rank l s n) (keep (λ (k : ℕ). insert_at l s k && eqb (rank_at l s k) n) (id_order l s)),
        by-rank-lower n,
        keep-apart-length (lower n) (λ (k : ℕ). insert_at l s k && eqb (rank_at l s k) n) (λ (k : ℕ). false) (lower (suc n)) (id_order l s)
            (λ k. one_rank (insert_at l s k) (rank_at l s k) n),
      )

  by-rank-inserts : (n : ℕ) → length (by_rank l s n) ≤ length (keep (insert_at l s) (id_order l s))
  unfolding lower
  by-rank-inserts n =
      omega (
        arith,
        by-rank-lower n,
        keep-apart-length (lower n) (λ (k : ℕ). false) (λ (k : ℕ). false) (insert_at l s) (id_order l s) (λ k. and_one (insert_at l s k) (ltb (rank_at l s k) n)),
      )

  pub by-rank-most : (n : ℕ) → length (by_rank l s n) ≤ length (id_order l s)
  by-rank-most n = omega (arith, by-rank-inserts n, keep-length (insert_at l s) (id_order l s))

  after-length : (a : Id) (e : ℕ) (xs : List ℕ) → length (after l s a e xs) ≡ suc (length xs)
  unfolding after
  after-length a e [] = refl
  after-length a e (x ∷ xs) = step (same (id_at l s x) a) (after-length a e xs)
    where
      step : (b : Bool) → length (after l s a e xs) ≡ suc (length xs) → length (cond b (x ∷ e ∷ xs) (x ∷ after l s a e xs)) ≡ suc (suc (length xs))
      step true h = refl
      step false h = ap suc h

  put-entry-length : (e : ℕ) (xs : List ℕ) → length (put_entry l s e xs) ≡ suc (length xs)
  unfolding put_entry put_by
  put-entry-length e xs = step (same (anchor_in (decoded_at l s e)) beginning)
    where
      step : (b : Bool) → length (cond b (e ∷ xs) (after l s (anchor_in (decoded_at l s e)) e xs)) ≡ suc (length xs)
      step true = refl
      step false = after-length (anchor_in (decoded_at l s e)) e xs

  put-all-length : (xs es : List ℕ) → length (put_all l s xs es) ≡ length xs + length es
  unfolding put_all
  put-all-length xs [] = omega arith
  put-all-length xs (e ∷ es) = omega (arith, put-all-length (put_entry l s e xs) es, put-entry-length e xs)

  inserts-few : length (keep (insert_at l s) (id_order l s)) ≤ length (keep (insert_at l s) (up_to l.used))
  unfolding id_order
  inserts-few =
      distinct-subset-length (distinct-keep (insert_at l s) (sort-distinct (id_at l s) (up_to l.used))) (keep (insert_at l s) (up_to l.used))
      (λ k m. let f = keep-∈ (insert_at l s) (id_order l s) m in ∈-keep (insert_at l s) (sort-∈ (id_at l s) (up_to l.used) f.0) f.1)

  entries-few : length (entries_of l s) ≤ length (keep (insert_at l s) (up_to l.used))
  unfolding entries_of
  entries-few = omega (arith, put-all-length [] (by_rank l s l.terms.places), by-rank-inserts l.terms.places, inserts-few)

  set-few : length (set_order l s) ≤ length (keep (present_at l s) (up_to l.used))
  unfolding sorted_by
  set-few = sort-length _ (keep (present_at l s) (up_to l.used))

  -- the set and the list together
  pub read-offs-few : length (set_order l s) + length (entries_of l s) ≤ l.used
  unfolding present_at insert_at
  read-offs-few =
      omega (
        arith,
        set-few,
        entries-few,
        up_to-length l.used,
        keep-three-length (present_at l s) (insert_at l s) (λ (k : ℕ). false) (up_to l.used)
            (λ k. one-shown (held_at l s k) (test_of is_any_add (decoded_at l s k)) (test_of is_insert (decoded_at l s k)) (removed_at l s (id_at l s k)) (one-operation (decoded_at l s k))),
      )

  -- the marks
  marks_for : ℕ → List Mark
  marks_for a = marks_by a (marked_by l s Fork a) (marked_by l s Fault a)

  pub marks-few : length (marks_of l s) ≤ l.terms.bounds.authors
  unfolding marks_of marks_for
  marks-few =
      omega (
        arith,
        concat_map-length marks_for 1 (up_to l.terms.bounds.authors) (λ a m. marks-by-few a (marked_by l s Fork a) (marked_by l s Fault a)),
        up_to-length l.terms.bounds.authors,
      )

  -- a mark's author, and why it is marked
  marked-author : {m : Mark} → m ∈ marks_of l s
      → (m.author < l.terms.bounds.authors) × ((marked_by l s Fork m.author ≡ true) ⊎ (marked_by l s Fault m.author ≡ true))
  unfolding marks_of marks_for
  marked-author {m} h =
      let f = concat_map-∈ marks_for (up_to l.terms.bounds.authors) h in
      let e = marks-by-author f.0 (marked_by l s Fork f.0) (marked_by l s Fault f.0) f.2 in (
        subst (λ (a : ℕ). a < l.terms.bounds.authors) (sym e) (up_to-∈ l.terms.bounds.authors f.1),
        subst (λ (a : ℕ). (marked_by l s Fork a ≡ true) ⊎ (marked_by l s Fault a ≡ true)) (sym e)
            (marks-by-some f.0 (marked_by l s Fork f.0) (marked_by l s Fault f.0) f.2),
      )

  pub mark-small : (m : Mark) → m ∈ marks_of l s → m.author < l.terms.bounds.authors
  mark-small m h = (marked-author h).0

  -- each is the author of a taken place
  marked-place : (v : Evidence) (a : ℕ) → marked_by l s v a ≡ true → (a ∷ []) ∈ map (λ (k : ℕ). author_at l s k ∷ []) (up_to l.used)
  unfolding marked_by
  marked-place v a e =
      let f = any_below→ l.used (λ (k : ℕ). eqb (author_at l s k) a && evidence_at l s v k) e in
      let g = and-true→ (eqb (author_at l s f.0) a) (evidence_at l s v f.0) f.2 in
      ∈-cast (sym (ap (λ (n : ℕ). n ∷ []) (eqb-true (author_at l s f.0) a g.0))) (∈-map (λ (k : ℕ). author_at l s k ∷ []) (∈-up_to l.used f.1))

  pub marks-used : length (marks_of l s) ≤ l.used
  unfolding marks_of mark_key
  marks-used =
      let keys : List (List ℕ) = map (λ (k : ℕ). author_at l s k ∷ []) (up_to l.used) in
      let n = distinct-length (ascending-distinct (author-marks-ascending l.terms.bounds.authors (marked_by l s Fork) (marked_by l s Fault))) keys
      (λ m h. ⊎_elim (marked-place Fork m.author) (marked-place Fault m.author) (marked-author h).1) in
      omega (arith, n, length-map (up_to l.used) (λ (k : ℕ). author_at l s k ∷ []), up_to-length l.used)
