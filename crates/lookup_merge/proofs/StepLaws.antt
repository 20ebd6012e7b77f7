-- The walk as a loop makes it: what is written and counted so far, and the walk of what is left of both lists.
use Rattle.std.specs.Prelude.{ℕ, suc, ◌+◌, ◌*◌, ◌<◌, ◌≤◌, ◌≡◌, List, [], ◌∷◌, ◌++◌, map, length, get_or, drop}
use Rattle.std.proofs.Common.{sym, ap, ap₂, ◌∙◌, append_assoc, arith, add-one, drop_of_length-le}
use Rattle.bytes_order.specs.Compare.{order_of}
use Rattle.std.specs.declared.cmp.Ordering.TheVariants.{Less, Equal, Greater}
use Rattle.update_format.specs.Update.{id_length, Id}
use Rattle.update_format.specs.Decode.{slice, id_count, ids_in}
use Rattle.update_format.specs.Slices.{ids-length}
use Rattle.standing_bytes.specs.StandingByte.{unknown_byte}
use Rattle.lookup_merge.specs.Merge.{Stored, Merged, merge}
use Rattle.lookup_merge.specs.Layout.{stored_in}
use Rattle.lookup_merge.specs.MergeLaws.{merge-asked-end, merge-stored-end, merge_less, merge_equal, merge_greater}
use Rattle.lookup_merge.proofs.LayoutLaws.{asked-from, stored-from, stored-length}

-- the bytes of the asked ids that are passed, and n comparisons, before a walk goes on
abbrev pub after : List ℕ → ℕ → Merged → Merged
after done n m = record { answers = done ++ m.answers; comparisons = n + m.comparisons }

-- one comparison more, and a byte with it
counted : (done : List ℕ) (n : ℕ) (m : Merged) → after done n (record { answers = m.answers; comparisons = suc m.comparisons }) ≡ after done (n + 1) m
counted done n m =
    let e : n + suc m.comparisons ≡ n + 1 + m.comparisons = omega arith in
    ap (λ (c : ℕ). record { answers = done ++ m.answers; comparisons = c }) e

answered : (done : List ℕ) (n b : ℕ) (m : Merged) → after done n (record { answers = b ∷ m.answers; comparisons = suc m.comparisons }) ≡ after (done ++ (b ∷ [])) (n + 1) m
answered done n b m =
    let e : n + suc m.comparisons ≡ n + 1 + m.comparisons = omega arith in
    let f : done ++ (b ∷ m.answers) ≡ (done ++ (b ∷ [])) ++ m.answers = sym (append_assoc done (b ∷ []) m.answers) in
    λ i. record { answers = f i; comparisons = e i }

no_more : (n : ℕ) → n + 0 ≡ n
no_more n = omega arith

module _ (ids bs a : List ℕ) where
  -- what is left: the walk of the stored ids from index i on and the asked ones from index j on
  abbrev pub left : ℕ → ℕ → Merged
  left i j = merge (drop i (stored_in ids bs)) (drop j (ids_in a))

  abbrev pub stored_at : ℕ → Id
  stored_at i = slice ids (0 + id_length * i) id_length

  abbrev pub asked_at : ℕ → Id
  asked_at j = slice a (0 + id_length * j) id_length

  module _ (i j : ℕ) (h : i < length bs) (k : j < id_count a) (done : List ℕ) (n : ℕ) where
    -- both lists at the indices i and j
    from : left i j ≡ merge (record { id = stored_at i; byte = get_or bs i 0 } ∷ drop (suc i) (stored_in ids bs)) (asked_at j ∷ drop (suc j) (ids_in a))
    from = ap₂ merge (stored-from ids bs i h) (asked-from a j k)

    pub stored-passed : order_of (stored_at i) (asked_at j) ≡ Less → after done n (left i j) ≡ after done (n + 1) (left (i + 1) j)
    stored-passed e =
        let x : Stored = record { id = stored_at i; byte = get_or bs i 0 } in
        let rest : left (i + 1) j ≡ merge (drop (suc i) (stored_in ids bs)) (asked_at j ∷ drop (suc j) (ids_in a)) =
        ap₂ merge (ap (λ (m : ℕ). drop m (stored_in ids bs)) (add-one i)) (asked-from a j k) in
        ap (after done n) (from ∙ merge_less x (drop (suc i) (stored_in ids bs)) (asked_at j) (drop (suc j) (ids_in a)) e)
        ∙ counted done n (merge (drop (suc i) (stored_in ids bs)) (asked_at j ∷ drop (suc j) (ids_in a)))
        ∙ ap (after done (n + 1)) (sym rest)

    pub both-passed : order_of (stored_at i) (asked_at j) ≡ Equal → after done n (left i j) ≡ after (done ++ (get_or bs i 0 ∷ [])) (n + 1) (left (i + 1) (j + 1))
    both-passed e =
        let x : Stored = record { id = stored_at i; byte = get_or bs i 0 } in
        let rest : left (i + 1) (j + 1) ≡ merge (drop (suc i) (stored_in ids bs)) (drop (suc j) (ids_in a)) =
        ap₂ (λ (m w : ℕ). merge (drop m (stored_in ids bs)) (drop w (ids_in a))) (add-one i) (add-one j) in
        ap (after done n) (from ∙ merge_equal x (drop (suc i) (stored_in ids bs)) (asked_at j) (drop (suc j) (ids_in a)) e)
        ∙ answered done n (get_or bs i 0) (merge (drop (suc i) (stored_in ids bs)) (drop (suc j) (ids_in a)))
        ∙ ap (after (done ++ (get_or bs i 0 ∷ [])) (n + 1)) (sym rest)

    pub asked-passed : order_of (stored_at i) (asked_at j) ≡ Greater → after done n (left i j) ≡ after (done ++ (unknown_byte ∷ [])) (n + 1) (left i (j + 1))
    asked-passed e =
        let x : Stored = record { id = stored_at i; byte = get_or bs i 0 } in
        let rest : left i (j + 1) ≡ merge (x ∷ drop (suc i) (stored_in ids bs)) (drop (suc j) (ids_in a)) =
        ap₂ merge (stored-from ids bs i h) (ap (λ (m : ℕ). drop m (ids_in a)) (add-one j)) in
        ap (after done n) (from ∙ merge_greater x (drop (suc i) (stored_in ids bs)) (asked_at j) (drop (suc j) (ids_in a)) e)
        ∙ answered done n unknown_byte (merge (x ∷ drop (suc i) (stored_in ids bs)) (drop (suc j) (ids_in a)))
        ∙ ap (after (done ++ (unknown_byte ∷ [])) (n + 1)) (sym rest)

  -- the walk has ended: what is left is unknown, without a comparison
  pub stored-ended : (i j n : ℕ) (done : List ℕ) → length bs ≤ i → after done n (left i j) ≡ record { answers = done ++ map (λ (i : Id). unknown_byte) (drop j (ids_in a)); comparisons = n }
  stored-ended i j n done h =
      let e : drop i (stored_in ids bs) ≡ [] = drop_of_length-le (stored_in ids bs) {i = i} (omega (arith, stored-length ids bs)) in
      ap (after done n) (ap (λ (xs : List Stored). merge xs (drop j (ids_in a))) e ∙ merge-stored-end (drop j (ids_in a)))
      ∙ ap (λ (c : ℕ). record { answers = done ++ map (λ (i : Id). unknown_byte) (drop j (ids_in a)); comparisons = c }) (no_more n)

  pub asked-ended : (i j n : ℕ) (done : List ℕ) → id_count a ≤ j → after done n (left i j) ≡ record { answers = done ++ map (λ (i : Id). unknown_byte) (drop j (ids_in a)); comparisons = n }
  asked-ended i j n done h =
      let e : drop j (ids_in a) ≡ [] = drop_of_length-le (ids_in a) {i = j} (omega (arith, ids-length a 0 (id_count a))) in
      ap (after done n) (ap (merge (drop i (stored_in ids bs))) e ∙ merge-asked-end (drop i (stored_in ids bs)))
      ∙ ap₂ (λ (is : List Id) (c : ℕ). record { answers = done ++ map (λ (i : Id). unknown_byte) is; comparisons = c }) (sym e) (no_more n)
