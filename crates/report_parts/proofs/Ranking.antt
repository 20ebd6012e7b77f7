-- The list's entries, put rank by rank: never more than there are places.
use Prim.Native.Nat.{ℕ, ◌+◌, ◌≤◌}
use mathlib.Core.Path.{◌≡◌, refl, sym, ap, ap₂, subst, ◌∙◌}
use mathlib.Core.List.{List, [], ◌∷◌, ◌++◌}
use mathlib.Core.Bool.{Bool, true, false, cond}
use native.Mathlib.Numerals.{add-one}
use native.Mathlib.Omega.{arith}
use lib.ListN.{length, drop, length-append}
use Rattle.bytes_order.specs.Order.{same}
use Rattle.bytes_order.specs.Member.{keep}
use Rattle.bytes_order.specs.MemberLaws.{keep_append}
use Rattle.rules.specs.Standing.{beginning}
use Rattle.ledger_state.specs.State.{places, Book, place_at, decoded_at}
use Rattle.ledger_relations.specs.PlaceTests.{held_at, rank_at, id_order}
use Rattle.ledger_relations.specs.Effects.{ranked_in}
use Rattle.report_parts.specs.PlaceParts.{insert_at, by_rank, after, put_by, put_entry, put_all, entries_of}
use Rattle.update_fields.specs.Fields.{anchor_in}
use Rattle.ledger_sorting.specs.PlaceLists.{Places, ins, PlaceList, Lists}
use Rattle.report_parts.specs.Ranked.{ranked_at}
use Rattle.report_parts.specs.LengthLaws.{by-rank-most}
use Rattle.ledger_sorting.proofs.Inserting.{renamed}
use Rattle.ledger_sorting.proofs.Keeping.{keep-no, keep_one}

module _ (l : Book) (s : List ℕ) where
  pub ranked-is : (k n : ℕ) {b : Bool} → b ≡ ranked_in l.terms s n (place_at l k) k → b ≡ ranked_at l s n k
  unfolding ranked_at
  ranked-is k n e = e

  pub by-rank-more : (n : ℕ) → by_rank l s (n + 1) ≡ by_rank l s n ++ keep (ranked_at l s n) (id_order l s)
  unfolding by_rank insert_at held_at rank_at ranked_at
  by-rank-more n = ap (by_rank l s) (add-one n)

  pub put-append : (xs es fs : List ℕ) → put_all l s xs (es ++ fs) ≡ put_all l s (put_all l s xs es) fs
  unfolding put_all
  put-append xs [] fs = refl
  put-append xs (e ∷ es) fs = put-append (put_entry l s e xs) es fs

  -- the room for one more rank
  pub rank_room : (n : ℕ) (os : List ℕ) → os ≡ id_order l s → length os ≤ places → length (by_rank l s n) + length (keep (ranked_at l s n) os) ≤ places
  rank_room n os e h =
      let f = ap (λ (x : List ℕ). length (keep (ranked_at l s n) x)) e in
      let g = ap length e in
      omega (arith, f, g, ap length (by-rank-more n), length-append (by_rank l s n) (keep (ranked_at l s n) (id_order l s)), by-rank-most l s (n + 1))

  pub rank-zero : length (by_rank l s 0) ≡ 0
  unfolding by_rank
  rank-zero = refl

  pub rank-count : (n : ℕ) (os : List ℕ) → os ≡ id_order l s → length (by_rank l s n) + length (keep (ranked_at l s n) os) ≡ length (by_rank l s (n + 1))
  rank-count n os e =
      ap (λ (x : List ℕ). length (by_rank l s n) + length (keep (ranked_at l s n) x)) e
      ∙ sym (ap length (by-rank-more n) ∙ length-append (by_rank l s n) (keep (ranked_at l s n) (id_order l s)))

  pub rank-start : [] ≡ put_all l s [] (by_rank l s 0)
  unfolding by_rank put_all
  rank-start = refl

  pub rank-next : (n : ℕ) (os xs : List ℕ) → os ≡ id_order l s → xs ≡ put_all l s [] (by_rank l s n) → put_all l s xs (keep (ranked_at l s n) os) ≡ put_all l s [] (by_rank l s (n + 1))
  rank-next n os xs e f =
      ap₂ (λ (x o : List ℕ). put_all l s x (keep (ranked_at l s n) o)) f e
      ∙ sym (ap (put_all l s []) (by-rank-more n) ∙ put-append [] (by_rank l s n) (keep (ranked_at l s n) (id_order l s)))

  pub rank-end : (n : ℕ) → n ≤ l.terms.places → l.terms.places ≤ n → put_all l s [] (by_rank l s n) ≡ entries_of l s
  unfolding entries_of
  rank-end n h g = let e : n ≡ l.terms.places = omega arith in ap (λ (m : ℕ). put_all l s [] (by_rank l s m)) e

  -- those of a list from the i-th on that pass
  module _ (q : ℕ → Bool) (xs : List ℕ) (i k : ℕ) (d : drop i xs ≡ k ∷ drop (i + 1) xs) where
    keep-here : keep q (drop i xs) ≡ keep q (k ∷ []) ++ keep q (drop (i + 1) xs)
    keep-here = ap (keep q) d ∙ keep_append q (k ∷ []) (drop (i + 1) xs)

    pub put_next : (all all' : List ℕ) → all' ≡ put_all l s all (keep q (k ∷ [])) → put_all l s all (keep q (drop i xs)) ≡ put_all l s all' (keep q (drop (i + 1) xs))
    put_next all all' e =
        ap (put_all l s all) keep-here ∙ put-append all (keep q (k ∷ [])) (keep q (drop (i + 1) xs))
        ∙ ap (λ (x : List ℕ). put_all l s x (keep q (drop (i + 1) xs))) (sym e)

    pub room_next : length (keep q (drop i xs)) ≡ length (keep q (k ∷ [])) + length (keep q (drop (i + 1) xs))
    room_next = ap length keep-here ∙ length-append (keep q (k ∷ [])) (keep q (drop (i + 1) xs))

  pub room-end : (q : ℕ → Bool) (xs : List ℕ) (i : ℕ) → drop i xs ≡ [] → length (keep q (drop i xs)) ≡ 0
  unfolding keep
  room-end q xs i e = ap (λ (r : List ℕ). length (keep q r)) e

  pub put-end : (q : ℕ → Bool) (xs all : List ℕ) (i : ℕ) → drop i xs ≡ [] → put_all l s all (keep q (drop i xs)) ≡ all
  unfolding put_all keep
  put-end q xs all i e = ap (λ (r : List ℕ). put_all l s all (keep q r)) e

  pub put_one : (xs : List ℕ) (k : ℕ) {ks : List ℕ} → k ∷ [] ≡ ks → put_entry l s k xs ≡ put_all l s xs ks
  unfolding put_all
  put_one xs k e = ap (put_all l s xs) e

  pub put-none : (xs : List ℕ) {ks : List ℕ} → [] ≡ ks → xs ≡ put_all l s xs ks
  unfolding put_all
  put-none xs e = ap (put_all l s xs) e

  -- the entries once place k is met: with it put among them, if it passes
  module _ (q : ℕ → Bool) (es : Places) (k : ℕ) {b : Bool} (e : b ≡ q k) where
    abbrev pub Met : Places → Type 0
    Met es' = Lists es' (put_all l s es.items (keep q (k ∷ []))) × (length es'.items ≡ length es.items + length (keep q (k ∷ [])))

    pub met-put : {es' r : Places} → b ≡ true → Lists r (put_entry l s k es.items) × (length r.items ≡ length es.items + 1) → es' ≡ r → Met es'
    met-put t h a =
        let f = keep_one q k e t in
        subst Met (sym a) (renamed (put_one es.items k f) h.0, omega (arith, h.1, ap length f))

    pub met-left : {es' : Places} → b ≡ false → PlaceList es.items → es' ≡ es → Met es'
    met-left t h a =
        let f = keep-no q k e t in
        subst Met (sym a) (record { is_list = h; are = put-none es.items f }, omega (arith, ap length f))

  -- one entry
  pub put_first : (k : ℕ) (xs a : List ℕ) {b : Bool} → a ≡ anchor_in (decoded_at l s k) → b ≡ same a beginning → b ≡ true → ins 0 k xs ≡ put_entry l s k xs
  unfolding put_entry put_by
  put_first k xs a e f t = sym (ap (λ (x : List ℕ). cond (same x beginning) (k ∷ xs) (after l s x k xs)) (sym e) ∙ ap (λ (b : Bool). cond b (k ∷ xs) (after l s a k xs)) (sym f ∙ t))

  pub put-after : (k : ℕ) (xs a : List ℕ) {b : Bool} → a ≡ anchor_in (decoded_at l s k) → b ≡ same a beginning → b ≡ false → after l s a k xs ≡ put_entry l s k xs
  unfolding put_entry put_by
  put-after k xs a e f t = sym (ap (λ (x : List ℕ). cond (same x beginning) (k ∷ xs) (after l s x k xs)) (sym e) ∙ ap (λ (b : Bool). cond b (k ∷ xs) (after l s a k xs)) (sym f ∙ t))
