-- The layout and the rows agree: what is accepted is a bounded update laid out, and every bounded update laid out is accepted. In order: what the bytes satisfy that no row
-- applies to (`Layout`); the operation and the length by the kind byte; from such bytes to a bounded update and back (`bounded-back`, `encode-back`); from an update to its bytes,
-- their length, the rows and back (`encode-length`, `encode-within`, `encoded-back`). Main laws, at the end: `decode-sound`, `decode-complete`, `encode_injective`,
-- `well-formed-decoded`; and what narrower bounds accept, wider ones accept as the same update (`decode-wider`).
use Prim.Native.Nat.{ℕ, zero, suc, ◌+◌, ◌*◌, ◌≤◌, ◌<◌}
use Rattle.std.specs.Prelude.{◌≡◌, ◌↔◌, ◌⊎◌, true, false, ◌&&◌, ◌||◌, not, leb, eqb}
use Rattle.std.proofs.Math.Path.{refl, ap, ap₂}
use Rattle.std.proofs.Common.{sym, ◌∙◌, inl, inr, ⊎_elim, le_trans, drop_at, get_or-append-add}
use mathlib.Core.List.{List, [], ◌∷◌, ◌++◌, append_assoc, append-nil}
use native.Mathlib.Omega.{arith}
use borrow.Author.Tests.{ltb-false, leb-false, eqb-true, not-false, le-ltb, lt-leb, eq-eqb, ne_eqb}
use Rattle.std.proofs.Math.ListN.{length, get_or, take, drop, length-append}
use Rattle.std.proofs.Math.Seq.{take_all, take_at, get_or_at}
use Rattle.std.proofs.Math.Dec.{ltb}
use Rattle.bytes_order.specs.Order.{ascending}
use Rattle.bytes_order.specs.BoolLaws.{or-false→, and-true→}
use Rattle.update_format.specs.declared.Bounds.{Bounds}
use Rattle.update_format.specs.Update.{document_bounds, max_named, id_length, tag_length, min_length, max_length, Id, Operation, Add, Remove, Insert, Delete, Update, encode, encode_operation, Ids, BoundedOperation, add, remove, insert, delete, Bounded, WellFormed}
use Rattle.update_format.specs.Decode.{slice, ids_at, author_of, count_of, first_predecessor, kind_at, kind_of, body_at, named_count_at, named_count_of, length_of, named_of, row2, row3, row4, row5, row6, row7, row8, row9, operation_of, update_of, update, decode}
use Rattle.update_format.specs.Slices.{joined, slice-length, slice-rest, slice_all, byte-rest, slice-shift, ids-length, ids-joined, ids_sized, ids-shift, joined_length, ids-back}
use Rattle.update_format.specs.Rows.{rows, applies, update-none}

-- what an accepted update's bytes satisfy
pub record Layout (bounds : Bounds) (b : List ℕ) : Type 0 where
  pub long : min_length ≤ length b
  pub short : length b ≤ max_length bounds
  pub version : get_or b 0 0 ≡ 1
  pub author : author_of b < bounds.authors
  pub count : count_of b ≤ bounds.predecessors
  pub kind_inside : kind_at b < length b
  pub kind_least : 1 ≤ kind_of b
  pub kind_most : kind_of b ≤ 4
  pub named : kind_of b ≡ 2 → (named_count_at b < length b) × (named_count_of b ≤ max_named)
  pub whole : length b ≡ length_of b
  pub preds_ascend : ascending (ids_at b first_predecessor (count_of b)) ≡ true
  pub named_ascend : ascending (named_of b) ≡ true

module _ (bounds : Bounds) (b : List ℕ) (none : (k : ℕ) → applies bounds k b ≡ false) where
  length-test : (min_length ≤ length b) × (length b ≤ max_length bounds)
  unfolding applies rows row2
  length-test =
      let e = or-false→ (ltb (length b) min_length) (ltb (max_length bounds) (length b)) (none 2) in
      (ltb-false _ _ e.0, ltb-false _ _ e.1)

  kind-test : (1 ≤ kind_of b) × (kind_of b ≤ 4)
  unfolding applies rows row7
  kind-test =
      let e = or-false→ (ltb (kind_of b) 1) (ltb 4 (kind_of b)) (none 7) in
      (ltb-false _ _ e.0, ltb-false _ _ e.1)

  layout-test :
      (eqb (kind_of b) 2 && (leb (length b) (named_count_at b) || ltb max_named (named_count_of b)) ≡ false) × (not (eqb (length b) (length_of b)) ≡ false)
  unfolding applies rows row8
  layout-test =
      or-false→ (eqb (kind_of b) 2 && (leb (length b) (named_count_at b) || ltb max_named (named_count_of b))) (not (eqb (length b) (length_of b))) (none 8)

  named-test : kind_of b ≡ 2 → (named_count_at b < length b) × (named_count_of b ≤ max_named)
  named-test k =
      let e = or-false→ (leb (length b) (named_count_at b)) (ltb max_named (named_count_of b)) (rw (eq-eqb _ _ k) at layout-test).0 in
      (leb-false _ _ e.0, ltb-false _ _ e.1)

  order-test : (ascending (ids_at b first_predecessor (count_of b)) ≡ true) × (ascending (named_of b) ≡ true)
  unfolding applies rows row9
  order-test = and-true→ (ascending (ids_at b first_predecessor (count_of b))) (ascending (named_of b)) (not-false _ (none 9))

  pub layout : Layout bounds b
  unfolding applies rows row3 row4 row5 row6
  layout =
      record {
        long = length-test.0;
        short = length-test.1;
        version = eqb-true _ _ (not-false _ (none 3));
        author = leb-false _ _ (none 4);
        count = ltb-false _ _ (none 5);
        kind_inside = leb-false _ _ (none 6);
        kind_least = kind-test.0;
        kind_most = kind-test.1;
        named = named-test;
        whole = eqb-true _ _ (not-false _ layout-test.1);
        preds_ascend = order-test.0;
        named_ascend = order-test.1;
      }

-- the operation and the length by the kind byte
module _ (b : List ℕ) where
  pub add-op : kind_of b ≡ 1 → operation_of b ≡ Add (slice b (body_at b) tag_length)
  unfolding operation_of
  add-op k = rw k

  pub remove-op :
      kind_of b ≡ 2 → operation_of b ≡ Remove (slice b (body_at b) tag_length) (ids_at b (named_count_at b + 1) (named_count_of b))
  unfolding operation_of named_of
  remove-op k = rw k

  pub insert-op : kind_of b ≡ 3 → operation_of b ≡ Insert (slice b (body_at b) id_length) (slice b (body_at b + id_length) tag_length)
  unfolding operation_of
  insert-op k = rw k

  pub delete-op : kind_of b ≡ 4 → operation_of b ≡ Delete (slice b (body_at b) id_length)
  unfolding operation_of
  delete-op k = rw k

  pub remove-named : kind_of b ≡ 2 → named_of b ≡ ids_at b (named_count_at b + 1) (named_count_of b)
  unfolding named_of
  remove-named k = rw k

  pub other-named : (kind_of b ≡ 2 → ⊥) → named_of b ≡ []
  unfolding named_of
  other-named k = rw (ne_eqb _ _ k)

  pub add-length : kind_of b ≡ 1 → length_of b ≡ body_at b + tag_length
  unfolding length_of
  add-length k = rw k

  pub remove-length : kind_of b ≡ 2 → length_of b ≡ named_count_at b + 1 + id_length * named_count_of b
  unfolding length_of
  remove-length k = rw k

  pub insert-length : kind_of b ≡ 3 → length_of b ≡ body_at b + id_length + tag_length
  unfolding length_of
  insert-length k = rw k

  pub delete-length : kind_of b ≡ 4 → length_of b ≡ body_at b + id_length
  unfolding length_of
  delete-length k = rw k

pub kind-cases : (k : ℕ) → 1 ≤ k → k ≤ 4 → (k ≡ 1) ⊎ ((k ≡ 2) ⊎ ((k ≡ 3) ⊎ (k ≡ 4)))
kind-cases zero h l = absurd (omega arith)
kind-cases (suc zero) h l = inl refl
kind-cases (suc (suc zero)) h l = inr (inl refl)
kind-cases (suc (suc (suc zero))) h l = inr (inr (inl refl))
kind-cases (suc (suc (suc (suc k)))) h l = inr (inr (inr (omega arith)))

header : (b : List ℕ) → 3 ≤ length b → get_or b 0 0 ∷ get_or b 1 0 ∷ get_or b 2 0 ∷ drop 3 b ≡ b
header [] h = absurd (omega arith)
header (x ∷ []) h = absurd (omega arith)
header (x ∷ y ∷ []) h = absurd (omega arith)
header (x ∷ y ∷ z ∷ b) h = refl

-- What is accepted is bounded, and its layout gives the bytes back.
module _ {bounds : Bounds} (b : List ℕ) (l : Layout bounds b) where
  record Back : Type 0 where
    bounded-op : BoundedOperation (operation_of b)
    laid-op : encode_operation (operation_of b) ≡ drop (kind_at b) b

  back-add : kind_of b ≡ 1 → Back
  unfolding encode_operation
  back-add k =
      let n : length b ≡ body_at b + tag_length = l.whole ∙ add-length b k in
      record {
        bounded-op = rw (add-op b k) (add (slice-length b (body_at b) tag_length (omega arith)));
        laid-op = rw (add-op b k) (ap₂ (λ (x : ℕ) (r : List ℕ). x ∷ r) (sym k) (slice_all b (body_at b) tag_length n) ∙ byte-rest b (kind_at b) l.kind_inside);
      }

  back-delete : kind_of b ≡ 4 → Back
  unfolding encode_operation
  back-delete k =
      let n : length b ≡ body_at b + id_length = l.whole ∙ delete-length b k in
      record {
        bounded-op = rw (delete-op b k) (delete (slice-length b (body_at b) id_length (omega arith)));
        laid-op = rw (delete-op b k) (ap₂ (λ (x : ℕ) (r : List ℕ). x ∷ r) (sym k) (slice_all b (body_at b) id_length n) ∙ byte-rest b (kind_at b) l.kind_inside);
      }

  back-insert : kind_of b ≡ 3 → Back
  unfolding encode_operation
  back-insert k =
      let n : length b ≡ body_at b + id_length + tag_length = l.whole ∙ insert-length b k in
      record {
        bounded-op = rw (insert-op b k) (insert (slice-length b (body_at b) id_length (omega arith)) (slice-length b (body_at b + id_length) tag_length (omega arith)));
        laid-op =
            rw (insert-op b k)
            (ap₂ (λ (x : ℕ) (r : List ℕ). x ∷ (slice b (body_at b) id_length ++ r)) (sym k) (slice_all b (body_at b + id_length) tag_length n)
            ∙ ap (λ (r : List ℕ). kind_of b ∷ r) (slice-rest b (body_at b) id_length)
            ∙ byte-rest b (kind_at b) l.kind_inside);
      }

  back-remove : kind_of b ≡ 2 → Back
  unfolding encode_operation
  back-remove k =
      let at = named_count_at b + 1 in
      let m = named_count_of b in
      let n : length b ≡ at + id_length * m = l.whole ∙ remove-length b k in
      let few = l.named k in
      let e₁ : length (ids_at b at m) ≡ m = ids-length b at m in
      let e₂ : joined (ids_at b at m) ≡ drop at b = ids-joined b at m ∙ slice_all b at (id_length * m) n in
      let e₃ : m ∷ drop at b ≡ drop (named_count_at b) b = byte-rest b (named_count_at b) few.0 in
      let e₄ : slice b (body_at b) tag_length ++ drop (named_count_at b) b ≡ drop (body_at b) b = slice-rest b (body_at b) tag_length in
      let e₅ : kind_of b ∷ drop (body_at b) b ≡ drop (kind_at b) b = byte-rest b (kind_at b) l.kind_inside in
      let is : Ids max_named (ids_at b at m) =
      record {
        few = omega arith;
        sized = ids_sized b at m (omega arith);
        ordered = ap ascending (sym (remove-named b k)) ∙ l.named_ascend;
      } in
      record {
        bounded-op = rw (remove-op b k) (remove (slice-length b (body_at b) tag_length (omega arith)) is);
        laid-op = rw (remove-op b k) (cc);
      }

  back : Back
  back =
      ⊎_elim back-add (⊎_elim back-remove (⊎_elim back-insert back-delete)) (kind-cases (kind_of b) l.kind_least l.kind_most)

  pub bounded-back : Bounded bounds (update_of b)
  unfolding update_of
  bounded-back =
      record {
        author_small = l.author;
        preds_bounded =
            record {
              few = omega (arith, ids-length b first_predecessor (count_of b), l.count);
              sized = ids_sized b first_predecessor (count_of b) (omega (arith, l.kind_inside));
              ordered = l.preds_ascend;
            };
        op_bounded = back.bounded-op;
      }

  pub encode-back : encode (update_of b) ≡ b
  unfolding encode update_of
  encode-back =
      let at = first_predecessor in
      let n = count_of b in
      let e₁ : length (ids_at b at n) ≡ n = ids-length b at n in
      let e₂ : joined (ids_at b at n) ≡ slice b at (id_length * n) = ids-joined b at n in
      let e₃ : slice b at (id_length * n) ++ drop (kind_at b) b ≡ drop at b = slice-rest b at (id_length * n) in
      cc (back.laid-op, l.version, header b (omega (arith, l.long)))

-- What was laid out is accepted and read back.
module _ (p q : List ℕ) (k : ℕ) (e : length p ≡ k) (i : ℕ) where
  byte-after : get_or (p ++ q) (k + i) 0 ≡ get_or q i 0
  byte-after = rw (← e) (get_or-append-add p q i 0)

  slice-after : (n : ℕ) → slice (p ++ q) (k + i) n ≡ slice q i n
  slice-after n = rw (← e) (slice-shift p q i n)

  ids-after : (n : ℕ) → ids_at (p ++ q) (k + i) n ≡ ids_at q i n
  ids-after n = rw (← e) (ids-shift p q i n)

-- "Lengths are 20 + 32n, 21 + 32n + 32m, 52 + 32n and 36 + 32n"
abbrev pub layout_length : ℕ → Operation → ℕ
layout_length n (Add t) = 20 + id_length * n
layout_length n (Remove t named) = 21 + id_length * n + id_length * length named
layout_length n (Insert a v) = 52 + id_length * n
layout_length n (Delete i) = 36 + id_length * n

op-length : (n : ℕ) (op : Operation) → BoundedOperation op → 3 + id_length * n + length (encode_operation op) ≡ layout_length n op
unfolding encode_operation
op-length n (Add t) (add h) = omega arith
op-length n (Remove t named) (remove h is) = omega (arith, length-append t (length named ∷ joined named), joined_length named is.sized)
op-length n (Insert a v) (insert h g) = omega (arith, length-append a v)
op-length n (Delete i) (delete h) = omega arith

pub encode-length : {bounds : Bounds} (u : Update) → Bounded bounds u → length (encode u) ≡ layout_length (length u.preds) u.op
unfolding encode
encode-length u h =
    omega (arith, length-append (joined u.preds) (encode_operation u.op), joined_length u.preds h.preds_bounded.sized, op-length (length u.preds) u.op h.op_bounded)

op-some : (op : Operation) → 0 < length (encode_operation op)
unfolding encode_operation
op-some (Add t) = omega arith
op-some (Remove t named) = omega arith
op-some (Insert a v) = omega arith
op-some (Delete i) = omega arith

lengths-within : (bounds : Bounds) (n : ℕ) (op : Operation) → n ≤ bounds.predecessors → BoundedOperation op → (min_length ≤ layout_length n op) × (layout_length n op ≤ max_length bounds)
lengths-within bounds n (Add t) l (add h) = omega arith
lengths-within bounds n (Remove t named) l (remove h is) = omega (arith, is.few)
lengths-within bounds n (Insert a v) l (insert h g) = omega arith
lengths-within bounds n (Delete i) l (delete h) = omega arith

-- ".. so from 20 to 533"
pub encode-within : {bounds : Bounds} (u : Update) → Bounded bounds u → (min_length ≤ length (encode u)) × (length (encode u) ≤ max_length bounds)
encode-within {bounds} u h = rw (encode-length u h) (lengths-within bounds (length u.preds) u.op h.preds_bounded.few h.op_bounded)

-- the rows that speak of the operation do not apply, and it is read back
record LayoutFits (b : List ℕ) (op : Operation) : Type 0 where
  least : 1 ≤ kind_of b
  most : kind_of b ≤ 4
  laid : row8 b ≡ false
  ordered : ascending (named_of b) ≡ true
  back_op : operation_of b ≡ op

module _ (b : List ℕ) where
  pub row8-other : (kind_of b ≡ 2 → ⊥) → row8 b ≡ not (eqb (length b) (length_of b))
  unfolding row8
  row8-other k = rw (ne_eqb _ _ k)

  pub row8-remove : kind_of b ≡ 2 → named_count_at b < length b → named_count_of b ≤ max_named → row8 b ≡ not (eqb (length b) (length_of b))
  unfolding row8
  row8-remove k c m = rw (eq-eqb _ _ k, lt-leb _ _ c, le-ltb _ _ m)

  right-length : length b ≡ length_of b → not (eqb (length b) (length_of b)) ≡ false
  right-length n = ap not (eq-eqb _ _ n)

  none_named : (kind_of b ≡ 2 → ⊥) → ascending (named_of b) ≡ true
  unfolding ascending
  none_named k = rw (other-named b k)

-- the operation's bytes follow a head p as long as its count says
module _ (b p q : List ℕ) (e : b ≡ p ++ q) (k : length p ≡ kind_at b) where
  byte-at : (i : ℕ) → get_or b (kind_at b + i) 0 ≡ get_or q i 0
  byte-at i = ap (λ (r : List ℕ). get_or r (kind_at b + i) 0) e ∙ byte-after p q (kind_at b) k i

  slice_at : (i n : ℕ) → slice b (kind_at b + i) n ≡ slice q i n
  slice_at i n = ap (λ (r : List ℕ). slice r (kind_at b + i) n) e ∙ slice-after p q (kind_at b) k i n

  ids_at_lem : (i n : ℕ) → ids_at b (kind_at b + i) n ≡ ids_at q i n
  ids_at_lem i n = ap (λ (r : List ℕ). ids_at r (kind_at b + i) n) e ∙ ids-after p q (kind_at b) k i n

  all-length : length b ≡ kind_at b + length q
  all-length = ap length e ∙ length-append p q ∙ ap (λ (n : ℕ). n + length q) k

  kind-at : kind_of b ≡ get_or q 0 0
  kind-at = let z : kind_at b ≡ kind_at b + 0 = omega arith in ap (λ (n : ℕ). get_or b n 0) z ∙ byte-at 0

module _ (b p : List ℕ) where
  fits-add : (t : List ℕ) → length t ≡ tag_length → b ≡ p ++ encode_operation (Add t) → length p ≡ kind_at b → LayoutFits b (Add t)
  unfolding encode_operation
  fits-add t h e k =
      let kind : kind_of b ≡ 1 = kind-at b p (1 ∷ t) e k in
      let other : kind_of b ≡ 2 → ⊥ = λ f. omega arith in
      record {
        least = omega arith;
        most = omega arith;
        laid = row8-other b other ∙ right-length b (omega (arith, all-length b p (1 ∷ t) e k, add-length b kind));
        ordered = none_named b other;
        back_op = add-op b kind ∙ ap Add (slice_at b p (1 ∷ t) e k 1 tag_length ∙ take_all tag_length t (omega arith));
      }

  fits-insert : (a v : List ℕ) → length a ≡ id_length → length v ≡ tag_length → b ≡ p ++ encode_operation (Insert a v) → length p ≡ kind_at b → LayoutFits b (Insert a v)
  unfolding encode_operation
  fits-insert a v h g e k =
      let q : List ℕ = 3 ∷ (a ++ v) in
      let kind : kind_of b ≡ 3 = kind-at b p q e k in
      let other : kind_of b ≡ 2 → ⊥ = λ f. omega arith in
      let at : body_at b + id_length ≡ kind_at b + suc id_length = omega arith in
      record {
        least = omega arith;
        most = omega arith;
        laid = row8-other b other ∙ right-length b (omega (arith, all-length b p q e k, insert-length b kind, length-append a v));
        ordered = none_named b other;
        back_op =
            insert-op b kind
            ∙ ap₂ Insert
            (slice_at b p q e k 1 id_length ∙ take_at a v id_length h)
            (ap (λ (n : ℕ). slice b n tag_length) at
            ∙ slice_at b p q e k (suc id_length) tag_length
            ∙ ap (λ (r : List ℕ). take tag_length r) (drop_at a v id_length h)
            ∙ take_all tag_length v (omega arith));
      }

  fits-delete : (i : List ℕ) → length i ≡ id_length → b ≡ p ++ encode_operation (Delete i) → length p ≡ kind_at b → LayoutFits b (Delete i)
  unfolding encode_operation
  fits-delete i h e k =
      let kind : kind_of b ≡ 4 = kind-at b p (4 ∷ i) e k in
      let other : kind_of b ≡ 2 → ⊥ = λ f. omega arith in
      record {
        least = omega arith;
        most = omega arith;
        laid = row8-other b other ∙ right-length b (omega (arith, all-length b p (4 ∷ i) e k, delete-length b kind));
        ordered = none_named b other;
        back_op = delete-op b kind ∙ ap Delete (slice_at b p (4 ∷ i) e k 1 id_length ∙ take_all id_length i (omega arith));
      }

  fits-remove : (t : List ℕ) (named : List Id) → length t ≡ tag_length → Ids max_named named → b ≡ p ++ encode_operation (Remove t named) → length p ≡ kind_at b → LayoutFits b (Remove t named)
  unfolding encode_operation
  fits-remove t named h is e k =
      let m = length named in
      let q : List ℕ = 2 ∷ (t ++ (m ∷ joined named)) in
      let front : List ℕ = 2 ∷ (t ++ (m ∷ [])) in
      let kind : kind_of b ≡ 2 = kind-at b p q e k in
      let at₁ : named_count_at b ≡ kind_at b + suc tag_length = omega arith in
      let at₂ : named_count_at b + 1 ≡ kind_at b + suc (suc tag_length) = omega arith in
      let count : named_count_of b ≡ m =
      ap (λ (n : ℕ). get_or b n 0) at₁ ∙ byte-at b p q e k (suc tag_length) ∙ get_or_at t m (joined named) 0 tag_length h in
      let split : q ≡ front ++ (joined named ++ []) = simp (append_assoc, append-nil) in
      let sized : length front ≡ suc (suc tag_length) = omega (arith, length-append t (m ∷ [])) in
      let ids : ids_at b (named_count_at b + 1) (named_count_of b) ≡ named =
      ap₂ (λ (i n : ℕ). ids_at b i n) at₂ count
      ∙ ids_at_lem b p q e k (suc (suc tag_length)) m
      ∙ ap (λ (r : List ℕ). ids_at r (suc (suc tag_length)) m) split
      ∙ ids-after front (joined named ++ []) (suc (suc tag_length)) sized 0 m
      ∙ ids-back named [] is.sized in
      let total : length b ≡ kind_at b + length q = all-length b p q e k in
      let tail : length (t ++ (m ∷ joined named)) ≡ length t + suc (length (joined named)) = length-append t (m ∷ joined named) in
      let all : length (joined named) ≡ id_length * m = joined_length named is.sized in
      record {
        least = omega arith;
        most = omega arith;
        laid = row8-remove b kind (omega arith) (omega (arith, is.few)) ∙ right-length b (omega (arith, remove-length b kind));
        ordered = ap ascending (remove-named b kind ∙ ids) ∙ is.ordered;
        back_op = remove-op b kind ∙ ap₂ Remove (slice_at b p q e k 1 tag_length ∙ take_at t (m ∷ joined named) tag_length h) ids;
      }

  fits : (op : Operation) → BoundedOperation op → b ≡ p ++ encode_operation op → length p ≡ kind_at b → LayoutFits b op
  fits (Add t) (add h) e k = fits-add t h e k
  fits (Remove t named) (remove h is) e k = fits-remove t named h is e k
  fits (Insert a v) (insert h g) e k = fits-insert a v h g e k
  fits (Delete i) (delete h) e k = fits-delete i h e k

module _ {bounds : Bounds} (u : Update) (h : Bounded bounds u) where
  fits_whole : LayoutFits (encode u) u.op
  unfolding encode
  fits_whole =
      fits (encode u) (1 ∷ u.author ∷ length u.preds ∷ joined u.preds) u.op h.op_bounded refl
      (omega (arith, joined_length u.preds h.preds_bounded.sized))

  preds-back : ids_at (encode u) first_predecessor (length u.preds) ≡ u.preds
  unfolding encode
  preds-back =
      ids-shift (1 ∷ u.author ∷ length u.preds ∷ []) (joined u.preds ++ encode_operation u.op) 0 (length u.preds)
      ∙ ids-back u.preds (encode_operation u.op) h.preds_bounded.sized

  pub encoded-back : update_of (encode u) ≡ u
  unfolding update_of encode
  encoded-back = λ i. record { author = u.author; preds = preds-back i; op = fits_whole.back_op i }

  kind-within : kind_at (encode u) < length (encode u)
  unfolding encode
  kind-within =
      omega (arith, length-append (joined u.preds) (encode_operation u.op), joined_length u.preds h.preds_bounded.sized, op-some u.op)

  length-row : row2 bounds (encode u) ≡ false
  unfolding row2
  length-row = rw (le-ltb _ _ (encode-within u h).0, le-ltb _ _ (encode-within u h).1)

  header-rows : (row3 (encode u) ≡ false) × (row4 bounds (encode u) ≡ false) × (row5 bounds (encode u) ≡ false)
  unfolding row3 row4 row5 encode
  header-rows = (refl, lt-leb _ _ h.author_small, le-ltb _ _ h.preds_bounded.few)

  kind-rows : (row6 (encode u) ≡ false) × (row7 (encode u) ≡ false)
  unfolding row6 row7
  kind-rows = (lt-leb _ _ kind-within, rw (le-ltb _ _ fits_whole.least, le-ltb _ _ fits_whole.most))

  preds-ordered : ascending (ids_at (encode u) first_predecessor (count_of (encode u))) ≡ true
  unfolding encode
  preds-ordered = ap ascending preds-back ∙ h.preds_bounded.ordered

  order_row : row9 (encode u) ≡ false
  unfolding row9
  order_row = rw (preds-ordered, fits_whole.ordered)

  pub decode-complete : decode bounds (encode u) ≡ update u
  unfolding decode
  decode-complete =
      rw
      (length-row, header-rows.0, header-rows.1, header-rows.2, kind-rows.0, kind-rows.1, fits_whole.laid, order_row)
      (ap update encoded-back)

pub decode-sound : (bounds : Bounds) (b : List ℕ) (u : Update) → decode bounds b ≡ update u → Bounded bounds u × (encode u ≡ b)
decode-sound bounds b u h =
    let n = update-none bounds b u h in
    let l = layout bounds b n.0 in
    (rw (← n.1) (bounded-back b l), rw (← n.1) (encode-back b l))

-- what is accepted is laid out as the tests say
pub accepted : (bounds : Bounds) (b : List ℕ) (u : Update) → decode bounds b ≡ update u → Layout bounds b
accepted bounds b u h = layout bounds b (update-none bounds b u h).0

pub encode_injective : {bounds : Bounds} (u v : Update) → Bounded bounds u → Bounded bounds v → encode u ≡ encode v → u ≡ v
encode_injective u v h g e = cc (decode-complete u h, decode-complete v g)

-- "Bytes so laid out, and no others, are a well-formed update": those that are decoded
pub well-formed-decoded : (bounds : Bounds) (b : List ℕ) → WellFormed bounds b ↔ ((u : Update) × (decode bounds b ≡ update u))
well-formed-decoded bounds b = (
  λ w. (w.value, ap (decode bounds) (sym w.laid_out) ∙ decode-complete w.value w.bounded),
  λ d. let s = decode-sound bounds b d.0 d.1 in record { value = d.0; bounded = s.0; laid_out = s.1 },
)

-- document 01's longest update: "so from 20 to 533"
pub document-longest : max_length document_bounds ≡ 533
document-longest = refl

-- Bounds within others: those that document 02, E6, allows are document 01's or wider, so that what was well formed stays so.
pub record Wider (bounds wider : Bounds) : Type 0 where
  pub more_authors : bounds.authors ≤ wider.authors
  pub more_predecessors : bounds.predecessors ≤ wider.predecessors

pub bounded-wider : {bounds wider : Bounds} → Wider bounds wider → {u : Update} → Bounded bounds u → Bounded wider u
bounded-wider w h =
    record {
      author_small = le_trans h.author_small w.more_authors;
      preds_bounded =
          record {
            few = le_trans h.preds_bounded.few w.more_predecessors;
            sized = h.preds_bounded.sized;
            ordered = h.preds_bounded.ordered;
          };
      op_bounded = h.op_bounded;
    }

-- what is accepted at some bounds is accepted at wider ones, as the same update
pub decode-wider : {bounds wider : Bounds} → Wider bounds wider → (b : List ℕ) (u : Update) → decode bounds b ≡ update u → decode wider b ≡ update u
decode-wider {bounds} {wider} w b u e =
    let s = decode-sound bounds b u e in
    ap (decode wider) (sym s.1) ∙ decode-complete u (bounded-wider w s.0)
