-- Adds, by the test and by the tag, whose length is one. No update is an Add and an Insert; and the bounds of what is read, whatever the bytes are.
use Rattle.std.specs.Prelude.{ℕ, ◌+◌, ◌≤◌, ◌<◌, ◌≡◌, refl, List, true, length}
use Rattle.std.proofs.Common.{zero-le, arith, ◌∙◌, ap, append-nil}
use Rattle.std.proofs.lemmas.Bool.{false≢true}
use Rattle.bytes_order.specs.Member.{concat_map}
use Rattle.bytes_order.specs.CountLaws.{one_if}
use Rattle.update_format.specs.declared.Bounds.{Bounds}
use Rattle.update_format.specs.Update.{tag_length, Operation, Add, Remove, Insert, Delete, BoundedOperation, add, remove, insert, delete}
use Rattle.update_format.specs.Decode.{Decoded, refused, update, decode}
use Rattle.update_format.specs.Laws.{decode-sound}
use Rattle.rules.specs.Settle.{is_insert, tags_of, values_of}
use Rattle.rules.proofs.TableLaws.{add-sized}
use Rattle.update_fields.specs.Fields.{test_of, author_in, is_any_add, tag_in, value_in}

pub →is_any_add : {o : Operation} {t : List ℕ} → o ≡ Add t → is_any_add o ≡ true
unfolding is_any_add
→is_any_add e = ap is_any_add e

pub is_any_add→ : (o : Operation) → is_any_add o ≡ true → (t : List ℕ) × (o ≡ Add t)
unfolding is_any_add
is_any_add→ (Add t) e = (t, refl)
is_any_add→ (Remove t named) e = absurd (false≢true e)
is_any_add→ (Insert a v) e = absurd (false≢true e)
is_any_add→ (Delete i) e = absurd (false≢true e)

-- the tag, as `tag_in` reads it
pub add-tag : {o : Operation} {t : List ℕ} → o ≡ Add t → concat_map (λ (t : List ℕ). t) (tags_of o) ≡ t
unfolding concat_map tags_of
add-tag {t = t} e = ap (λ (p : Operation). concat_map (λ (t : List ℕ). t) (tags_of p)) e ∙ append-nil t

pub add-tag-length : (bounds : Bounds) (b : List ℕ) → test_of is_any_add (decode bounds b) ≡ true → length (tag_in (decode bounds b)) ≡ tag_length
unfolding test_of tag_in
add-tag-length bounds b = step (decode bounds b) refl
  where
    step : (d : Decoded) → decode bounds b ≡ d → test_of is_any_add d ≡ true → length (tag_in d) ≡ tag_length
    step (refused n) q e = absurd (false≢true e)
    step (update u) q e = let a = is_any_add→ u.op e in ap length (add-tag a.1) ∙ add-sized (decode-sound bounds b u q).0.op_bounded a.1

-- no update is both an Add and an Insert
add-or-insert : (o : Operation) → one_if (is_any_add o) + one_if (is_insert o) ≤ 1
unfolding is_any_add is_insert
add-or-insert (Add t) = omega arith
add-or-insert (Remove t named) = omega arith
add-or-insert (Insert a v) = omega arith
add-or-insert (Delete i) = omega arith

pub one-operation : (d : Decoded) → one_if (test_of is_any_add d) + one_if (test_of is_insert d) ≤ 1
unfolding test_of
one-operation (refused n) = omega arith
one-operation (update u) = add-or-insert u.op

-- the author, the tag and the value are within their bounds
pub author_small : (bounds : Bounds) → 0 < bounds.authors → (b : List ℕ) → author_in (decode bounds b) < bounds.authors
unfolding author_in
author_small bounds some b = go (decode bounds b) refl
  where
    go : (d : Decoded) → decode bounds b ≡ d → author_in d < bounds.authors
    go (refused n) e = some
    go (update u) e = (decode-sound bounds b u e).0.author_small

joined-tags : {o : Operation} → BoundedOperation o → length (concat_map (λ (t : List ℕ). t) (tags_of o)) ≤ tag_length
unfolding concat_map tags_of
joined-tags (add {t = t} h) = omega (arith, ap length (append-nil t))
joined-tags (remove h is) = zero-le
joined-tags (insert h k) = zero-le
joined-tags (delete h) = zero-le

joined-values : {o : Operation} → BoundedOperation o → length (concat_map (λ (v : List ℕ). v) (values_of o)) ≤ tag_length
unfolding concat_map values_of
joined-values (add h) = zero-le
joined-values (remove h is) = zero-le
joined-values (insert {v = v} h k) = omega (arith, ap length (append-nil v))
joined-values (delete h) = zero-le

pub tag_small : (bounds : Bounds) (b : List ℕ) → length (tag_in (decode bounds b)) ≤ tag_length
unfolding tag_in
tag_small bounds b = go (decode bounds b) refl
  where
    go : (d : Decoded) → decode bounds b ≡ d → length (tag_in d) ≤ tag_length
    go (refused n) e = zero-le
    go (update u) e = joined-tags (decode-sound bounds b u e).0.op_bounded

pub value-small : (bounds : Bounds) (b : List ℕ) → length (value_in (decode bounds b)) ≤ tag_length
unfolding value_in
value-small bounds b = go (decode bounds b) refl
  where
    go : (d : Decoded) → decode bounds b ≡ d → length (value_in d) ≤ tag_length
    go (refused n) e = zero-le
    go (update u) e = joined-values (decode-sound bounds b u e).0.op_bounded
