-- What is packed is read back; and of an update that was read the whole of what reading gave is: nothing has to be read from its bytes again.
use Rattle.std.specs.Prelude.{ℕ, suc, ◌+◌, ◌*◌, ◌≤◌, ◌≡◌, refl, List}
use Rattle.std.proofs.Common.{arith, sym, ap, ap₂, subst, ◌∙◌, ⊎_elim}
use borrow.Author.Tests.{ne_eqb}
use Rattle.update_format.specs.declared.Bounds.{Bounds}
use Rattle.update_format.specs.Update.{id_length, tag_length, max_named, max_count, Update}
use Rattle.update_format.specs.Decode.{author_of, count_of, first_predecessor, kind_of, body_at, named_count_at, named_count_of, update_of, update, decode}
use Rattle.update_format.specs.Rows.{update-none}
use Rattle.update_format.specs.ParseResult.{offsets_of, parsed_of, value_of, value-back}
use Rattle.update_format.specs.Laws.{Layout, kind-cases, accepted}
use Rattle.update_format.specs.declared.Operation.{Operation}
use Rattle.update_format.specs.declared.Operation.TheVariants.{Add, Remove, Insert, Delete}
use Rattle.update_format.specs.declared.Parsed.{Parsed}
use Rattle.update_facts.specs.Facts.{kind_in, named_in, packed, author_by, kind_by, predecessors_by, named_by, body_by, operation_by, unpacked, Packable}

kind-byte : (o : Operation) → kind_in o ≤ 4
kind-byte (Add tag) = omega arith
kind-byte (Remove tag named count) = omega arith
kind-byte (Insert anchor value) = omega arith
kind-byte (Delete deleted) = omega arith

-- each fact is read back
module _ (p : Parsed) (h : Packable p) where
  pub author-back : author_by (packed p) ≡ p.author
  unfolding packed
  author-back = omega (arith, kind-byte p.operation, h.author_byte)

  pub kind-back : kind_by (packed p) ≡ kind_in p.operation
  unfolding packed
  kind-back = omega (arith, kind-byte p.operation, h.author_byte)

  pub predecessors-back : predecessors_by (packed p) ≡ p.count
  unfolding packed
  predecessors-back = omega (arith, kind-byte p.operation, h.author_byte, h.count_byte)

  pub named_back : named_by (packed p) ≡ named_in p.operation
  unfolding packed
  named_back = omega (arith, kind-byte p.operation, h.author_byte, h.count_byte, h.named_byte)

-- the offsets by the kind: of a word, and of bytes
module _ (w : ℕ) where
  pub by-add : kind_by w ≡ 1 → operation_by w ≡ Add (body_by w)
  unfolding operation_by
  by-add k = rw k

  pub by-remove : kind_by w ≡ 2 → operation_by w ≡ Remove (body_by w) (body_by w + tag_length + 1) (named_by w)
  unfolding operation_by
  by-remove k = rw k

  pub by-insert : kind_by w ≡ 3 → operation_by w ≡ Insert (body_by w) (body_by w + id_length)
  unfolding operation_by
  by-insert k = rw k

  pub by-other : (kind_by w ≡ 1 → ⊥) → (kind_by w ≡ 2 → ⊥) → (kind_by w ≡ 3 → ⊥) → operation_by w ≡ Delete (body_by w)
  unfolding operation_by
  by-other a r i = rw (ne_eqb _ _ a, ne_eqb _ _ r, ne_eqb _ _ i)

module _ (b : List ℕ) where
  of-add : kind_of b ≡ 1 → offsets_of b ≡ Add (body_at b)
  unfolding offsets_of
  of-add k = rw k

  of-remove : kind_of b ≡ 2 → offsets_of b ≡ Remove (body_at b) (named_count_at b + 1) (named_count_of b)
  unfolding offsets_of
  of-remove k = rw k

  of-insert : kind_of b ≡ 3 → offsets_of b ≡ Insert (body_at b) (body_at b + id_length)
  unfolding offsets_of
  of-insert k = rw k

  of-delete : kind_of b ≡ 4 → offsets_of b ≡ Delete (body_at b)
  unfolding offsets_of
  of-delete k = rw k

-- bytes whose kind is one of the four
module _ (b : List ℕ) (least : 1 ≤ kind_of b) (most : kind_of b ≤ 4) (h : Packable (parsed_of b)) where
  abbrev facts : ℕ
  facts = packed (parsed_of b)

  author-is : author_by facts ≡ author_of b
  unfolding parsed_of
  author-is = author-back (parsed_of b) h

  count-is : predecessors_by facts ≡ count_of b
  unfolding parsed_of
  count-is = predecessors-back (parsed_of b) h

  kind-is : kind_by facts ≡ kind_in (offsets_of b)
  unfolding parsed_of
  kind-is = kind-back (parsed_of b) h

  named-is : named_by facts ≡ named_in (offsets_of b)
  unfolding parsed_of
  named-is = named_back (parsed_of b) h

  body_is : body_by facts ≡ body_at b
  body_is = ap (λ (n : ℕ). first_predecessor + id_length * n + 1) count-is

  operation-is : operation_by facts ≡ offsets_of b
  operation-is =
      ⊎_elim
      (λ (e : kind_of b ≡ 1).
      let o = of-add b e in
      by-add facts (kind-is ∙ ap kind_in o) ∙ ap Add body_is ∙ sym o)
      (⊎_elim
      (λ (e : kind_of b ≡ 2).
      let o = of-remove b e in
      by-remove facts (kind-is ∙ ap kind_in o)
      ∙ ap₂ (λ (at n : ℕ). Remove at (at + tag_length + 1) n) body_is (named-is ∙ ap named_in o)
      ∙ sym o)
      (⊎_elim
      (λ (e : kind_of b ≡ 3).
      let o = of-insert b e in
      by-insert facts (kind-is ∙ ap kind_in o) ∙ ap (λ (at : ℕ). Insert at (at + id_length)) body_is ∙ sym o)
      (λ (e : kind_of b ≡ 4).
      let o = of-delete b e in
      let k : kind_by facts ≡ 4 = kind-is ∙ ap kind_in o in
      by-other facts (λ n. omega (arith, k, n)) (λ n. omega (arith, k, n)) (λ n. omega (arith, k, n)) ∙ ap Delete body_is ∙ sym o)))
      (kind-cases (kind_of b) least most)

  -- what reading gave
  pub parsed-back : unpacked (packed (parsed_of b)) ≡ parsed_of b
  unfolding unpacked parsed_of
  parsed-back = λ i. record { author = author-is i; count = count-is i; operation = operation-is i }

  -- the update that the bytes are
  pub value-by-facts : value_of b (unpacked (packed (parsed_of b))) ≡ update_of b
  value-by-facts = ap (value_of b) parsed-back ∙ value-back b

-- bounds of which each number is a byte
pub record ByteBounds (bounds : Bounds) : Type 0 where
  pub authors_few : bounds.authors ≤ suc max_count
  pub predecessors_few : bounds.predecessors ≤ max_count

-- at most eight ids are named
named-few : {bounds : Bounds} (b : List ℕ) → Layout bounds b → named_in (offsets_of b) ≤ max_named
named-few b l =
    ⊎_elim (λ (e : kind_of b ≡ 1). none (of-add b e) refl)
    (⊎_elim (λ (e : kind_of b ≡ 2). subst (λ (o : Operation). named_in o ≤ max_named) (sym (of-remove b e)) (l.named e).1)
    (⊎_elim (λ (e : kind_of b ≡ 3). none (of-insert b e) refl) (λ (e : kind_of b ≡ 4). none (of-delete b e) refl)))
    (kind-cases (kind_of b) l.kind_least l.kind_most)
  where
    none : {o : Operation} → offsets_of b ≡ o → named_in o ≡ 0 → named_in (offsets_of b) ≤ max_named
    none e z = omega (arith, ap named_in e, z)

-- The facts of well-formed bytes are bytes, and with them the bytes are what they decode to.
module _ {bounds : Bounds} (small : ByteBounds bounds) (b : List ℕ) (u : Update) (e : decode bounds b ≡ update u) where
  layout : Layout bounds b
  layout = accepted bounds b u e

  pub facts-packable : Packable (parsed_of b)
  unfolding parsed_of
  facts-packable =
      record {
        author_byte = omega (arith, layout.author, small.authors_few);
        count_byte = omega (arith, layout.count, small.predecessors_few);
        named_byte = omega (arith, named-few b layout);
      }

  pub facts-right : update (value_of b (unpacked (packed (parsed_of b)))) ≡ decode bounds b
  facts-right =
      ap update (value-by-facts b layout.kind_least layout.kind_most facts-packable ∙ (update-none bounds b u e).1) ∙ sym e

-- Worked out by hand. An Insert by author 5 with two predecessors: its kind byte is at 3 + 2 × 32, its anchor at 68 and its value at 100.
pub insert-computed : (packed (record { author = 5; count = 2; operation = Insert 68 100 }) ≡ 131845)
    × (unpacked 131845 ≡ record { author = 5; count = 2; operation = Insert 68 100 })
unfolding packed unpacked operation_by
insert-computed = (refl, refl)

-- A Remove of eight ids by author 255, with 255 predecessors, the most that a count byte can say: its tag is at 3 + 255 × 32 + 1, and the ids after that and the count.
pub remove-computed : (packed (record { author = 255; count = 255; operation = Remove 8164 8181 8 }) ≡ 150930175)
    × (unpacked 150930175 ≡ record { author = 255; count = 255; operation = Remove 8164 8181 8 })
unfolding packed unpacked operation_by
remove-computed = (refl, refl)
