-- The marks and the set: what is read from the places is what is read from the settled table.
use Rattle.std.specs.Prelude.{ℕ, ◌<◌, ◌≡◌, refl, Bool, ◌&&◌, length}
use Rattle.std.proofs.Math.Path.{sym, ap, ap₂, subst}
use Rattle.std.proofs.Common.{◌∙◌}
use mathlib.Core.List.{List, [], ◌∷◌, map}
use Rattle.std.proofs.Math.Bool.{not}
use Rattle.std.proofs.Math.Dec.{eqb}
use Rattle.bytes_order.specs.Member.{◌∈◌, keep, concat_map}
use Rattle.bytes_order.specs.Sort.{sort}
use Rattle.bytes_order.specs.BoolLaws.{and-true→, and-true, and-agrees}
use Rattle.bytes_order.specs.MemberLaws.{∈-cast, ∈-map, map-∈, ∈-keep, keep-∈, ∈-concat_map, concat_map-∈, concat_map-keep-map}
use Rattle.bytes_order.specs.Ascending.{Ascending}
use Rattle.bytes_order.specs.SortLaws.{same-sort, sort-map, ascending-concat_map}
use Rattle.update_format.specs.Update.{Id, Add, Update}
use Rattle.rules.specs.SetEntry.{SetEntry, entry_key}
use Rattle.rules.proofs.SetEntryLaws.{entry-key-identifies}
use Rattle.rules.specs.Mark.{Mark, mark_key, marks_by}
use Rattle.rules.specs.ReadOff.{MarkedFor}
use Rattle.rules.specs.Parts.{Exactly}
use Rattle.rules.specs.Settle.{Row, Table, held_row, forked_row, fault_row, some_row_by, marks_in, names, removed, set_entries_from, set_entries, settled_table, parts_of}
use Rattle.rules.proofs.Decides.{Decides}
use Rattle.rules.proofs.Settling.{settled-decides}
use Rattle.rules.proofs.MarkLaws.{marked-stored, marks-by-author, marks-by-ascending, marks-in→, →marks-in}
use Rattle.rules.proofs.PartsLaws.{exactly-unique, read_right}
use Rattle.rules.proofs.TableLaws.{set_entries_from-∈, ∈-set_entries_from}
use Rattle.bitset.specs.Below.{any_below, up_to}
use Rattle.bitset.specs.BelowLaws.{up_to-∈, ∈-up_to, up_to-ascending}
use Rattle.update_fields.specs.Fields.{test_of, is_any_add, tag_in}
use Rattle.update_fields.specs.FieldLaws.{→is_any_add, is_any_add→, add-tag}
use Rattle.ledger_state.specs.Stands.{rules, update_at, Stands}
use Rattle.ledger_state.specs.State.{Book, decoded_at}
use Rattle.ledger_relations.specs.PlaceTests.{id_at, author_at, held_at, forked_at, fault_at, removed_at, present_at, id_order}
use Rattle.ledger_sorting.specs.PlaceLists.{sorted_by}
use Rattle.report_parts.specs.PlaceParts.{author_marks, marked_by, marks_of, set_entry_at, set_order}
use Rattle.report_parts.specs.declared.Evidence.TheVariants.{Fork, Fault}
use Rattle.ledger_relations.specs.PlaceLaws.{from-used, to-used, place-decoded, place-author, place-test}
use Rattle.ledger_relations.specs.RowLaws.{row_at, row-update, row-id, order-∈, ∈-order, table-rows, any-agrees, held-agrees, author-agrees, fork-agrees, fault-agrees, op-test-agrees}

pub author-marks-ascending : (n : ℕ) (fork fault : ℕ → Bool) → Ascending mark_key (author_marks n fork fault)
unfolding mark_key
author-marks-ascending n fork fault =
    ascending-concat_map mark_key (λ (a : ℕ). marks_by a (fork a) (fault a)) (up_to-ascending n) (λ a. marks-by-ascending a (fork a) (fault a))
    (λ a m h. ap (λ (b : ℕ). b ∷ []) (marks-by-author a (fork a) (fault a) h))

module _ {l : Book} {s : List ℕ} {us : List Update} (stands : Stands l s us) where
  -- marks

  decides : Decides rules us (settled_table rules us)
  decides = settled-decides rules us stands.holds.distinct

  -- a test of some row of an author, and of some place
  by_agrees : (p : Row → Bool) (p' : ℕ → Bool) → ((k : ℕ) → k < length us → p (row_at us k) ≡ p' k) → (a : ℕ)
      → some_row_by p (settled_table rules us) a ≡ any_below l.used (λ (k : ℕ). eqb (author_at l s k) a && p' k)
  unfolding some_row_by
  by_agrees p p' h a =
      any-agrees stands (λ (r : Row). eqb r.update.author a && p r) (λ (k : ℕ). eqb (author_at l s k) a && p' k)
      (λ k g. ap₂ (λ (x : ℕ) (b : Bool). eqb x a && b) (author-agrees stands g) (h k g))

  marks-agree : (a : ℕ) → marks_in (settled_table rules us) a ≡ marks_by a (marked_by l s Fork a) (marked_by l s Fault a)
  unfolding marks_in marked_by
  marks-agree a =
      ap₂ (marks_by a) (by_agrees (forked_row (settled_table rules us)) (forked_at l s) (fork-agrees stands) a)
      (by_agrees (fault_row (settled_table rules us)) (fault_at l s) (fault-agrees stands) a)

  marks-of-places : Exactly mark_key (λ (m : Mark). MarkedFor rules us m.kind m.author) (marks_of l s)
  unfolding marks_of
  marks-of-places =
      record {
        right = λ m h.
            let f = concat_map-∈ (λ (a : ℕ). marks_by a (marked_by l s Fork a) (marked_by l s Fault a)) (up_to l.terms.bounds.authors) h in
            marks-in→ rules us (settled_table rules us) stands.holds.distinct decides f.0 (subst (λ (ms : List Mark). m ∈ ms) (sym (marks-agree f.0)) f.2);
        all = λ m h.
            let f = marked-stored rules us m.kind m.author h in
            let small : m.author < l.terms.bounds.authors = subst (λ (a : ℕ). a < l.terms.bounds.authors) f.2 (stands.holds.bounded f.0 f.1).author_small in
            ∈-concat_map (λ (a : ℕ). marks_by a (marked_by l s Fork a) (marked_by l s Fault a)) (∈-up_to l.terms.bounds.authors small)
            (subst (λ (ms : List Mark). m ∈ ms) (marks-agree m.author) (→marks-in rules us (settled_table rules us) stands.holds.distinct decides m h));
        ascending = author-marks-ascending l.terms.bounds.authors (marked_by l s Fork) (marked_by l s Fault);
      }

  pub marks-part : marks_of l s ≡ (parts_of rules us).marks
  marks-part = exactly-unique marks-of-places (read_right rules us stands.holds.distinct).marks

  -- the set
  kept : Row → Bool
  kept r = held_row r && not (removed (settled_table rules us) r.id)

  kept_at : ℕ → Bool
  kept_at k = held_at l s k && not (removed_at l s (id_at l s k))

  kept-agrees : (k : ℕ) → k < length us → kept (row_at us k) ≡ kept_at k
  unfolding kept kept_at removed removed_at
  kept-agrees k h =
      and-agrees (held_row (row_at us k)) (held-agrees stands k h)
      (λ e. ap (λ (i : Id). not (removed (settled_table rules us) i)) (row-id stands h) ∙ ap not (op-test-agrees stands (names (id_at l s k))))

  set-entry-of : {k : ℕ} {e : SetEntry} → k < length us → (update_at us k).op ≡ Add e.tag → (update_at us k).author ≡ e.author → set_entry_at l s k ≡ e
  unfolding set_entry_at author_at tag_in
  set-entry-of {e = e} h o by =
      let tag = ap tag_in (place-decoded stands h) ∙ add-tag o in
      let author = place-author stands h ∙ by in
      λ i. record { tag = tag i; author = author i }

  entered→ : {e : SetEntry} → e ∈ concat_map (λ (k : ℕ). set_entries_from (update_at us k)) (keep kept_at (id_order l s)) → e ∈ map (set_entry_at l s) (keep (present_at l s) (up_to l.used))
  unfolding kept_at present_at
  entered→ {e} m =
      let f = concat_map-∈ (λ (k : ℕ). set_entries_from (update_at us k)) (keep kept_at (id_order l s)) m in
      let g = keep-∈ kept_at (id_order l s) f.1 in
      let h = order-∈ stands g.0 in
      let o = set_entries_from-∈ (update_at us f.0) f.2 in
      let b = and-true→ (held_at l s f.0) (not (removed_at l s (id_at l s f.0))) g.1 in
      ∈-cast (sym (set-entry-of h o.0 o.1))
      (∈-map (set_entry_at l s) (∈-keep (present_at l s) (∈-up_to l.used (to-used stands h))
      (and-true (held_at l s f.0) (test_of is_any_add (decoded_at l s f.0) && not (removed_at l s (id_at l s f.0))) b.0
      (and-true (test_of is_any_add (decoded_at l s f.0)) (not (removed_at l s (id_at l s f.0))) (place-test stands is_any_add h ∙ →is_any_add o.0) b.1))))

  →entered : {e : SetEntry} → e ∈ map (set_entry_at l s) (keep (present_at l s) (up_to l.used)) → e ∈ concat_map (λ (k : ℕ). set_entries_from (update_at us k)) (keep kept_at (id_order l s))
  unfolding kept_at present_at
  →entered {e} m =
      let f = map-∈ (set_entry_at l s) (keep (present_at l s) (up_to l.used)) m in
      let g = keep-∈ (present_at l s) (up_to l.used) f.1 in
      let h = from-used stands (up_to-∈ l.used g.0) in
      let b = and-true→ (held_at l s f.0) (test_of is_any_add (decoded_at l s f.0) && not (removed_at l s (id_at l s f.0))) g.1 in
      let c = and-true→ (test_of is_any_add (decoded_at l s f.0)) (not (removed_at l s (id_at l s f.0))) b.1 in
      let o = is_any_add→ (update_at us f.0).op (sym (place-test stands is_any_add h) ∙ c.0) in
      ∈-concat_map (λ (k : ℕ). set_entries_from (update_at us k))
      (∈-keep kept_at (∈-order stands h) (and-true (held_at l s f.0) (not (removed_at l s (id_at l s f.0))) b.0 c.1))
      (∈-cast (sym f.2 ∙ set-entry-of h o.1 refl) (∈-set_entries_from (update_at us f.0) o.1 refl))

  pub set-entries-agree : map (set_entry_at l s) (set_order l s) ≡ set_entries (settled_table rules us)
  unfolding sorted_by set_entry_at set_entries kept
  set-entries-agree =
      sym (sort-map entry_key (set_entry_at l s) (keep (present_at l s) (up_to l.used)))
      ∙ same-sort entry_key (entry-key-identifies _) (record { forth = λ e m. →entered m; back = λ e m. entered→ m })
      ∙ ap (sort entry_key)
      (sym (ap (λ (T : Table). concat_map (λ (r : Row). set_entries_from r.update) (keep kept T)) (table-rows stands)
      ∙ concat_map-keep-map (λ (r : Row). set_entries_from r.update) kept (row_at us) (λ (k : ℕ). set_entries_from (update_at us k)) kept_at (id_order l s)
      (λ k m. kept-agrees k (order-∈ stands m)) (λ k m. ap set_entries_from (row-update stands (order-∈ stands m)))))
