-- The lines of the report's parts are those that the rules give.
use Rattle.std.specs.Prelude.{ℕ, ◌<◌, ◌≡◌, refl, List, ◌++◌, Bool, ◌&&◌, length}
use Rattle.std.proofs.Math.Path.{sym, ap}
use Rattle.std.proofs.Common.{◌∙◌}
use Rattle.std.proofs.Math.Bool.{not}
use Rattle.bytes_order.specs.Member.{keep, concat_map}
use Rattle.update_format.specs.Update.{Update}
use Rattle.rules.specs.Settle.{Row, Table, is_held, is_waiting, is_void, held_row, covered, heads, settled_table, updates_in, parts_in, parts_of}
use Rattle.bytes_ascii.specs.Ascii.{ascii, hex, decimal}
use Rattle.rules.specs.Report.{update_line, set_line, id_line, bytes_line}
use Rattle.ledger_state.specs.Stands.{rules, Stands}
use Rattle.ledger_state.specs.State.{Book}
use Rattle.ledger_relations.specs.PlaceTests.{id_at, held_at, waiting_at, void_at, head_at, shown_at, id_order}
use Rattle.report_parts.specs.PlaceParts.{set_entry_at, set_order, entries_of, value_at}
use Rattle.report_wording.specs.declared.Part.TheVariants.{Held, Heads, Waiting, Void, Set, List as Entries}
use Rattle.report_text.specs.Parts.{update_line_at, listed_in, line_of, part_lines}
use Rattle.report_parts.specs.PlacePartsLaws.{set-entries-agree}
use Rattle.report_parts.specs.ListedLaws.{values_agree}
use Rattle.ledger_relations.specs.RowLaws.{row_at, update-id, order-∈, table-rows, held-agrees, waiting-agrees, void-agrees, author-agrees, head-agrees}
use Rattle.bytes_order.specs.MemberLaws.{keep_all, concat_map-map, concat_map-keep-map}

module _ {l : Book} {s : List ℕ} {us : List Update} (stands : Stands l s us) where
  -- the lines of the updates whose rows pass a test
  lines-agree : (line : Update → List ℕ) (p : Row → Bool) (line' : ℕ → List ℕ) (p' : ℕ → Bool)
      → ((k : ℕ) → k < length us → line (row_at us k).update ≡ line' k) → ((k : ℕ) → k < length us → p (row_at us k) ≡ p' k)
      → concat_map line' (keep p' (id_order l s)) ≡ concat_map line (updates_in (keep p (settled_table rules us)))
  lines-agree line p line' p' h g =
      sym (concat_map-map line (λ (r : Row). r.update) (keep p (settled_table rules us))
      ∙ ap (λ (T : Table). concat_map (λ (r : Row). line r.update) (keep p T)) (table-rows stands)
      ∙ concat_map-keep-map (λ (r : Row). line r.update) p (row_at us) line' p' (id_order l s) (λ k m. g k (order-∈ stands m)) (λ k m. h k (order-∈ stands m)))

  update_line_lem : (k : ℕ) → k < length us → update_line rules (row_at us k).update ≡ update_line_at l s k
  unfolding update_line update_line_at
  update_line_lem k h = λ i. ascii "(" ++ (hex (update-id stands h i) ++ (ascii " " ++ (decimal (author-agrees stands h i) ++ ascii ")\n")))

  pub held-part : part_lines l s Held (id_order l s) ≡ concat_map (update_line rules) (parts_of rules us).held
  unfolding part_lines parts_of parts_in held_row
  held-part = lines-agree (update_line rules) (λ (r : Row). is_held r.verdict) (update_line_at l s) (held_at l s) update_line_lem (held-agrees stands)

  pub waiting-part : part_lines l s Waiting (id_order l s) ≡ concat_map (update_line rules) (parts_of rules us).waiting
  unfolding part_lines parts_of parts_in
  waiting-part = lines-agree (update_line rules) (λ (r : Row). is_waiting r.verdict) (update_line_at l s) (waiting_at l s) update_line_lem (waiting-agrees stands)

  pub void-part : part_lines l s Void (id_order l s) ≡ concat_map (update_line rules) (parts_of rules us).void
  unfolding part_lines parts_of parts_in
  void-part = lines-agree (update_line rules) (λ (r : Row). is_void r.verdict) (update_line_at l s) (void_at l s) update_line_lem (void-agrees stands)

  pub heads-part : part_lines l s Heads (id_order l s) ≡ concat_map (id_line rules) (parts_of rules us).heads
  unfolding part_lines parts_of parts_in heads id_line
  heads-part =
      lines-agree (id_line rules) (λ (r : Row). held_row r && not (covered (settled_table rules us) r)) (λ (k : ℕ). bytes_line (id_at l s k)) (head_at l s)
      (λ k h. ap bytes_line (update-id stands h)) (head-agrees stands)

  -- all places of the set are listed
  pub set-part : part_lines l s Set (set_order l s) ≡ concat_map set_line (parts_of rules us).set
  unfolding part_lines parts_of parts_in
  set-part =
      ap (concat_map (line_of l s Set)) (keep_all (listed_in l s Set) (set_order l s) (λ x m. refl))
      ∙ sym (concat_map-map set_line (set_entry_at l s) (set_order l s))
      ∙ ap (concat_map set_line) (set-entries-agree stands)

  pub list-part : part_lines l s Entries (entries_of l s) ≡ concat_map bytes_line (parts_of rules us).list
  unfolding part_lines parts_of parts_in
  list-part = sym (concat_map-map bytes_line (value_at l s) (keep (shown_at l s) (entries_of l s))) ∙ ap (concat_map bytes_line) (values_agree stands)
