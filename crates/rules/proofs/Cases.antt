-- What is worked out by hand, computed: the parts of the small ledgers, document 02's four answers, two reports byte for byte, what the writer names and row 12, and the
-- longest short report. A wrong definition of the rules as they are computed fails here, whatever is proved of it; that they are the rules of `Standing`, `ReadOff` and
-- `Choice` is proved in the modules of laws. (A check names errors in the order of the modules' names, so those of this module first.)
use Rattle.std.specs.Prelude.{◌≡◌, refl, [], ◌∷◌, ◌++◌, map, true, false, length, ltb, leb}
use Rattle.bytes_order.specs.Order.{same, before}
use Rattle.bytes_order.specs.Member.{member, keep, any, all, concat_map}
use Rattle.bytes_order.specs.Sort.{insert, sort}
use Rattle.bytes_ascii.specs.Ascii.{codes, ascii, digit, hex_byte, hex, decimal_in, decimal}
use Rattle.update_format.specs.Update.{document_bounds, Add, Remove, encode, encode_operation}
use Rattle.rules.specs.declared.CausalOrder.TheVariants.{Same, Before, After, Apart}
use Rattle.rules.specs.declared.Form.TheVariants.{Full, Short}
use Rattle.rules.specs.SetEntry.{entry_key}
use Rattle.rules.specs.Mark.{mark_key, kinds_by, marks_by}
use Rattle.rules.specs.CausalOrder.{order_by, is_before, is_apart, before_or_after, same_or_before}
use Rattle.rules.specs.Settle.{is_held, is_waiting, is_void, is_add, is_insert, held_in, void_in, add_in, insert_in, above_in, order_in, ancestors_of, antichain, valid_op, fine_by, ruled, judge_fine, judge_known, judge_by, judge_from, judge, round, rounds, start, start_all, settled_table, held_row, covered, heads, forked_by, forked_row, fault_row, some_row_by, marks_in, marks, names, removed, tags_of, set_entries_from, set_entries, rank, anchored, siblings, under, walk, entries, deletes, deleted, values_of, list, parts_in, parts_of, causal_order}
use Rattle.rules.specs.Terms.{places, most_authors}
use Rattle.rules.specs.Report.{update_line, set_line, bytes_line, id_line, mark_word, mark_line, part_text, read_offs_text, opening, report_text, report_of, author_digits, report_size, max_short_report}
use Rattle.rules.specs.Small.{Small, SmallChoice, name_in, naming, by_bytes, by, named_updates, added, marked, expect, #a, #b, a, b, a', d, e, e', e'', r, r', r'', c, c', n, n', o, o', p, q, q', i, x, m, f, g, w, z, y, i', x', v, u, k, rules_of, small_set, sixteen, further, small_ledgers, apart, order_named, crossed_rows, one_add, two_adds, add_rules, add_short, whole, whole_rules, whole_set, whole_full, whole_short, choice_rules, choice_set, left_in, root, next, ids, eleven_heads, small_choices, longest_short, wider_short, booked, booked_by, booked_widely}
use Rattle.rules.specs.Writing.{held_by, ranked, at_or_above, first_heads, others, chosen_from, chosen, written_in, writable_in, written_of, writable_of}

pub computed : map (λ (c : Small). parts_of (rules_of c) (small_set c)) small_ledgers ≡ map (λ (c : Small). c.gives) small_ledgers
unfolding sixteen further expect added marked by name_in encode encode_operation same before member keep any all concat_map insert sort is_held is_waiting is_void is_add is_insert held_in void_in add_in insert_in above_in order_in order_by is_before is_apart before_or_after ancestors_of antichain valid_op fine_by ruled judge_fine judge_known judge_by judge_from judge round rounds start start_all settled_table held_row covered heads forked_by forked_row fault_row some_row_by kinds_by marks_by mark_key marks_in marks names removed tags_of set_entries_from set_entries entry_key rank anchored siblings under walk entries deletes deleted values_of list parts_in parts_of a b a' d e e' e'' r r' r'' c c' n n' o o' p q q' i x m f g w z y i' x' v u k
computed = refl

-- no id stands twice
pub ids-apart : all (λ (c : Small). apart (map (rules_of c).ident (small_set c))) small_ledgers ≡ true
unfolding sixteen further by name_in encode encode_operation same member all concat_map apart a b a' d e e' e'' r r' r'' c c' n n' o o' p q q' i x m f g w z y i' x' v u k
ids-apart = refl

-- document 02, E4
pub orders-computed : (order_named a a ∷ order_named a b ∷ order_named b a ∷ order_named a a' ∷ order_named a' b ∷ []) ≡ (Same ∷ Before ∷ After ∷ Apart ∷ Apart ∷ [])
unfolding by name_in encode encode_operation same before member keep any all concat_map insert sort is_held is_waiting is_void is_add is_insert held_in void_in add_in insert_in above_in order_in order_by is_before is_apart before_or_after ancestors_of antichain valid_op fine_by ruled judge_fine judge_known judge_by judge_from judge round rounds start start_all settled_table causal_order a b a'
orders-computed = refl

pub orders-crossed : (order_in crossed_rows #a #a ∷ order_in crossed_rows #a #b ∷ order_in crossed_rows #b #a ∷ []) ≡ (Same ∷ Apart ∷ Apart ∷ [])
unfolding same member any above_in order_in order_by
orders-crossed = refl

-- Document 02, E10: one short report of two sets, but the full one has the second Add's id
pub forms-computed : (report_of Short add_rules one_add ≡ add_short) × (report_of Short add_rules two_adds ≡ add_short)
    × (same (report_of Full add_rules one_add) (report_of Full add_rules two_adds) ≡ false)
unfolding by name_in encode encode_operation same before member keep any all concat_map insert sort is_held is_waiting is_void is_add is_insert held_in void_in add_in insert_in above_in order_in order_by is_before is_apart before_or_after ancestors_of antichain valid_op fine_by ruled judge_fine judge_known judge_by judge_from judge round rounds start start_all settled_table held_row covered heads forked_by forked_row fault_row some_row_by kinds_by marks_by mark_key marks_in marks names removed tags_of set_entries_from set_entries entry_key rank anchored siblings under walk entries deletes deleted values_of list parts_in parts_of a c codes ascii digit hex_byte hex decimal_in decimal update_line id_line set_line bytes_line mark_word mark_line part_text report_text report_of
forms-computed = (refl, refl, refl)

-- the whole reports of one set
pub whole-computed : (report_of Full whole_rules whole_set ≡ whole_full) × (report_of Short whole_rules whole_set ≡ whole_short)
unfolding whole by name_in encode encode_operation same before member keep any all concat_map insert sort is_held is_waiting is_void is_add is_insert held_in void_in add_in insert_in above_in order_in order_by is_before is_apart before_or_after ancestors_of antichain valid_op fine_by ruled judge_fine judge_known judge_by judge_from judge round rounds start start_all settled_table held_row covered heads forked_by forked_row fault_row some_row_by kinds_by marks_by mark_key marks_in marks names removed tags_of set_entries_from set_entries entry_key rank anchored siblings under walk entries deletes deleted values_of list parts_in parts_of codes ascii digit hex_byte hex decimal_in decimal update_line id_line set_line bytes_line mark_word mark_line part_text report_text report_of
whole-computed = (refl, refl)

-- what the writer names and leaves behind
pub choices-computed : (map (λ (c : SmallChoice). (written_of (choice_rules c) c.most (choice_set c) c.writer (Add [])).preds) small_choices ≡ map (λ (c : SmallChoice). c.names) small_choices)
    × (map (λ (c : SmallChoice). left_in c.most (settled_table (choice_rules c) (choice_set c)) c.writer) small_choices ≡ map (λ (c : SmallChoice). c.leaves) small_choices)
unfolding small_choices left_in root next by name_in encode encode_operation same before member keep any all concat_map insert sort is_held is_waiting is_void is_add is_insert held_in void_in add_in insert_in above_in order_in order_by is_before is_apart before_or_after ancestors_of antichain valid_op fine_by ruled judge_fine judge_known judge_by judge_from judge round rounds start start_all settled_table held_row covered heads same_or_before rank held_by ranked at_or_above first_heads others chosen_from chosen written_in written_of
choices-computed = (refl, refl)

pub choice-ids-apart : all (λ (c : SmallChoice). apart (map (choice_rules c).ident (choice_set c))) small_choices ≡ true
unfolding small_choices root next by name_in encode encode_operation same member all concat_map apart
choice-ids-apart = refl

pub choices-some : all (λ (c : SmallChoice). ltb 0 c.most) small_choices ≡ true
unfolding small_choices all
choices-some = refl

-- row 12, of author 5 with eleven heads: a Remove of 18, which is not named, would be void, and one of 17 would not; nor would one of 18 where nine heads are named
pub row-12-computed : (writable_of (naming eleven_heads) 8 (named_updates eleven_heads) 5 (Remove (18 ∷ []) (ids (18 ∷ []))) ≡ false)
    × (writable_of (naming eleven_heads) 8 (named_updates eleven_heads) 5 (Remove (17 ∷ []) (ids (17 ∷ []))) ≡ true)
    × (writable_of (naming eleven_heads) 9 (named_updates eleven_heads) 5 (Remove (18 ∷ []) (ids (18 ∷ []))) ≡ true)
unfolding root next by name_in encode encode_operation same before member keep any all concat_map insert sort is_held is_waiting is_void is_add is_insert held_in void_in add_in insert_in above_in order_in order_by is_before is_apart before_or_after ancestors_of antichain valid_op fine_by ruled judge_fine judge_known judge_by judge_from judge round rounds start start_all settled_table held_row covered heads same_or_before rank held_by ranked at_or_above first_heads others chosen_from chosen written_in writable_in writable_of
row-12-computed = (refl, refl, refl)

-- the longest short report, and that it is within its bound (`longest-short-report`, `SmallLaws`)
pub longest-computed : (length (opening ++ read_offs_text (parts_of by_bytes (booked booked_by places))) ≡ longest_short) × (leb longest_short max_short_report ≡ true)
unfolding booked booked_by encode encode_operation same before member keep any all concat_map insert sort is_held is_waiting is_void is_add is_insert held_in void_in add_in insert_in above_in order_in order_by is_before is_apart before_or_after ancestors_of antichain valid_op fine_by ruled judge_fine judge_known judge_by judge_from judge round rounds start start_all settled_table held_row covered heads forked_by forked_row fault_row some_row_by kinds_by marks_by mark_key marks_in marks names removed tags_of set_entries_from set_entries entry_key rank anchored siblings under walk entries deletes deleted values_of list parts_in parts_of codes ascii digit hex_byte hex decimal_in decimal set_line bytes_line mark_word mark_line part_text
longest-computed = (refl, refl)

-- .. and one with three-digit authors, with the bound that their terms give for 64 places
pub wider-computed : (length (opening ++ read_offs_text (parts_of by_bytes (booked booked_widely 8))) ≡ wider_short)
    × (report_size (record { authors = most_authors; predecessors = document_bounds.predecessors }) places Short ≡ 3300)
unfolding booked booked_widely encode encode_operation same before member keep any all concat_map insert sort is_held is_waiting is_void is_add is_insert held_in void_in add_in insert_in above_in order_in order_by is_before is_apart before_or_after ancestors_of antichain valid_op fine_by ruled judge_fine judge_known judge_by judge_from judge round rounds start start_all settled_table held_row covered heads forked_by forked_row fault_row some_row_by kinds_by marks_by mark_key marks_in marks names removed tags_of set_entries_from set_entries entry_key rank anchored siblings under walk entries deletes deleted values_of list parts_in parts_of codes ascii digit hex_byte hex decimal_in decimal set_line bytes_line mark_word mark_line part_text report_size author_digits
wider-computed = (refl, refl)
