-- No text is longer than a report of as many updates may be (`report_size`): of a place at most one line by its standing, one as a head and one in the set or the list.
use Rattle.std.specs.Prelude.{ℕ, ◌+◌, ◌*◌, ◌≤◌, ◌<◌, min, ◌≡◌, List, ◌++◌, length}
use Rattle.std.proofs.Math.Nat.{mul-le-mul_left, le-min}
use native.Mathlib.Omega.{arith}
use Rattle.std.proofs.Math.ListN.{length-append}
use Rattle.bytes_order.specs.Member.{◌∈◌, keep, concat_map}
use Rattle.bytes_order.specs.MemberLaws.{keep-∈, keep-length}
use Rattle.bytes_order.specs.CountLaws.{concat_map-length}
use Rattle.bytes_ascii.specs.Ascii.{codes, ascii}
use Rattle.update_format.specs.declared.Bounds.{Bounds}
use Rattle.update_format.specs.Update.{id_length}
use Rattle.rules.specs.declared.Form.{Form}
use Rattle.rules.specs.declared.Form.TheVariants.{Full, Short}
use Rattle.rules.specs.Report.{set_line, bytes_line, mark_line, author_digits, report_size}
use Rattle.rules.proofs.ReportLengthLaws.{mark-line-length, bytes-line-length, author-line-length, three-lines, two-lines}
use Rattle.ledger_state.specs.State.{Book, place_at}
use Rattle.ledger_relations.specs.PlaceTests.{id_at, author_at, held_at, waiting_at, void_at, head_at, id_order}
use Rattle.report_parts.specs.PlaceParts.{marks_of, set_entry_at, set_order, entries_of, value_at}
use Rattle.report_parts.specs.LengthLaws.{author-bound, tag-bound, entry-author-bound, value-bound, order-taken, order-few, standings-few, read-offs-few, marks-few, marks-used, mark-small}
use Rattle.report_wording.specs.declared.Part.{Part}
use Rattle.report_wording.specs.declared.Part.TheVariants.{Held, Heads, Waiting, Void, Set, List as Entries}
use Rattle.report_wording.specs.Lines.{word_of}
use Rattle.report_text.specs.Parts.{marks_part, update_line_at, listed_in, line_of, part_lines, part_of}
use Rattle.report_text.specs.Text.{standings, read_offs, text_of}

-- a ledger whose terms have authors
module _ (l : Book) (s : List ℕ) (some : 0 < l.terms.bounds.authors) where
  abbrev bounds : Bounds
  bounds = l.terms.bounds

  abbrev digits : ℕ
  digits = author_digits bounds

  -- no more marked authors than there are, and than places taken
  abbrev marked : ℕ
  marked = min bounds.authors l.used

  -- a part with lines of at most n bytes
  part_length : (p : Part) (n : ℕ) (xs : List ℕ) → ((k : ℕ) → k ∈ xs → length (line_of l s p k) ≤ n)
      → length (part_of l s p xs) ≤ length (word_of p) + n * length (keep (listed_in l s p) xs) + 2
  unfolding part_of part_lines ascii codes
  part_length p n xs h =
      omega (
        arith,
        length-append (word_of p) (part_lines l s p xs ++ ascii ")\n"),
        length-append (part_lines l s p xs) (ascii ")\n"),
        concat_map-length (line_of l s p) n (keep (listed_in l s p) xs) (λ k m. h k (keep-∈ (listed_in l s p) xs m).0),
      )

  marks-length : length (marks_part (marks_of l s)) ≤ 9 + (9 + digits) * marked
  unfolding marks_part ascii codes
  marks-length =
      omega (
        arith,
        length-append (concat_map mark_line (marks_of l s)) (ascii ")\n"),
        concat_map-length mark_line (9 + digits) (marks_of l s) (λ m h. mark-line-length bounds m (mark-small l s m h)),
        mul-le-mul_left (9 + digits) (le-min (marks-few l s) (marks-used l s)),
      )

  set-line-length : (k : ℕ) → length (set_line (set_entry_at l s k)) ≤ 36 + digits
  unfolding set_line
  set-line-length k =
      omega (arith, author-line-length bounds (set_entry_at l s k).tag (set_entry_at l s k).author (entry-author-bound l s some k), tag-bound l s k)

  value-line-length : (k : ℕ) → length (bytes_line (value_at l s k)) ≤ 35
  value-line-length k = omega (arith, bytes-line-length (value_at l s k), value-bound l s k)

  -- the lines of the set and of the list
  shown-lines : (36 + digits) * length (keep (listed_in l s Set) (set_order l s)) + 35 * length (keep (listed_in l s Entries) (entries_of l s)) ≤ (36 + digits) * l.used
  shown-lines =
      two-lines (36 + digits) (length (keep (listed_in l s Set) (set_order l s))) (length (keep (listed_in l s Entries) (entries_of l s))) (omega arith)
      (omega (arith, keep-length (listed_in l s Set) (set_order l s), keep-length (listed_in l s Entries) (entries_of l s), read-offs-few l s))

  read-offs-length : length (read_offs l s) ≤ 26 + (9 + digits) * marked + (36 + digits) * l.used
  unfolding read_offs ascii codes
  read-offs-length =
      omega (
        arith,
        length-append (marks_part (marks_of l s)) (part_of l s Set (set_order l s) ++ (part_of l s Entries (entries_of l s) ++ ascii ")\n")),
        length-append (part_of l s Set (set_order l s)) (part_of l s Entries (entries_of l s) ++ ascii ")\n"),
        length-append (part_of l s Entries (entries_of l s)) (ascii ")\n"),
        marks-length,
        part_length Set (36 + digits) (set_order l s) (λ k m. set-line-length k),
        part_length Entries 35 (entries_of l s) (λ k m. value-line-length k),
        shown-lines,
      )

  -- ids have 32 bytes
  module _ (sized : (k : ℕ) → k < l.used → length (place_at l k).id ≡ id_length) where
    update-line-length : (k : ℕ) → k ∈ id_order l s → length (update_line_at l s k) ≤ 68 + digits
    unfolding update_line_at
    update-line-length k m =
        omega (arith, author-line-length bounds (id_at l s k) (author_at l s k) (author-bound l s some k), sized k (order-taken l s m))

    id-line-length : (k : ℕ) → k ∈ id_order l s → length (bytes_line (id_at l s k)) ≤ 67
    id-line-length k m = omega (arith, bytes-line-length (id_at l s k), sized k (order-taken l s m))

    abbrev P : Part → List ℕ
    P p = part_of l s p (id_order l s)

    -- the lines by the standing
    update-lines :
        (68 + digits) * length (keep (held_at l s) (id_order l s)) + (68 + digits) * length (keep (waiting_at l s) (id_order l s)) + (68 + digits) * length (keep (void_at l s) (id_order l s))
        ≤ (68 + digits) * l.used
    update-lines =
        three-lines (68 + digits) (length (keep (held_at l s) (id_order l s))) (length (keep (waiting_at l s) (id_order l s))) (length (keep (void_at l s) (id_order l s)))
        (standings-few l s)

    standings-length : length (standings l s) ≤ 36 + (68 + digits) * l.used + 67 * l.used
    unfolding standings ascii codes
    standings-length =
        omega (
          arith,
          length-append (P Held) (P Heads ++ (P Waiting ++ P Void)),
          length-append (P Heads) (P Waiting ++ P Void),
          length-append (P Waiting) (P Void),
          part_length Held (68 + digits) (id_order l s) update-line-length,
          part_length Heads 67 (id_order l s) id-line-length,
          part_length Waiting (68 + digits) (id_order l s) update-line-length,
          part_length Void (68 + digits) (id_order l s) update-line-length,
          keep-length (head_at l s) (id_order l s),
          order-few l s,
          update-lines,
        )

-- of every ledger whose ids have 32 bytes
pub text_of-length : (form : Form) (l : Book) (s : List ℕ) → 0 < l.terms.bounds.authors → ((k : ℕ) → k < l.used → length (place_at l k).id ≡ id_length)
    → length (text_of l s form) ≤ report_size l.terms.bounds l.used form
unfolding text_of ascii codes report_size
text_of-length Full l s some sized =
    omega (arith, length-append (standings l s) (read_offs l s), standings-length l s some sized, read-offs-length l s some)
text_of-length Short l s some sized = omega (arith, read-offs-length l s some)
