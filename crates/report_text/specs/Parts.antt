-- The parts of the report by cases: which places have a line in one, and the line; and the part of the marks.
use Rattle.std.specs.Prelude.{ℕ, ◌+◌, ◌*◌, ◌≤◌, ◌<◌, List, ◌++◌, Bool, true}
use Rattle.bytes_order.specs.Member.{keep, concat_map}
use Rattle.bytes_ascii.specs.Ascii.{ascii}
use Rattle.update_format.specs.Update.{document_bounds}
use Rattle.rules.specs.Mark.{Mark}
use Rattle.rules.specs.Report.{author_line, set_line, bytes_line, mark_line}
use Rattle.ledger_state.specs.State.{places, Book}
use Rattle.ledger_relations.specs.PlaceTests.{id_at, author_at, held_at, waiting_at, void_at, head_at, shown_at}
use Rattle.report_parts.specs.PlaceParts.{set_entry_at, value_at}
use Rattle.report_wording.specs.declared.Part.{Part}
use Rattle.report_wording.specs.declared.Part.TheVariants.{Held, Heads, Waiting, Void, Set, List as Entries}
use Rattle.report_wording.specs.Lines.{max_report_line, word_of}
use Rattle.bytes_print.specs.Page.{farthest}
use Rattle.ledger_sorting.specs.PlaceLists.{PlaceList, InOrder}

-- the part of the marks: its word, a line for each of these marks, the closing bracket
unfoldable pub marks_part : List Mark → List ℕ
marks_part marks = ascii "(marks\n" ++ (concat_map mark_line marks ++ ascii ")\n")

-- what bounds the bytes of the lines of a part, one for each place; of a part, with its word and its closing bracket; of the opening line and the first four parts
abbrev pub max_lines : ℕ
max_lines = places * max_report_line

abbrev pub max_part : ℕ
max_part = max_lines + max_report_line

abbrev pub max_standings : ℕ
max_standings = max_report_line + 4 * max_part

-- .. of the lines of the marks, one for each author, and of their part
abbrev pub max_mark_lines : ℕ
max_mark_lines = document_bounds.authors * max_report_line

abbrev pub max_marks_part : ℕ
max_marks_part = max_mark_lines + max_report_line

-- the page has room for a line at byte `at`, and k is a place
pub record LineAt (at k : ℕ) : Type 0 where
  pub line_within : at + max_report_line ≤ farthest
  pub place_within : k < places

-- the page has room for n bytes at byte `at`, for what is printed of the places of a list
pub record ListOnPage (xs : List ℕ) (at n : ℕ) : Type 0 where
  pub is_list : PlaceList xs
  pub page_within : at + n ≤ farthest

-- they are the places in their order, and what is printed before them ends at byte `at`, which is at most n
pub record InOrderFrom (l : Book) (s : List ℕ) (xs : List ℕ) (at n : ℕ) : Type 0 where
  pub in_order : InOrder l s xs
  pub at_within : at ≤ n

module _ (l : Book) (s : List ℕ) where
  unfoldable pub update_line_at : ℕ → List ℕ
  update_line_at k = author_line (id_at l s k) (author_at l s k)

  abbrev pub listed_in : Part → ℕ → Bool
  listed_in Held k = held_at l s k
  listed_in Heads k = head_at l s k
  listed_in Waiting k = waiting_at l s k
  listed_in Void k = void_at l s k
  listed_in Set k = true
  listed_in Entries k = shown_at l s k

  abbrev pub line_of : Part → ℕ → List ℕ
  line_of Held k = update_line_at k
  line_of Heads k = bytes_line (id_at l s k)
  line_of Waiting k = update_line_at k
  line_of Void k = update_line_at k
  line_of Set k = set_line (set_entry_at l s k)
  line_of Entries k = bytes_line (value_at l s k)

  unfoldable pub part_lines : Part → List ℕ → List ℕ
  part_lines p xs = concat_map (line_of p) (keep (listed_in p) xs)

  unfoldable pub part_of : Part → List ℕ → List ℕ
  part_of p xs = word_of p ++ (part_lines p xs ++ ascii ")\n")
