-- The report's text from a ledger and its store, in each form.
use Rattle.std.specs.Prelude.{ℕ, List, [], ◌++◌}
use Rattle.bytes_ascii.specs.Ascii.{ascii}
use Rattle.rules.specs.declared.Form.{Form}
use Rattle.rules.specs.declared.Form.TheVariants.{Full, Short}
use Rattle.rules.specs.Report.{opening}
use Rattle.ledger_state.specs.State.{Book}
use Rattle.ledger_relations.specs.PlaceTests.{id_order}
use Rattle.report_parts.specs.PlaceParts.{marks_of, set_order, entries_of}
use Rattle.report_wording.specs.declared.Part.TheVariants.{Held, Heads, Waiting, Void, Set, List as Entries}
use Rattle.report_text.specs.Parts.{marks_part, part_of}

module _ (l : Book) (s : List ℕ) where
  -- the parts that go by standing
  unfoldable pub standings : List ℕ
  standings = part_of l s Held (id_order l s) ++ (part_of l s Heads (id_order l s) ++ (part_of l s Waiting (id_order l s) ++ part_of l s Void (id_order l s)))

  -- the marks, the set and the list, and the closing bracket
  unfoldable pub read_offs : List ℕ
  read_offs = marks_part (marks_of l s) ++ (part_of l s Set (set_order l s) ++ (part_of l s Entries (entries_of l s) ++ ascii ")\n"))

  -- only the full form has the first
  abbrev pub standings_in : Form → List ℕ
  standings_in Full = standings
  standings_in Short = []

  unfoldable pub text_of : Form → List ℕ
  text_of form = opening ++ (standings_in form ++ read_offs)
