-- The first line of each part of the report that shows updates, the lines in it, and the end of a mark's line.
use Rattle.std.specs.Prelude.{ℕ, ◌+◌, ◌≤◌, ◌<◌, length, List, ◌++◌}
use Rattle.update_format.specs.Update.{Id, id_length}
use Rattle.update_format.specs.Decode.{Decoded}
use Rattle.bytes_ascii.specs.Ascii.{ascii, decimal_limit}
use Rattle.rules.specs.declared.MarkKind.{MarkKind}
use Rattle.rules.specs.Report.{author_line, set_line, bytes_line, mark_word}
use Rattle.update_fields.specs.Fields.{author_in, set_entry_in, value_in}
use Rattle.report_wording.specs.declared.Part.{Part}
use Rattle.report_wording.specs.declared.Part.TheVariants.{Held, Heads, Waiting, Void, Set, List as Entries}
use Rattle.bytes_print.specs.Page.{farthest}

-- no line and no word of the report has more bytes: the longest line is `(`, 64 digits, a space, four digits, `)` and the newline
abbrev pub max_report_line : ℕ
max_report_line = 100

-- the page has room for a line at byte `at`, and the bytes are no more than an id's
pub record LineOf (at : ℕ) (bytes : List ℕ) : Type 0 where
  pub line_within : at + max_report_line ≤ farthest
  pub bytes_within : length bytes ≤ id_length

-- the page has room for a line at byte `at`, and the author a can be printed
pub record MarkLineOf (at a : ℕ) : Type 0 where
  pub line_within : at + max_report_line ≤ farthest
  pub author_within : a < decimal_limit

-- the first line of a part
abbrev pub word_of : Part → List ℕ
word_of Held = ascii "(held\n"
word_of Heads = ascii "(heads\n"
word_of Waiting = ascii "(waiting\n"
word_of Void = ascii "(void\n"
word_of Set = ascii "(set\n"
word_of Entries = ascii "(list\n"

-- the end of a mark's line
abbrev pub mark_end : MarkKind → List ℕ
mark_end k = ascii " " ++ (mark_word k ++ ascii ")\n")

-- a line of bytes and the author of what an update's bytes decode to
abbrev pub author_line_by : List ℕ → Decoded → List ℕ
author_line_by bs d = author_line bs (author_in d)

-- a line of an update, by its id and by what its bytes decode to
abbrev pub line_by : Part → Id → Decoded → List ℕ
line_by Held i d = author_line_by i d
line_by Heads i d = bytes_line i
line_by Waiting i d = author_line_by i d
line_by Void i d = author_line_by i d
line_by Set i d = set_line (set_entry_in d)
line_by Entries i d = bytes_line (value_in d)
