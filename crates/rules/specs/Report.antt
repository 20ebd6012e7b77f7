-- Document 01, "Command and report", with the set lines of document 02, E5, the mark lines of E7 and the two forms of E10: the report's text, byte for byte, from a
-- set alone.
use Rattle.std.specs.Prelude.{ℕ, ◌+◌, ◌-◌, ◌*◌, min, List, [], ◌∷◌, ◌++◌, Bool, true, false, cond, ◌&&◌, length, eqb}
use Prim.Native.String.{String}
use Rattle.bytes_order.specs.Member.{concat_map}
use Rattle.bytes_ascii.specs.Ascii.{ascii, hex, decimal}
use Rattle.update_format.specs.declared.Bounds.{Bounds}
use Rattle.update_format.specs.Update.{Update}
use Rattle.rules.specs.Standing.{Rules}
use Rattle.rules.specs.declared.Form.{Form}
use Rattle.rules.specs.declared.Form.TheVariants.{Full, Short}
use Rattle.rules.specs.declared.MarkKind.{MarkKind}
use Rattle.rules.specs.declared.MarkKind.TheVariants.{Fork, Fault, Both}
use Rattle.rules.specs.SetEntry.{SetEntry}
use Rattle.rules.specs.Mark.{Mark}
use Rattle.rules.specs.Parts.{Parts}
use Rattle.rules.specs.Settle.{parts_of}

-- "Each line ends in a newline. Held, waiting and void have lines `(ID author)`, heads `(ID)` .. Marks: .. ascending, base ten. .. list: `(VALUE)`"; an ID is "64 lowercase
-- hexadecimal digits". "Set lines become `(TAG author)`"; "Mark lines become `(author fork)`, `(author fault)` or `(author both)`".

-- a line of two words
abbrev pub pair_line : List ℕ → List ℕ → List ℕ
pair_line x y = ascii "(" ++ (x ++ (ascii " " ++ (y ++ ascii ")\n")))

abbrev pub author_line : List ℕ → ℕ → List ℕ
author_line bs a = pair_line (hex bs) (decimal a)

unfoldable pub update_line : Rules → Update → List ℕ
update_line rules u = author_line (rules.ident u) u.author

unfoldable pub set_line : SetEntry → List ℕ
set_line e = author_line e.tag e.author

unfoldable pub bytes_line : List ℕ → List ℕ
bytes_line bs = ascii "(" ++ (hex bs ++ ascii ")\n")

unfoldable pub id_line : Rules → Update → List ℕ
id_line rules u = bytes_line (rules.ident u)

unfoldable pub mark_word : MarkKind → List ℕ
mark_word Fork = ascii "fork"
mark_word Fault = ascii "fault"
mark_word Both = ascii "both"

unfoldable pub mark_line : Mark → List ℕ
mark_line m = pair_line (decimal m.author) (mark_word m.kind)

-- one part: its word, a line for each element, the closing bracket; then the rest
unfoldable pub part_text : {A : Type 0} → String → (A → List ℕ) → List A → List ℕ → List ℕ
part_text word line xs rest = ascii word ++ (concat_map line xs ++ (ascii ")\n" ++ rest))

-- the seven parts, each with what follows it
module _ (rules : Rules) (parts : Parts) where
  abbrev pub held_text : List ℕ → List ℕ
  held_text = part_text "(held\n" (update_line rules) parts.held

  abbrev pub heads_text : List ℕ → List ℕ
  heads_text = part_text "(heads\n" (id_line rules) parts.heads

  abbrev pub waiting_text : List ℕ → List ℕ
  waiting_text = part_text "(waiting\n" (update_line rules) parts.waiting

  abbrev pub void_text : List ℕ → List ℕ
  void_text = part_text "(void\n" (update_line rules) parts.void

module _ (parts : Parts) where
  abbrev pub marks_text : List ℕ → List ℕ
  marks_text = part_text "(marks\n" mark_line parts.marks

  abbrev pub set_text : List ℕ → List ℕ
  set_text = part_text "(set\n" set_line parts.set

  abbrev pub list_text : List ℕ → List ℕ
  list_text = part_text "(list\n" bytes_line parts.list

-- those that go by standing; and marks, set and list, with the closing bracket
abbrev pub standings_text : Rules → Parts → List ℕ → List ℕ
standings_text rules parts rest = held_text rules parts (heads_text rules parts (waiting_text rules parts (void_text rules parts rest)))

abbrev pub read_offs_text : Parts → List ℕ
read_offs_text parts = marks_text parts (set_text parts (list_text parts (ascii ")\n")))

-- the line that opens a report
abbrev pub opening : List ℕ
opening = ascii "(ledger 1\n"

-- The text laid out from the parts. The short form has "only those three parts, in the old order, between the same outer brackets".
unfoldable pub report_text : Form → Rules → Parts → List ℕ
report_text Full rules parts = opening ++ standings_text rules parts (read_offs_text parts)
report_text Short rules parts = opening ++ read_offs_text parts

-- "The report that the rules give for a set is the text laid out below, each part worked out from that set alone." (`read_right` of `PartsLaws`: the
-- parts are exactly those of the definitions.)
unfoldable pub report_of : Form → Rules → List Update → List ℕ
report_of form rules S = report_text form rules (parts_of rules S)

-- whether the text begins with the word
unfoldable pub starts_with : List ℕ → List ℕ → Bool
starts_with [] text = true
starts_with (w ∷ ws) [] = false
starts_with (w ∷ ws) (b ∷ bs) = eqb w b && starts_with ws bs

-- the text from its first `(marks` on
unfoldable pub from_marks : List ℕ → List ℕ
from_marks [] = []
from_marks (b ∷ bs) = cond (starts_with (ascii "(marks\n") (b ∷ bs)) (b ∷ bs) (from_marks bs)

-- "A report with no form named"
abbrev pub default_form : Form
default_form = Short

-- how many digits the largest author of all has
unfoldable pub author_digits : Bounds → ℕ
author_digits b = length (decimal (b.authors - 1))

-- No report of n updates is longer (`report-length`, `ReportLaws`): the opening, the words and the brackets; for each update its own line, one as a head and one as an
-- entry of the set, which is longer than one of the list; and a line for each marked author, of which there are no more than updates.
unfoldable pub report_size : Bounds → ℕ → Form → ℕ
report_size b n Full = 72 + (68 + author_digits b) * n + 67 * n + (36 + author_digits b) * n + (9 + author_digits b) * min b.authors n
report_size b n Short = 36 + (36 + author_digits b) * n + (9 + author_digits b) * min b.authors n

-- document 01: "none passes 12,000" (`document-size`, `ReportLaws`)
abbrev pub max_report : ℕ
max_report = 12000

-- .. and that of the short form: 36 bytes, 38 for each of 64 updates, and 11 for each of 16 authors
abbrev pub max_short_report : ℕ
max_short_report = 2644

-- document 02, E6: "a report fits in 256 bytes a place" (`allowed-size`, `ReportLaws`)
abbrev pub report_per_place : ℕ
report_per_place = 256

abbrev pub longest : Form → ℕ
longest Full = max_report
longest Short = max_short_report
