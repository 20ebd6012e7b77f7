-- `lines` meets its contract. The loop's invariant: the lines of the places so far are printed.
use Rattle.std.proofs.Common.{◌+◌, ◌*◌, ◌≤◌, take}
use Rattle.bytes_print.specs.Page.{Printed}
use Rattle.report_wording.specs.Lines.{max_report_line}
use Rattle.ledger_state.specs.View.{book, store_of}
use Rattle.report_text.specs.Parts.{part_lines}
use Rattle.report_text.proofs.parts.lines.Given as goal

abbrev pub invariant-loop-k : goal.invariant-loop-k
invariant-loop-k l = record {
  within : l.page.at ≤ l.initial.page.at + max_report_line * l.k-index;
  printed : Printed l.initial.page (part_lines (book l.replica) (store_of l.replica) l.part (take l.k-index l.places)) l.page;
}
