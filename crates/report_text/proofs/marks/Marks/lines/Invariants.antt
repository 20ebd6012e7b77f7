-- `lines` meets its contract. The loop's invariant: the lines of the authors below a that are in one of the sets are printed.
use Rattle.std.proofs.Common.{◌+◌, ◌*◌, ◌≤◌}
use Rattle.bytes_print.specs.Page.{Printed}
use Rattle.bitset.specs.Bits.{has}
use Rattle.report_wording.specs.Lines.{max_report_line}
use Rattle.report_text.proofs.MarkLaws.{lines_below}
use Rattle.report_text.proofs.marks.Marks.lines.Given as goal

abbrev pub invariant-loop-a : goal.invariant-loop-a
invariant-loop-a l = record {
  within : l.page.at ≤ l.initial.page.at + max_report_line * l.a;
  printed : Printed l.initial.page (lines_below (has l.self.forked) (has l.self.faulty) l.a) l.page;
}
