use Rattle.std.proofs.Common.{◌+◌, ap, subst, sym, arith}
use Rattle.bytes_print.specs.declared.Page.{Page}
use Rattle.bytes_print.specs.Page.{Printed}
use Rattle.bytes_print.proofs.PrintedLaws.{both, nothing, same_text}
use Rattle.bitset.specs.Bits.{has}
use Rattle.update_format.specs.Update.{document_bounds}
use Rattle.report_text.proofs.MarkLaws.{lines_below, lines_start, lines_marked, lines_left, lines-all}
use Rattle.report_text.proofs.marks.Marks.lines.Goals as goal
use Rattle.report_text.proofs.marks.Marks.lines.Goals.{in-Some, in_default}

pub loop-a-init : goal.loop-a-init
loop-a-init c = record {
  within = omega arith;
  printed = same_text (lines_start (has c.args.self.forked) (has c.args.self.faulty)) (nothing c.args.page.now);
}

pub loop-a-preserved : goal.loop-a-preserved
loop-a-preserved c =
    let fork = has c.args.self.forked in
    let fault = has c.args.self.faulty in
    let to : Page → Type 0 = λ (p : Page). Printed c.args.page.now (lines_below fork fault (c.loop-a.a + 1)) p in
    elim c.match-kind.branch [
      | in-Some w ↦ record {
        within = omega (arith, ap (λ (p : Page). p.at) w.page-is, w.mark_line.ensures.small, c.loop-a.invariant.within);
        printed = subst to (sym w.page-is)
            (same_text (lines_marked fork fault c.loop-a.a c.kind.ensures w.in-Some.is) (both c.loop-a.invariant.printed w.mark_line.ensures.prints));
      }
      | in_default w ↦ record {
        within = omega (arith, ap (λ (p : Page). p.at) w.page-is, c.loop-a.invariant.within);
        printed = subst to (sym w.page-is) (same_text (lines_left fork fault c.loop-a.a c.kind.ensures w.in_default.is) c.loop-a.invariant.printed);
      }
    ]

pub returns-clause-prints : goal.returns-clause-prints
returns-clause-prints c =
    same_text (lines-all (has c.args.self.forked) (has c.args.self.faulty) document_bounds.authors c.loop-a.a (omega arith) c.loop-a-test.false) c.loop-a.invariant.printed
