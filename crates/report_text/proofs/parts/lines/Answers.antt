use Rattle.std.proofs.Common.{◌+◌, ap, subst, sym, arith, take}
use Rattle.bytes_print.specs.declared.Page.{Page}
use Rattle.bytes_print.specs.Page.{Printed}
use Rattle.bytes_print.proofs.PrintedLaws.{both, nothing, same_text}
use Rattle.ledger_state.specs.View.{book, store_of}
use Rattle.report_text.specs.Parts.{part_lines}
use Rattle.report_text.proofs.TextLaws.{lines_none, lines_yes, lines_no, lines_all}
use Rattle.report_text.proofs.parts.lines.Goals as goal
use Rattle.report_text.proofs.parts.lines.Goals.{then-shows, else-shows}

pub loop-k-init : goal.loop-k-init
loop-k-init c = record {
  within = omega arith;
  printed = same_text (lines_none (book c.args.replica.now) (store_of c.args.replica.now) c.args.part c.args.places.now) (nothing c.args.page.now);
}

pub loop-k-preserved : goal.loop-k-preserved
loop-k-preserved c =
    let l = book c.args.replica.now in
    let s = store_of c.args.replica.now in
    let ks = c.args.places.now in
    let k = c.loop-k.k-index in
    let to : Page → Type 0 = λ (p : Page). Printed c.args.page.now (part_lines l s c.args.part (take (k + 1) ks)) p in
    elim c.if-shows.branch [
      | then-shows w ↦ record {
        within = omega (arith, ap (λ (p : Page). p.at) w.page-is, w.line.ensures.small, c.loop-k.invariant.within);
        printed = subst to (sym w.page-is)
            (same_text (lines_yes l s c.args.part ks k c.loop-k-test.true c.shows.ensures w.if-shows.true) (both c.loop-k.invariant.printed w.line.ensures.prints));
      }
      | else-shows w ↦ record {
        within = omega (arith, ap (λ (p : Page). p.at) w.page-is, c.loop-k.invariant.within);
        printed = subst to (sym w.page-is)
            (same_text (lines_no l s c.args.part ks k c.loop-k-test.true c.shows.ensures w.if-shows.false) c.loop-k.invariant.printed);
      }
    ]

pub returns-clause-prints : goal.returns-clause-prints
returns-clause-prints c =
    same_text (lines_all (book c.args.replica.now) (store_of c.args.replica.now) c.args.part c.args.places.now c.loop-k.k-index c.loop-k-test.false) c.loop-k.invariant.printed
