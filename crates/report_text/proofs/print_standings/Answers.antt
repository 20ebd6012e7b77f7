use Rattle.std.proofs.Common.{ap}
use Rattle.ledger_state.specs.View.{book, store_of}
use Rattle.report_text.specs.Parts.{part_of}
use Rattle.bytes_print.proofs.PrintedLaws.{both, same_text}
use Rattle.report_text.proofs.TextLaws.{standings-is}
use Rattle.report_wording.specs.declared.Part.TheVariants.{Held, Heads, Waiting, Void}
use Rattle.report_text.proofs.print_standings.Goals as goal

pub returns-clause-prints : goal.returns-clause-prints
returns-clause-prints c =
    let l = book c.args.replica.now in
    let s = store_of c.args.replica.now in
    let are = c.requires.in_order.are in
    same_text (standings-is l s)
    (both (same_text (ap (part_of l s Held) are) c.print.ensures.prints)
    (both (same_text (ap (part_of l s Heads) are) c.print-2.ensures.prints)
    (both (same_text (ap (part_of l s Waiting) are) c.print-3.ensures.prints)
    (same_text (ap (part_of l s Void) are) c.print-4.ensures.prints))))
