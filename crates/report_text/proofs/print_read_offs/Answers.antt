use Rattle.std.proofs.Common.{ap, ◌∙◌}
use Rattle.ledger_state.specs.View.{book, store_of}
use Rattle.report_text.specs.Parts.{marks_part, part_of}
use Rattle.bytes_print.proofs.PrintedLaws.{both, same_text}
use Rattle.report_parts.proofs.Marking.{marks-are}
use Rattle.report_text.proofs.TextLaws.{read-offs-is}
use Rattle.report_wording.specs.declared.Part.TheVariants.{Set, List as Entries}
use Rattle.report_text.proofs.print_read_offs.Goals as goal

pub returns : goal.returns
returns c =
    let l = book c.args.replica.now in
    let s = store_of c.args.replica.now in
    same_text (read-offs-is l s)
    (both (same_text (ap marks_part (marks-are l s c.marked.result c.marked-2.result c.marked.ensures c.marked-2.ensures)) c.print.ensures.prints)
    (both (same_text (ap (part_of l s Set) (c.as_slice.ensures.value ∙ c.sorted-added.ensures.are)) c.print-2.ensures.prints)
    (both (same_text (ap (part_of l s Entries) (c.as_slice-2.ensures.value ∙ c.entries-entries.ensures.are)) c.print-3.ensures.prints) c.put.ensures)))
