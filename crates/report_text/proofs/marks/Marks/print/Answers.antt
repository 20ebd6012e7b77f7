use Rattle.update_format.specs.Update.{document_bounds}
use Rattle.bytes_print.proofs.PrintedLaws.{both, same_text}
use Rattle.bitset.specs.Bits.{has}
use Rattle.report_parts.specs.PlaceParts.{author_marks}
use Rattle.report_text.proofs.MarkLaws.{marks-is}
use Rattle.report_text.proofs.marks.Marks.print.Goals as goal

pub returns-clause-prints : goal.returns-clause-prints
returns-clause-prints c =
    same_text (marks-is (author_marks document_bounds.authors (has c.args.self.forked) (has c.args.self.faulty))) (both c.put.ensures (both c.lines.ensures.prints c.put-2.ensures))
