use Rattle.bytes_print.proofs.PrintedLaws.{both, same_text}
use Rattle.report_wording.proofs.LineLaws.{mark-line}
use Rattle.report_wording.proofs.mark_line.Goals as goal

pub returns-clause-prints : goal.returns-clause-prints
returns-clause-prints c =
    same_text (mark-line c.args.author c.args.kind) (both c.put.ensures (both c.decimal.ensures.prints c.mark_end.ensures.prints))
