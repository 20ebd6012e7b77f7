use Rattle.bytes_print.proofs.PrintedLaws.{both, same_text}
use Rattle.report_wording.proofs.LineLaws.{bytes-line}
use Rattle.report_wording.proofs.bytes_line.Goals as goal

pub returns-clause-prints : goal.returns-clause-prints
returns-clause-prints c = same_text (bytes-line c.args.bytes.now) (both c.open_bytes.ensures.prints c.put.ensures)
