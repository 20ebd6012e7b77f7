use Rattle.bytes_print.proofs.PrintedLaws.{both, same_text}
use Rattle.report_wording.proofs.LineLaws.{open-bytes}
use Rattle.report_wording.proofs.open_bytes.Goals as goal

pub returns-clause-prints : goal.returns-clause-prints
returns-clause-prints c = same_text (open-bytes _) (both c.put.ensures c.hex.ensures.prints)
