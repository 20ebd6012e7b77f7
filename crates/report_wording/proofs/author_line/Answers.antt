use Rattle.std.proofs.Common.{◌∙◌}
use Rattle.update_format.specs.Update.{document_bounds}
use Rattle.update_format.specs.Decode.{decode}
use Rattle.bytes_print.proofs.PrintedLaws.{both, same_text}
use Rattle.report_wording.proofs.LineLaws.{author-line}
use Rattle.report_wording.proofs.author_line.Goals as goal

pub returns-clause-prints : goal.returns-clause-prints
returns-clause-prints c =
    same_text
    (author-line c.args.bytes.now (decode document_bounds c.args.b.now) c.from.result (c.from.ensures ∙ c.author_of.ensures.0))
    (both c.open_bytes.ensures.prints (both c.put.ensures (both c.decimal.ensures.prints c.put-2.ensures)))
