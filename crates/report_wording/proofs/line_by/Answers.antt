-- `line_by` meets its contract, by the part.
use Rattle.std.proofs.Common.{sym, ap, ◌∙◌}
use Rattle.update_format.specs.Update.{document_bounds}
use Rattle.update_format.specs.Decode.{decode}
use Rattle.report_wording.specs.declared.Part.{Part}
use Rattle.report_wording.specs.Lines.{line_by}
use Rattle.bytes_print.proofs.PrintedLaws.{same_text}
use Rattle.report_wording.proofs.LineLaws.{set_line_lem}
use Rattle.report_wording.proofs.line_by.Goals as goal

pub returns-in-Set-clause-prints : goal.returns-in-Set-clause-prints
returns-in-Set-clause-prints c =
    same_text
    (set_line_lem (decode document_bounds c.args.b.now) c.tag_of.ensures.0
    ∙ ap (λ (p : Part). line_by p c.args.id.now (decode document_bounds c.args.b.now)) (sym c.in-Set.is))
    c.author_line-in-Set.ensures.prints
