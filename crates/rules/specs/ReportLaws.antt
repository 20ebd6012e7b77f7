-- The bound of a report at document 01's terms, which a wrong number of places breaks. What the report's text is and shows is in `proofs/ReportLaws`.
use Rattle.std.specs.Prelude.{◌≡◌, refl, ◌≤◌}
use Rattle.std.proofs.Common.{leb-true}
use Rattle.update_format.specs.Update.{document_bounds}
use Rattle.rules.specs.declared.Form.{Form}
use Rattle.rules.specs.declared.Form.TheVariants.{Full, Short}
use Rattle.bytes_ascii.specs.Ascii.{digit, decimal, decimal_in}
use Rattle.rules.specs.Terms.{places}
use Rattle.rules.specs.Report.{author_digits, report_size, max_report, max_short_report, longest}

-- at document 01's terms
pub document-size : (form : Form) → report_size document_bounds places form ≤ longest form
unfolding report_size author_digits decimal decimal_in digit
document-size Full = leb-true (report_size document_bounds places Full) max_report refl
document-size Short = leb-true (report_size document_bounds places Short) max_short_report refl

pub document-short-size : report_size document_bounds places Short ≡ max_short_report
unfolding report_size author_digits decimal decimal_in digit
document-short-size = refl
