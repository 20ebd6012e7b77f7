-- What unequal sets show in full reports.
use Rattle.std.specs.Prelude.{◌≡◌, ℕ, List}
use Rattle.update_format.specs.Update.{document_bounds}
use Rattle.rules.specs.declared.Form.TheVariants.{Full}
use Rattle.rules.proofs.ReportLaws.{report-shows-set}
use Rattle.ledger_state.specs.Stands.{rules}
use Rattle.replicas_theorem.specs.Sets.{updates_of, set_of, report_for, NoCollision}
use Rattle.replicas_theorem.proofs.SetLaws.{first-apart, second-apart, both-apart, updates-distinct, updates-identified, updates-unique}

-- equal full reports of two sets show equal sets
pub report-shows : (xs ys : List (List ℕ)) → NoCollision document_bounds xs ys → report_for Full (set_of document_bounds xs) ≡ report_for Full (set_of document_bounds ys) → set_of document_bounds xs ≡ set_of document_bounds ys
unfolding report_for
report-shows xs ys none e =
    updates-unique document_bounds xs ys
    (report-shows-set rules (updates_of document_bounds xs) (updates_of document_bounds ys) (updates-distinct document_bounds xs (first-apart document_bounds xs ys none)) (updates-distinct document_bounds ys (second-apart document_bounds xs ys none))
    (updates-identified document_bounds xs ys (both-apart document_bounds xs ys none)) e)
