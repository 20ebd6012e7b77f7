-- The claim about two copies, proved: what it says is in `specs/Copies`.
use Rattle.std.specs.Prelude.{◌≡◌, refl, ℕ, List}
use Rattle.std.proofs.Common.{sym, ◌∙◌, ap}
use Rattle.update_format.specs.Update.{document_bounds}
use Rattle.rules.specs.declared.Form.{Form}
use Rattle.rules.specs.declared.Form.TheVariants.{Full}
use Rattle.rules.specs.Settle.{parts_of}
use Rattle.rules.specs.Report.{report_of}
use Rattle.rules.proofs.PartsLaws.{read_right}
use Rattle.rules.proofs.ReportLaws.{same-report}
use Rattle.ledger_state.specs.State.{document_terms}
use Rattle.ledger_state.specs.Stands.{rules}
use Rattle.ledger.specs.Calls.{stored, offers-stand}
use Rattle.ledger.specs.AfterOffers.{LaidOut, report-shown}
use Rattle.replicas_theorem.specs.Sets.{updates_of, set_of, report_for, Fits, NoCollision}
use Rattle.replicas_theorem.proofs.SetLaws.{Apart, first-apart, second-apart, updates-distinct}
use Rattle.replicas_theorem.proofs.StoredLaws.{stored-distinct, stored_same}
use Rattle.replicas_theorem.specs.Copies.{Copy, SideBySide, SideBySideIn}
use Rattle.replicas_theorem.proofs.FullReports.{report-shows}

-- the report of a copy is that of the updates stored
pub copy-report : {form : Form} (bs : List (List ℕ)) (text : List ℕ) → Copy form bs text → text ≡ report_of form rules (stored document_terms bs)
copy-report bs text c = c.shown ∙ report-shown (stored document_terms bs) (offers-stand c.store_length c.calls) c.reported c.answer refl

-- and so the one that the rules give for its set
copy-right : {form : Form} (bs : List (List ℕ)) (text : List ℕ) → Copy form bs text → Fits document_terms bs → Apart document_bounds bs bs → text ≡ report_for form (set_of document_bounds bs)
unfolding report_for
copy-right {form} bs text c fits one =
    copy-report bs text c
    ∙ same-report form rules (stored document_terms bs) (updates_of document_bounds bs) (stored-distinct document_terms bs fits one) (updates-distinct document_bounds bs one) (stored_same document_terms bs fits one)

-- the report that the rules give for a set is laid out from the parts that their definitions give
set-laid-out : {form : Form} (bs : List (List ℕ)) (text : List ℕ) → Apart document_bounds bs bs → text ≡ report_for form (set_of document_bounds bs) → LaidOut form (updates_of document_bounds bs) text
unfolding report_for report_of
set-laid-out bs text one e =
    record { parts = parts_of rules (updates_of document_bounds bs); read = read_right rules (updates_of document_bounds bs) (updates-distinct document_bounds bs one); laid_out = e }

pub side-by-side-in : (form : Form) (xs ys : List (List ℕ)) (first second : List ℕ) → Copy form xs first → Copy form ys second
    → Fits document_terms xs → Fits document_terms ys → NoCollision document_bounds xs ys → SideBySideIn form xs ys first second
side-by-side-in form xs ys first second p q fits-first fits-second none =
    let r : first ≡ report_for form (set_of document_bounds xs) = copy-right xs first p fits-first (first-apart document_bounds xs ys none) in
    let s : second ≡ report_for form (set_of document_bounds ys) = copy-right ys second q fits-second (second-apart document_bounds xs ys none) in
    record {
      equal_sets_equal_reports = λ e. r ∙ ap (report_for form) e ∙ sym s;
      first_right = r;
      second_right = s;
      first_laid_out = set-laid-out xs first (first-apart document_bounds xs ys none) r;
      second_laid_out = set-laid-out ys second (second-apart document_bounds xs ys none) s;
    }

pub side_by_side : (xs ys : List (List ℕ)) (first second : List ℕ) → Copy Full xs first → Copy Full ys second → Fits document_terms xs → Fits document_terms ys → NoCollision document_bounds xs ys
    → SideBySide xs ys first second
side_by_side xs ys first second p q fits-first fits-second none =
    let b = side-by-side-in Full xs ys first second p q fits-first fits-second none in
    record {
      equal_sets_equal_reports = b.equal_sets_equal_reports;
      equal_reports_equal_sets = λ e. report-shows xs ys none (sym b.first_right ∙ e ∙ b.second_right);
      first_right = b.first_right;
      second_right = b.second_right;
      first_laid_out = b.first_laid_out;
      second_laid_out = b.second_laid_out;
    }
