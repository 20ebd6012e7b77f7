-- The claim about two copies, of single offers and bundles in any mixture, proved.
use Rattle.std.specs.Prelude.{◌≡◌, ℕ, List}
use Rattle.std.proofs.Common.{sym, ap, ◌∙◌}
use Rattle.update_format.specs.Update.{document_bounds}
use Rattle.rules.specs.declared.Form.{Form}
use Rattle.rules.specs.declared.Form.TheVariants.{Full}
use Rattle.rules.specs.Report.{report_of}
use Rattle.ledger_state.specs.State.{document_terms}
use Rattle.ledger_state.specs.Stands.{rules}
use Rattle.ledger.specs.Calls.{stored}
use Rattle.ledger.specs.BundleCalls.{Call, offered_by_all, calls-offers, Cut, cut-offers}
use Rattle.replicas_theorem.specs.Sets.{Fits, NoCollision}
use Rattle.replicas_theorem.specs.Copies.{Copy, SideBySide, SideBySideIn}
use Rattle.replicas_theorem.proofs.Copies.{copy-report, side_by_side, side-by-side-in}
use Rattle.replicas_theorem.specs.BundleCopies.{CallCopy}

-- it is a copy to which what they offer is offered
pub call-copy : {form : Form} {cs : List Call} {text : List ℕ} → CallCopy form cs text → Copy form (offered_by_all cs) text
call-copy c =
    record {
      first_store = c.first_store;
      store_length = c.store_length;
      ledger = c.ledger;
      store = c.store;
      calls = calls-offers c.calls;
      buffer = c.buffer;
      buffer_after = c.buffer_after;
      answer = c.answer;
      reported = c.reported;
      shown = c.shown;
    }

pub calls-side-by-side-in : (form : Form) (xs ys : List Call) (first second : List ℕ) → CallCopy form xs first → CallCopy form ys second
    → Fits document_terms (offered_by_all xs) → Fits document_terms (offered_by_all ys) → NoCollision document_bounds (offered_by_all xs) (offered_by_all ys)
    → SideBySideIn form (offered_by_all xs) (offered_by_all ys) first second
calls-side-by-side-in form xs ys first second p q fits-first fits-second none =
    side-by-side-in form (offered_by_all xs) (offered_by_all ys) first second (call-copy p) (call-copy q) fits-first fits-second none

pub calls-side-by-side : (xs ys : List Call) (first second : List ℕ) → CallCopy Full xs first → CallCopy Full ys second
    → Fits document_terms (offered_by_all xs) → Fits document_terms (offered_by_all ys) → NoCollision document_bounds (offered_by_all xs) (offered_by_all ys)
    → SideBySide (offered_by_all xs) (offered_by_all ys) first second
calls-side-by-side xs ys first second p q fits-first fits-second none =
    side_by_side (offered_by_all xs) (offered_by_all ys) first second (call-copy p) (call-copy q) fits-first fits-second none

-- One list of offers, cut into calls in two ways, with bundles that offer nothing between: the reports are the same bytes, in each form. Nothing is assumed: the
-- offers may be more than there are places for, and updates may share a SHA-256.
pub cut-same-report : {form : Form} {bs : List (List ℕ)} {xs ys : List Call} {first second : List ℕ} → Cut bs xs → Cut bs ys
    → CallCopy form xs first → CallCopy form ys second → first ≡ second
cut-same-report {form} {xs = xs} {ys = ys} {first = first} {second = second} c d p q =
    copy-report (offered_by_all xs) first (call-copy p)
    ∙ ap (λ (bs : List (List ℕ)). report_of form rules (stored document_terms bs)) (cut-offers c ∙ sym (cut-offers d))
    ∙ sym (copy-report (offered_by_all ys) second (call-copy q))
