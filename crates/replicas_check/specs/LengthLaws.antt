-- A report is only written where the store has the stated length; offers keep it (`calls-length`), so the first store had it too.
use Rattle.std.specs.Prelude.{◌≡◌, refl, ℕ, List, length, Ok}
use Rattle.std.proofs.Common.{sym, ◌∙◌, arith}
use Rattle.rules.specs.declared.Form.{Form}
use Rattle.ledger_state.specs.declared.Ledger.{Ledger}
use Rattle.ledger_state.specs.State.{document_terms, store_length_of, Book}
use Rattle.ledger_state.specs.View.{book_of}
use Rattle.ledger_state.proofs.Row1Laws.{sound→}
use Rattle.ledger_refusals.specs.Numbers.{Output, put_bytes}
use Rattle.ledger_offering.specs.Calls.{Offers}
use Rattle.ledger_offering.specs.CallsLaws.{calls-length}
use Rattle.ledger.specs.Report.{ReportRow, unfit as not-fit, short, written, Reporting}

report-store : {form : Form} {l : Book} {s o o' : List ℕ} {v : Output} → ReportRow form l s o v o' → (n : ℕ) → v ≡ put_bytes n → length s ≡ store_length_of l.terms
report-store (not-fit e) n q = let z : ◌≡◌ {A = ℕ} 0 1 = cc in absurd (omega arith)
report-store (short text e t k) n q = let z : ◌≡◌ {A = ℕ} 0 1 = cc in absurd (omega arith)
report-store {l = l} {s = s} (written text e t k) n q = (sound→ l s e).store

-- so the first store had it too
pub reported-store : {form : Form} {l l' : Ledger} {s s' o o' : List ℕ} {bs : List (List ℕ)} {n : ℕ} → Offers l s bs l' s' → Reporting form (book_of l') s' o (Ok n) o'
    → length s ≡ store_length_of document_terms
reported-store {n = n} c r = sym (calls-length c.1) ∙ report-store r n refl
