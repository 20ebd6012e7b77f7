-- A report is never refused by row 11 where the buffer has room for every report of the form, whatever the ledger and the store are.
use Rattle.std.specs.Prelude.{◌≡◌, ℕ, ◌*◌, ◌≤◌, ◌<◌, List, length}
use Rattle.std.proofs.Common.{sym, ap, subst, le_trans, arith}
use Rattle.update_format.specs.Update.{id_length}
use Rattle.rules.specs.declared.Form.{Form}
use Rattle.rules.specs.Report.{report_size, report_per_place, longest}
use Rattle.rules.specs.ReportLaws.{document-size}
use Rattle.rules.proofs.ReportLaws.{size-grows, allowed-size}
use Rattle.rules.proofs.TermsLaws.{some-authors}
use Rattle.ledger_state.specs.State.{Terms, document_terms, Book, place_at}
use Rattle.ledger_state.proofs.Row1Laws.{sound→}
use Rattle.report_text.specs.TextLength.{text_of-length}
use Rattle.ledger_refusals.specs.Numbers.{row1_number, row11_number, Output, refused_by}
use Rattle.ledger.specs.Report.{ReportRow, unfit, short, written}

-- Where the buffer is as long as the terms of the ledger ask for. The ids of a view of a ledger have 32 bytes: `id-length` of `ledger_state/proofs/Owning`
pub size-suffices : {form : Form} {l : Book} {s o o' : List ℕ} {v : Output} → ((k : ℕ) → k < l.used → length (place_at l k).id ≡ id_length)
    → ReportRow form l s o v o' → report_size l.terms.bounds l.terms.places form ≤ length o → v ≡ refused_by row11_number → ⊥
size-suffices sized (unfit e) k q = let z : ◌≡◌ {A = ℕ} row1_number row11_number = cc in omega arith
size-suffices {form} {l} {s} sized (short text e t j) k q =
    let h = sound→ l s e in
    omega (
      arith,
      text_of-length form l s (some-authors l.terms h.terms_allowed) sized,
      size-grows l.terms.bounds form h.few,
      ap length t.determined,
      j,
      k,
    )
size-suffices sized (written text e t j) k q = let z : ◌≡◌ {A = ℕ} 0 1 = cc in omega arith

-- .. and so where it has 256 bytes a place (document 02, E6)
pub allowed-suffices : {form : Form} {l : Book} {s o o' : List ℕ} {v : Output} → ((k : ℕ) → k < l.used → length (place_at l k).id ≡ id_length)
    → ReportRow form l s o v o' → report_per_place * l.terms.places ≤ length o → v ≡ refused_by row11_number → ⊥
allowed-suffices {form} {l} {s} {o} sized (unfit e) k q = let z : ◌≡◌ {A = ℕ} row1_number row11_number = cc in omega arith
allowed-suffices {form} {l} {s} {o} sized (short text e t j) k q =
    size-suffices {o = o} sized (short text e t j) (le_trans (allowed-size l.terms (sound→ l s e).terms_allowed form) k) q
allowed-suffices sized (written text e t j) k q = let z : ◌≡◌ {A = ℕ} 0 1 = cc in omega arith

-- at document 01's terms: 12,000 bytes, and 2,644 for the short form
pub room-suffices : {form : Form} {l : Book} {s o o' : List ℕ} {v : Output} → ((k : ℕ) → k < l.used → length (place_at l k).id ≡ id_length)
    → l.terms ≡ document_terms → ReportRow form l s o v o' → longest form ≤ length o → v ≡ refused_by row11_number → ⊥
room-suffices {form} {o = o} sized at row k =
    size-suffices {o = o} sized row
    (le_trans (subst (λ (t : Terms). report_size t.bounds t.places form ≤ longest form) (sym at) (document-size form)) k)
