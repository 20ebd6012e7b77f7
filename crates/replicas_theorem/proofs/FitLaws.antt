-- A report fits where the buffer is as long as the terms of the ledger ask for.
use Rattle.std.specs.Prelude.{◌≡◌, refl, ℕ, ◌≤◌, ◌<◌, List, length}
use Rattle.std.proofs.Common.{subst, ap, ◌∙◌, arith}
use Rattle.bytes_order.specs.BoolLaws.{true-false}
use Rattle.update_format.specs.Update.{Update}
use Rattle.rules.specs.declared.Form.{Form}
use Rattle.rules.specs.Report.{report_size}
use Rattle.ledger_state.specs.State.{Book}
use Rattle.ledger_state.specs.Stands.{update_at, Stands}
use Rattle.ledger_state.proofs.TakeLaws.{stands-sound}
use Rattle.ledger_refusals.specs.Numbers.{row11_number, Output, refused_by}
use Rattle.ledger_state.specs.FindLaws.{ident-length}
use Rattle.ledger.specs.Report.{ReportRow, unfit, short, written}
use Rattle.ledger.specs.ReportRoomLaws.{size-suffices}

-- for a ledger that stands, row 11 does not apply where the buffer has as many bytes as the longest report of the form
pub report-fits : {form : Form} {l : Book} {s o o' : List ℕ} {v : Output} (us : List Update) → Stands l s us → ReportRow form l s o v o'
    → report_size l.terms.bounds l.terms.places form ≤ length o
    → v ≡ refused_by row11_number → ⊥
report-fits us h row k q =
    let holds = h.holds in
    size-suffices (λ j g. ap length (holds.ids j (subst (λ (n : ℕ). j < n) holds.number g)) ∙ ident-length (update_at us j)) row k q

-- so the report is not refused
pub report-answers : {form : Form} {l : Book} {s o o' : List ℕ} {v : Output} (us : List Update) → Stands l s us → ReportRow form l s o v o'
    → report_size l.terms.bounds l.terms.places form ≤ length o
    → (n : ℕ) → v ≡ refused_by n → ⊥
report-answers {l = l} {s = s} us h (unfit f) k n q = true-false (stands-sound l s us h) f
report-answers {o = o} us h (short text f t j) k n q = report-fits {o = o} us h (short text f t j) k refl
report-answers us h (written text f t j) k n q = let z : ◌≡◌ {A = ℕ} 0 1 = cc in omega arith
