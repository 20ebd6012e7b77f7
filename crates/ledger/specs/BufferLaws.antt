-- What a report does to the buffer, in every form: the buffer keeps its length; a report that is written lies within it; one that is refused leaves it.
use Rattle.std.specs.Prelude.{◌≡◌, refl, ℕ, ◌≤◌, List, length, take, drop}
use Rattle.std.proofs.Common.{arith, length-append, length-drop, length-take-le}
use Rattle.rules.specs.declared.Form.{Form}
use Rattle.ledger_state.specs.State.{Book}
use Rattle.ledger_refusals.specs.Numbers.{Output, put_bytes, refused_by}
use Rattle.ledger.specs.Report.{ReportRow, unfit, short, written}

pub buffer-length : {form : Form} {l : Book} {s o o' : List ℕ} {v : Output} → ReportRow form l s o v o' → length o' ≡ length o
buffer-length (unfit e) = refl
buffer-length (short text e t k) = refl
buffer-length {o = o} (written text e t k) = omega (arith, length-append text (drop (length text) o), length-drop (length text) o)

-- a report that is written lies within the buffer
pub report-within : {form : Form} {l : Book} {s o o' : List ℕ} {v : Output} → ReportRow form l s o v o' → (n : ℕ) → v ≡ put_bytes n → n ≤ length o'
report-within (unfit e) n q = let z : ◌≡◌ {A = ℕ} 0 1 = cc in absurd (omega arith)
report-within (short text e t k) n q = let z : ◌≡◌ {A = ℕ} 0 1 = cc in absurd (omega arith)
report-within {o = o} (written text e t k) n q = let p : length text ≡ n = cc in omega (arith, p, length-append text (drop (length text) o))

pub written-length : {form : Form} {l : Book} {s o o' : List ℕ} {v : Output} → ReportRow form l s o v o' → (n : ℕ) → v ≡ put_bytes n → length (take n o') ≡ n
written-length {o' = o'} h n q = length-take-le n o' (report-within h n q)

-- a report that is refused leaves the buffer as it was
pub refused-leaves : {form : Form} {l : Book} {s o o' : List ℕ} {v : Output} → ReportRow form l s o v o' → (n : ℕ) → v ≡ refused_by n → o' ≡ o
refused-leaves (unfit e) n q = refl
refused-leaves (short text e t k) n q = refl
refused-leaves (written text e t k) n q = let z : ◌≡◌ {A = ℕ} 0 1 = cc in absurd (omega arith)
