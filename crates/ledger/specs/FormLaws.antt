-- The form, the ledger, the store and the buffer determine a report's answer and what it leaves in the buffer; so naming the short form is naming none.
use Rattle.std.specs.Prelude.{◌≡◌, refl, ℕ, List, ◌++◌, length, drop, Result}
use Rattle.std.proofs.Common.{sym, ap, ◌∙◌, arith}
use Rattle.bytes_order.specs.BoolLaws.{true-false}
use Rattle.rules.specs.declared.Form.{Form}
use Rattle.rules.specs.declared.Form.TheVariants.{Short}
use Rattle.rules.specs.Report.{default_form}
use Rattle.ledger_state.specs.State.{Book}
use Rattle.ledger_refusals.specs.declared.Refusal.{Refusal}
use Rattle.ledger_refusals.specs.Numbers.{Output, put_bytes}
use Rattle.ledger.specs.Report.{ReportText, ReportRow, unfit, short, written, Reporting}
use Rattle.ledger.specs.ValueLaws.{reported-one}

text-one : {form : Form} {l : Book} {s text text' : List ℕ} → ReportText form l s text → ReportText form l s text' → text ≡ text'
text-one t t' = t.determined ∙ sym t'.determined

module _ {form : Form} {l : Book} {s o : List ℕ} where
  row_one : {v w : Output} {o₁ o₂ : List ℕ} → ReportRow form l s o v o₁ → ReportRow form l s o w o₂ → (v ≡ w) × (o₁ ≡ o₂)
  row_one (unfit e) (unfit f) = (refl, refl)
  row_one (unfit e) (short text f t h) = absurd (true-false f e)
  row_one (unfit e) (written text f t h) = absurd (true-false f e)
  row_one (short text e t h) (unfit f) = absurd (true-false e f)
  row_one (short text e t h) (short text' f t' h') = (refl, refl)
  row_one (short text e t h) (written text' f t' h') = absurd (omega (arith, h, h', ap length (text-one t t')))
  row_one (written text e t h) (unfit f) = absurd (true-false e f)
  row_one (written text e t h) (short text' f t' h') = absurd (omega (arith, h, h', ap length (text-one t t')))
  row_one (written text e t h) (written text' f t' h') =
      let q = text-one t t' in (ap (λ (x : List ℕ). put_bytes (length x)) q, ap (λ (x : List ℕ). x ++ drop (length x) o) q)

  -- two calls with these arguments answer the same, and leave the same in the buffer
  pub report-one : {r q : Result ℕ Refusal} {o₁ o₂ : List ℕ} → Reporting form l s o r o₁ → Reporting form l s o q o₂ → (r ≡ q) × (o₁ ≡ o₂)
  report-one {r} {q} a b = let e = row_one a b in (reported-one r q e.0, e.1)

-- Document 02, E10: what `report` promises, and what `report_as` promises of the short form, for every ledger, store and buffer: the same answer and the same bytes
pub default-short : {l : Book} {s o o₁ o₂ : List ℕ} {r q : Result ℕ Refusal} → Reporting default_form l s o r o₁ → Reporting Short l s o q o₂ → (r ≡ q) × (o₁ ≡ o₂)
default-short a b = report-one a b
