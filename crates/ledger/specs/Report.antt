-- What the entries `report` and `report_as` promise, for every form, ledger, store and buffer.
use Rattle.std.specs.Prelude.{◌≡◌, ℕ, ◌≤◌, ◌<◌, List, ◌++◌, true, false, length, drop}
use Rattle.std.specs.Prelude.{Result, Ok, Err}
use Rattle.update_format.specs.Update.{Update}
use Rattle.rules.specs.declared.Form.{Form}
use Rattle.rules.specs.Report.{report_of}
use Rattle.ledger_state.specs.Row1.{sound}
use Rattle.ledger_state.specs.Stands.{rules, Stands}
use Rattle.ledger_state.specs.State.{Book}
use Rattle.report_text.specs.Text.{text_of}
use Rattle.ledger_refusals.specs.declared.Refusal.{Refusal}
use Rattle.ledger_refusals.specs.Numbers.{row1_number, row11_number, refusal_number, Output, put_bytes, refused_by}

-- The text that is reported of a ledger and its store in a form: for a ledger that stands, the report that the rules give for its updates. For a ledger or a store
-- that is not the library's own the rules leave the text free; it is `text_of` in every case, so that the form, the ledger and the store alone determine it.
pub record ReportText (form : Form) (l : Book) (s text : List ℕ) : Type 0 where
  pub of_rules : (us : List Update) → Stands l s us → text ≡ report_of form rules us
  pub determined : text ≡ text_of l s form

-- document 01's values for each case of the answer
abbrev pub report_values : Result ℕ Refusal → Output
report_values (Ok n) = put_bytes n
report_values (Err r) = refused_by (refusal_number r)

-- "The report checks 1, 11.", the second by the length of the text in the form. "The writer and the report put their result at the start of the output buffer and return
-- its length; the bytes after it keep their values."
pub data ReportRow (form : Form) (l : Book) (s o : List ℕ) : Output → List ℕ → Type 0 where
  unfit : sound l s ≡ false → ReportRow form l s o (refused_by row1_number) o
  short : (text : List ℕ) → sound l s ≡ true → ReportText form l s text → length o < length text → ReportRow form l s o (refused_by row11_number) o
  written : (text : List ℕ) → sound l s ≡ true → ReportText form l s text → length text ≤ length o
      → ReportRow form l s o (put_bytes (length text)) (text ++ drop (length text) o)

-- the promise of `report_as`, and with `default_form` that of `report`
abbrev pub Reporting : Form → Book → List ℕ → List ℕ → Result ℕ Refusal → List ℕ → Type 0
Reporting form l s o r o' = ReportRow form l s o (report_values r) o'
