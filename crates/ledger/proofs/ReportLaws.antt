-- What the entry `report_as` has shown at each of its ends.
use mathlib.Core.Path.{◌≡◌, refl, sym, subst, ◌∙◌, ap}
use Prim.Native.Nat.{ℕ, ◌≤◌, ◌<◌}
use native.Mathlib.Nat.{zero-add, le_trans}
use mathlib.Core.List.{List, ◌++◌}
use mathlib.Core.Bool.{true}
use Rattle.std.specs.Prelude.{Ok, Err}
use lib.ListN.{length, drop}
use Rattle.update_format.specs.Update.{id_length}
use Rattle.rules.specs.declared.Form.{Form}
use Rattle.rules.specs.Report.{report_size}
use Rattle.rules.proofs.ReportLaws.{size-grows}
use Rattle.rules.proofs.TermsLaws.{some-authors}
use Rattle.ledger_state.specs.Row1.{sound}
use Rattle.ledger_state.proofs.Row1Laws.{sound→}
use Rattle.ledger_state.specs.State.{Book, place_at}
use Rattle.report_text.specs.Text.{text_of}
use Rattle.bytes_print.specs.Page.{Prints}
use Rattle.report_text.specs.TextRight.{text-right}
use Rattle.report_text.specs.TextLength.{text_of-length}
use Rattle.ledger_refusals.specs.declared.Refusal.TheVariants.{Short}
use Rattle.ledger.specs.Report.{ReportText, Reporting, short, written}

module _ (form : Form) (l : Book) (s : List ℕ) (fits : sound l s ≡ true) (o : List ℕ) where
  abbrev text : List ℕ
  text = text_of l s form

  is-text : ReportText form l s text
  is-text = record { of_rules = text-right form l s; determined = refl }

  long : {page page' : List ℕ} {n : ℕ} → Prints page 0 (text_of l s form) page' n → n ≡ length text
  long p = p.past ∙ zero-add (length text)

  -- printed where it fits
  reported-written : {o' : List ℕ} {n : ℕ} → Prints o 0 (text_of l s form) o' n → n ≤ length o → Reporting form l s o (Ok n) o'
  reported-written {o'} p h =
      let put : o' ≡ text ++ drop (length text) o = p.fits h ∙ ap (λ (k : ℕ). text ++ drop k o) (zero-add (length text)) in
      rw (put, long p) (written text fits is-text (subst (λ (k : ℕ). k ≤ length o) (long p) h))

  -- at once, where the buffer has room for every report of the form
  pub reported-at-once : ((k : ℕ) → k < l.used → length (place_at l k).id ≡ id_length) → report_size l.terms.bounds l.terms.places form ≤ length o
      → {o' : List ℕ} {n : ℕ} → Prints o 0 (text_of l s form) o' n → Reporting form l s o (Ok n) o'
  reported-at-once sized room p =
      reported-written p (subst (λ (k : ℕ). k ≤ length o) (sym (long p)) (le_trans (le_trans (text_of-length form l s (some-authors l.terms (sound→ l s fits).terms_allowed) sized) (size-grows l.terms.bounds form (sound→ l s fits).few)) room))

  -- once the length was asked
  module _ {page page' : List ℕ} {n : ℕ} (asked : Prints page 0 (text_of l s form) page' n) where
    pub reported-short : length o < n → Reporting form l s o (Err Short) o
    reported-short h = short text fits is-text (subst (λ (k : ℕ). length o < k) (long asked) h)

    pub reported-asked : n ≤ length o → {o' : List ℕ} {m : ℕ} → Prints o 0 (text_of l s form) o' m → Reporting form l s o (Ok m) o'
    reported-asked h p = reported-written p (subst (λ (k : ℕ). k ≤ length o) (asked.past ∙ sym p.past) h)
