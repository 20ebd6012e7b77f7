-- Demand 2, its first half: after any offers to a fresh ledger the entries say what the rules give for the updates stored.
use Rattle.std.specs.Prelude.{◌≡◌, refl, ℕ, List, length, take, drop, Ok}
use Rattle.std.proofs.Common.{◌∙◌, arith}
use Rattle.std.proofs.Math.Seq.{take-append_seam}
use Rattle.update_format.specs.Update.{Update}
use Rattle.update_format.specs.Decode.{decode}
use Rattle.rules.specs.declared.Form.{Form}
use Rattle.rules.specs.Parts.{Parts, ReadFrom}
use Rattle.rules.specs.Settle.{parts_of}
use Rattle.rules.specs.Report.{report_text, report_of}
use Rattle.rules.proofs.PartsLaws.{read_right}
use Rattle.ledger_state.specs.declared.Ledger.{Ledger}
use Rattle.ledger_state.specs.View.{book_of, fresh_ledger}
use Rattle.ledger_state.specs.State.{document_terms, store_length_of, Book}
use Rattle.ledger_state.specs.Stands.{rules, Stands}
use Rattle.ledger_refusals.specs.Numbers.{Output, put_bytes}
use Rattle.ledger_offering.specs.Values.{OfferValues}
use Rattle.ledger_offering.specs.Offer.{OfferRow}
use Rattle.ledger.specs.Report.{ReportRow, unfit, short, written, Reporting}
use Rattle.ledger_offering.specs.Calls.{Offers}
use Rattle.ledger.specs.Calls.{stored, offers-stand, AnswersFor, stands-answers}
use Rattle.ledger.specs.Answers.{answer_for, answer-right}
use Rattle.lookup_standings.specs.Lookup.{compared_ids, LookupRow}
use Rattle.ledger.specs.Lookups.{LookupRuled, lookup-ruled}

-- the text is laid out in the form from parts that are exactly those that the rules give for the updates
pub record LaidOut (form : Form) (us : List Update) (text : List ℕ) : Type 0 where
  pub parts : Parts
  pub read : ReadFrom rules us parts
  pub laid_out : text ≡ report_text form rules parts

-- What the entries say of a ledger and its store is what the rules give for the updates: the standing of every id, the bytes and the comparisons of many, the bytes of a
-- report in each form, and the answer to a further offer.
pub record AsRuled (us : List Update) (l : Ledger) (s : List ℕ) : Type 0 where
  pub standing : AnswersFor (book_of l) s us
  pub looked-up : {a o o' : List ℕ} {n : ℕ} → LookupRow (book_of l) s a o (compared_ids n) o' → LookupRuled us a o n o'
  pub reported : (form : Form) {o o' : List ℕ} {n : ℕ} → Reporting form (book_of l) s o (Ok n) o' → LaidOut form us (take n o')
  pub answered : (b : List ℕ) {v : OfferValues} {r : Ledger} {s' : List ℕ} → OfferRow l s b v r s' → v ≡ answer_for (book_of l).terms us (decode (book_of l).terms.bounds b)

-- the bytes reported of a ledger that stands
pub report-shown : {form : Form} {l : Book} {s o o' : List ℕ} {v : Output} (us : List Update) → Stands l s us → ReportRow form l s o v o'
    → (n : ℕ) → v ≡ put_bytes n → take n o' ≡ report_of form rules us
report-shown us h (unfit e) n q = let z : ◌≡◌ {A = ℕ} 0 1 = cc in absurd (omega arith)
report-shown us h (short text e t k) n q = let z : ◌≡◌ {A = ℕ} 0 1 = cc in absurd (omega arith)
report-shown {o = o} us h (written text e t k) n q =
    let p : length text ≡ n = cc in
    rw (← p) (take-append_seam text (drop (length text) o) ∙ t.of_rules us h)

pub stands-ruled : (l : Ledger) {s : List ℕ} (us : List Update) → Stands (book_of l) s us → AsRuled us l s
unfolding report_of
stands-ruled l {s} us h =
    record {
      standing = stands-answers (book_of l) s us h;
      looked-up = λ {a} {o} {o'} {n} r. lookup-ruled us h r n refl;
      reported = λ form {o} {o'} {n} r. record { parts = parts_of rules us; read = read_right rules us h.holds.distinct; laid_out = report-shown us h r n refl };
      answered = λ b o. answer-right l s us h b o;
    }

-- Demand 2 of offers, with any first contents of the store
pub after-offers : {l : Ledger} {s s' : List ℕ} {bs : List (List ℕ)} → length s ≡ store_length_of document_terms → Offers fresh_ledger s bs l s' → AsRuled (stored document_terms bs) l s'
after-offers {l = l} {bs = bs} h c = stands-ruled l (stored document_terms bs) (offers-stand h c)
