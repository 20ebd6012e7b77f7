-- Demand 3: one claim about two lists of offers, made to two fresh ledgers with stores of their own, and the two full reports asked for at the end.
--
-- The reports are equal, byte for byte, exactly when the two sets of well-formed updates are equal; and each report is, byte for byte, the one that the rules
-- give for its set: laid out from parts that are those of the rules' definitions. What is assumed: neither list holds more than 64 distinct well-formed updates, and no two different ones of both lists share a SHA-256.
-- Assumes nothing else. Of short reports (document 02, E10) the same is claimed, but for what unequal sets show.
use Rattle.std.specs.Prelude.{◌≡◌, ℕ, List, length, take, Ok}
use Rattle.update_format.specs.Update.{document_bounds}
use Rattle.rules.specs.declared.Form.{Form}
use Rattle.rules.specs.declared.Form.TheVariants.{Full}
use Rattle.ledger_state.specs.declared.Ledger.{Ledger}
use Rattle.ledger_state.specs.State.{document_terms, store_length_of}
use Rattle.ledger_state.specs.View.{book_of, fresh_ledger}
use Rattle.ledger_offering.specs.Calls.{Offers}
use Rattle.ledger.specs.Report.{Reporting}
use Rattle.ledger.specs.AfterOffers.{LaidOut}
use Rattle.replicas_theorem.specs.Sets.{updates_of, set_of, report_for}

-- One copy: calls, made to a fresh ledger and a store of the stated length, holding anything, and then a report of the form in the buffer o, which answers with its
-- length. "A full report is the bytes put at the start of the output buffer, as many as the returned length." `Made` says what the calls are.
pub record CopyOf {C : Type 0} (Made : Ledger → List ℕ → C → Ledger → List ℕ → Type 0) (form : Form) (made : C) (text : List ℕ) : Type 0 where
  pub first_store : List ℕ
  pub store_length : length first_store ≡ store_length_of document_terms
  pub ledger : Ledger
  pub store : List ℕ
  pub calls : Made fresh_ledger first_store made ledger store
  pub buffer : List ℕ
  pub buffer_after : List ℕ
  pub answer : ℕ
  pub reported : Reporting form (book_of ledger) store buffer (Ok answer) buffer_after
  pub shown : text ≡ take answer buffer_after

-- a copy to which the byte strings are offered
abbrev pub Copy : Form → List (List ℕ) → List ℕ → Type 0
Copy form bs text = CopyOf Offers form bs text

pub record SideBySide (xs ys : List (List ℕ)) (first second : List ℕ) : Type 0 where
  pub equal_sets_equal_reports : set_of document_bounds xs ≡ set_of document_bounds ys → first ≡ second
  pub equal_reports_equal_sets : first ≡ second → set_of document_bounds xs ≡ set_of document_bounds ys
  pub first_right : first ≡ report_for Full (set_of document_bounds xs)
  pub second_right : second ≡ report_for Full (set_of document_bounds ys)
  pub first_laid_out : LaidOut Full (updates_of document_bounds xs) first
  pub second_laid_out : LaidOut Full (updates_of document_bounds ys) second

-- What both forms have in common. "Mills with equal sets have equal short reports too, but unequal sets are promised to show only in the full one." (Two unequal sets
-- with one short report: `unequal-sets`, `equal-short-reports`, `rules/proofs/SmallLaws`.)
pub record SideBySideIn (form : Form) (xs ys : List (List ℕ)) (first second : List ℕ) : Type 0 where
  pub equal_sets_equal_reports : set_of document_bounds xs ≡ set_of document_bounds ys → first ≡ second
  pub first_right : first ≡ report_for form (set_of document_bounds xs)
  pub second_right : second ≡ report_for form (set_of document_bounds ys)
  pub first_laid_out : LaidOut form (updates_of document_bounds xs) first
  pub second_laid_out : LaidOut form (updates_of document_bounds ys) second
