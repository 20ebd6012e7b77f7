-- What the copy check `compare` promises, for any two lists, stores and buffers.
use Rattle.std.specs.Prelude.{ℕ, List, cond, length, take}
use Rattle.std.specs.Prelude.{Result, Ok, Err}
use Rattle.bytes_order.specs.Order.{same}
use Rattle.rules.specs.declared.Form.TheVariants.{Full}
use Rattle.ledger_state.specs.declared.Ledger.{Ledger}
use Rattle.ledger_refusals.specs.declared.Refusal.{Refusal}
use Rattle.ledger_refusals.specs.Numbers.{refusal_number, put_bytes, refused_by}
use Rattle.ledger_state.specs.View.{book_of, fresh_ledger}
use Rattle.ledger_offering.specs.Calls.{Offers}
use Rattle.ledger.specs.Report.{ReportRow, Reporting}
use Rattle.replicas_check.specs.declared.Comparison.{Comparison}
use Rattle.replicas_check.specs.declared.Comparison.TheVariants.{Same, Different}
use Rattle.replicas_check.specs.declared.Unreported.{Unreported}
use Rattle.replicas_check.specs.declared.Unreported.TheVariants.{First, Second}

-- One copy: offers of the list xs to a fresh ledger with the store s, and the full report into the buffer o.
pub record OneCopy (xs : List (List ℕ)) (s o : List ℕ) (r : Result ℕ Refusal) (s' o' : List ℕ) : Type 0 where
  pub ledger : Ledger
  pub calls : Offers fresh_ledger s xs ledger s'
  pub reports : Reporting Full (book_of ledger) s' o r o'

-- Document 01's values for each case of the answer: the length of the reports, where they are the same bytes; the length of each, where they differ; and for a copy that
-- gave no report the number of the row.
pub data CheckValues : Type 0 where
  same_of : ℕ → CheckValues
  different_of : ℕ → ℕ → CheckValues
  first_refused : ℕ → CheckValues
  second_refused : ℕ → CheckValues

abbrev pub check_values : Result Comparison Unreported → CheckValues
check_values (Ok (Same n)) = same_of n
check_values (Ok (Different n k)) = different_of n k
check_values (Err (First e)) = first_refused (refusal_number e)
check_values (Err (Second e)) = second_refused (refusal_number e)

-- the answer for two full reports
unfoldable pub compared_of : List ℕ → List ℕ → CheckValues
compared_of first second = cond (same first second) (same_of (length second)) (different_of (length first) (length second))

-- The second copy, beside the first one's full report: offers of the list ys to a fresh ledger with the store t, and its own into the buffer p. The
-- values of the answer, and the store and the buffer as they are left.
pub data SecondRow (first : List ℕ) (ys : List (List ℕ)) (t p : List ℕ) : CheckValues → List ℕ → List ℕ → Type 0 where
  unreported : {l : Ledger} {t' : List ℕ} (i : ℕ) → Offers fresh_ledger t ys l t' → ReportRow Full (book_of l) t' p (refused_by i) p
      → SecondRow first ys t p (second_refused i) t' p
  compared : {l : Ledger} {t' p' : List ℕ} (k : ℕ) → Offers fresh_ledger t ys l t' → ReportRow Full (book_of l) t' p (put_bytes k) p'
      → SecondRow first ys t p (compared_of first (take k p')) t' p'

-- The check of two copies: lists xs and ys, stores s and t, buffers o and p. The values of the answer, and the stores and the buffers as they are left. A constructor
-- for each ending. A copy that gave no report was offered its list, and its buffer is as it was; where that is the first, the second copy is left as it was.
pub data CheckRow (xs ys : List (List ℕ)) (s t o p : List ℕ) : CheckValues → List ℕ → List ℕ → List ℕ → List ℕ → Type 0 where
  first_unreported : {l : Ledger} {s' : List ℕ} (i : ℕ) → Offers fresh_ledger s xs l s' → ReportRow Full (book_of l) s' o (refused_by i) o
      → CheckRow xs ys s t o p (first_refused i) s' t o p
  second_unreported : {l m : Ledger} {s' o' t' : List ℕ} (n i : ℕ)
      → Offers fresh_ledger s xs l s' → ReportRow Full (book_of l) s' o (put_bytes n) o'
      → Offers fresh_ledger t ys m t' → ReportRow Full (book_of m) t' p (refused_by i) p
      → CheckRow xs ys s t o p (second_refused i) s' t' o' p
  compared : {l m : Ledger} {s' o' t' p' : List ℕ} (n k : ℕ)
      → Offers fresh_ledger s xs l s' → ReportRow Full (book_of l) s' o (put_bytes n) o'
      → Offers fresh_ledger t ys m t' → ReportRow Full (book_of m) t' p (put_bytes k) p'
      → CheckRow xs ys s t o p (compared_of (take n o') (take k p')) s' t' o' p'

-- the promise of `compare`
abbrev pub Checking : List (List ℕ) → List (List ℕ) → List ℕ → List ℕ → List ℕ → List ℕ → Result Comparison Unreported → List ℕ → List ℕ → List ℕ → List ℕ → Type 0
Checking xs ys s t o p r s' t' o' p' = CheckRow xs ys s t o p (check_values r) s' t' o' p'

-- the endings of the second copy, after a first report of n bytes
pub checking : {xs ys : List (List ℕ)} {s t o p : List ℕ} {l : Ledger} {s' o' t' p' : List ℕ} (n : ℕ) {v : CheckValues}
    → Offers fresh_ledger s xs l s' → ReportRow Full (book_of l) s' o (put_bytes n) o' → SecondRow (take n o') ys t p v t' p'
    → CheckRow xs ys s t o p v s' t' o' p'
checking n c h (unreported i d k) = second_unreported n i c h d k
checking n c h (compared k d q) = compared n k c h d q
