-- What the answers of a copy's report come to.
use mathlib.Core.Path.{◌≡◌, refl, sym, ap, subst}
use Prim.Native.Nat.{ℕ, ◌≤◌}
use mathlib.Core.List.{List}
use mathlib.Core.Bool.{true, false}
use lib.ListN.{length, take}
use native.Mathlib.Omega.{arith}
use Rattle.std.specs.Prelude.{Result, Ok, Err, MatchResult, IsErrAnd}
use Rattle.bytes_order.specs.Order.{same}
use Rattle.rules.specs.declared.Form.TheVariants.{Full}
use Rattle.ledger_refusals.specs.declared.Refusal.{Refusal}
use Rattle.ledger_refusals.specs.Numbers.{refusal_number, Output, refused_by}
use Rattle.ledger_state.specs.View.{book_of}
use Rattle.ledger.specs.Report.{report_values, ReportRow}
use Rattle.ledger.specs.BufferLaws.{report-within, written-length, refused-leaves}
use Rattle.replicas_check.specs.declared.Unreported.{Unreported}
use Rattle.replicas_check.specs.Check.{OneCopy, CheckValues, same_of, different_of, first_refused, second_refused, compared_of, CheckRow, first_unreported, second_unreported, compared}

-- a report's answer, from what mapping its refusal answered
module _ (Q : Refusal → Unreported → Type 0) {m : Result ℕ Unreported} where
  pub mapped-ok : (r : Result ℕ Refusal) {n : ℕ} → MatchResult r (λ k. m ≡ Ok k) (λ e. IsErrAnd m (Q e)) → m ≡ Ok n → r ≡ Ok n
  mapped-ok (Ok k) h q = cc
  mapped-ok (Err e) h q = absurd (rw q at h)

  pub mapped-err : (r : Result ℕ Refusal) {u : Unreported} → MatchResult r (λ k. m ≡ Ok k) (λ e. IsErrAnd m (Q e)) → m ≡ Err u
      → (e : Refusal) × (r ≡ Err e) × Q e u
  mapped-err (Ok k) h q = let z : ◌≡◌ {A = ℕ} 0 1 = cc in absurd (omega arith)
  mapped-err (Err e) h q = (e, refl, rw q at h)

module _ {s s' o o' : List ℕ} {bs : List (List ℕ)} {r : Result ℕ Refusal} (c : OneCopy bs s o r s' o') where
  answered : {v : Output} → report_values r ≡ v → ReportRow Full (book_of c.ledger) s' o v o'
  answered q = subst (λ (v : Output). ReportRow Full (book_of c.ledger) s' o v o') q c.reports

  -- a report that is written lies within the buffer
  pub copy_within : {n : ℕ} → r ≡ Ok n → n ≤ length o'
  copy_within {n} q = report-within c.reports n (ap report_values q)

  pub copy-length : {n : ℕ} → r ≡ Ok n → n ≡ length (take n o')
  copy-length {n} q = sym (written-length c.reports n (ap report_values q))

  -- where there is no report, the buffer is as it was
  silent : {e : Refusal} → r ≡ Err e → o' ≡ o
  silent {e} q = refused-leaves c.reports (refusal_number e) (ap report_values q)

  unanswered : {e : Refusal} → r ≡ Err e → ReportRow Full (book_of c.ledger) s' o (refused_by (refusal_number e)) o
  unanswered {e} q =
      subst (λ (x : List ℕ). ReportRow Full (book_of c.ledger) s' o (refused_by (refusal_number e)) x) (silent q) (answered (ap report_values q))

  -- the first copy gave no report
  pub first-not : {ys : List (List ℕ)} {t p : List ℕ} {e : Refusal} → r ≡ Err e → CheckRow bs ys s t o p (first_refused (refusal_number e)) s' t o' p
  first-not {ys} {t} {p} {e} q =
      subst (λ (x : List ℕ). CheckRow bs ys s t o p (first_refused (refusal_number e)) s' t x p) (sym (silent q))
      (first_unreported (refusal_number e) c.calls (unanswered q))

module _ {s s' o o' t t' p p' : List ℕ} {xs ys : List (List ℕ)} {n : ℕ} {second : Result ℕ Refusal} (c : OneCopy xs s o (Ok n) s' o') (d : OneCopy ys t p second t' p') where
  -- the second copy gave no report
  pub second-not : {e : Refusal} → second ≡ Err e → CheckRow xs ys s t o p (second_refused (refusal_number e)) s' t' o' p'
  second-not {e} q =
      subst (λ (x : List ℕ). CheckRow xs ys s t o p (second_refused (refusal_number e)) s' t' o' x) (sym (silent d q))
      (second_unreported n (refusal_number e) c.calls c.reports d.calls (unanswered d q))

  -- both gave one
  module _ {k : ℕ} (q : second ≡ Ok k) where
    both : (v : CheckValues) → compared_of (take n o') (take k p') ≡ v → CheckRow xs ys s t o p v s' t' o' p'
    both v e = subst (λ (x : CheckValues). CheckRow xs ys s t o p x s' t' o' p') e (compared n k c.calls c.reports d.calls (answered d (ap report_values q)))

    pub both-same : same (take n o') (take k p') ≡ true → CheckRow xs ys s t o p (same_of k) s' t' o' p'
    unfolding compared_of
    both-same e = both (same_of k) (rw (e, ← copy-length d q))

    pub both-different : same (take n o') (take k p') ≡ false → CheckRow xs ys s t o p (different_of n k) s' t' o' p'
    unfolding compared_of
    both-different e = both (different_of n k) (rw (e, ← copy-length c refl, ← copy-length d q))
