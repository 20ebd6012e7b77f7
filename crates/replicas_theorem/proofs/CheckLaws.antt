-- What the answer of the copy check says of the two sets.
use Rattle.std.proofs.Math.Path.{◌≡◌, refl}
use Rattle.std.proofs.Common.{sym, ◌∙◌, ap, le_trans, arith}
use Rattle.std.specs.Prelude.{ℕ, ◌≤◌, List, Bool, take}
use Rattle.std.proofs.Math.Bool.{true, false}
use Rattle.std.proofs.Math.ListN.{length}
use Rattle.update_format.specs.Update.{document_bounds}
use Rattle.bytes_order.specs.Order.{same}
use Rattle.bytes_order.specs.OrderLaws.{same→eq, eq→same}
use Rattle.rules.specs.declared.Form.TheVariants.{Full}
use Rattle.rules.specs.ReportLaws.{document-size}
use Rattle.ledger_state.specs.declared.Ledger.{Ledger}
use Rattle.ledger_state.specs.State.{document_terms, store_length_of}
use Rattle.ledger_state.specs.View.{book_of, fresh_ledger}
use Rattle.ledger_refusals.specs.Numbers.{put_bytes}
use Rattle.rules.specs.Report.{max_report}
use Rattle.ledger_offering.specs.Calls.{Offers}
use Rattle.ledger.specs.Calls.{stored, offers-stand}
use Rattle.ledger.specs.Report.{ReportRow}
use Rattle.ledger.specs.BufferLaws.{written-length}
use Rattle.replicas_theorem.specs.Sets.{set_of, report_for, Fits, NoCollision}
use Rattle.replicas_theorem.specs.Copies.{Copy, SideBySide}
use Rattle.replicas_theorem.proofs.Copies.{side_by_side}
use Rattle.replicas_check.specs.LengthLaws.{reported-store}
use Rattle.replicas_theorem.proofs.FitLaws.{report-answers}
use Rattle.replicas_check.specs.Check.{CheckValues, same_of, different_of, first_refused, second_refused, compared_of, CheckRow, first_unreported, second_unreported, compared}

-- the lengths of the two full reports, by the values of the answer
unfoldable pub first_length : CheckValues → ℕ
first_length (same_of n) = n
first_length (different_of n k) = n
first_length (first_refused i) = 0
first_length (second_refused i) = 0

unfoldable pub second_length : CheckValues → ℕ
second_length (same_of n) = n
second_length (different_of n k) = k
second_length (first_refused i) = 0
second_length (second_refused i) = 0

-- the values are those of two reports
pub record BothReported (v : CheckValues) : Type 0 where
  pub first_reported : (i : ℕ) → v ≡ first_refused i → ⊥
  pub second_reported : (i : ℕ) → v ≡ second_refused i → ⊥

-- What such an answer says: "same" exactly when the sets are equal; and each buffer begins with the report that the rules give for its set.
pub record CheckSays (xs ys : List (List ℕ)) (v : CheckValues) (out other-out : List ℕ) : Type 0 where
  pub equal_sets_same : set_of document_bounds xs ≡ set_of document_bounds ys → (n : ℕ) × (v ≡ same_of n)
  pub same_equal_sets : (n : ℕ) → v ≡ same_of n → set_of document_bounds xs ≡ set_of document_bounds ys
  pub first_right : take (first_length v) out ≡ report_for Full (set_of document_bounds xs)
  pub second_right : take (second_length v) other-out ≡ report_for Full (set_of document_bounds ys)

-- the answer for two full reports
module _ (first second : List ℕ) where
  compared-lengths : (t : Bool) → same first second ≡ t
      → (first_length (compared_of first second) ≡ length first) × (second_length (compared_of first second) ≡ length second)
  unfolding compared_of first_length second_length
  compared-lengths true e = (rw e (ap length (sym (same→eq first second e))), rw e refl)
  compared-lengths false e = (rw e refl, rw e refl)

  compared_same : first ≡ second → compared_of first second ≡ same_of (length second)
  unfolding compared_of
  compared_same e = rw (eq→same first second e) refl

  same-compared : (t : Bool) → same first second ≡ t → (n : ℕ) → compared_of first second ≡ same_of n → first ≡ second
  unfolding compared_of
  same-compared true e n q = same→eq first second e
  same-compared false e n q =
      let d : compared_of first second ≡ different_of (length first) (length second) = rw e refl in
      let z : ◌≡◌ {A = ℕ} 0 1 = cc in
      absurd (omega arith)

  compared-both : (t : Bool) → same first second ≡ t → BothReported (compared_of first second)
  unfolding compared_of
  compared-both true h =
      let d : compared_of first second ≡ same_of (length second) = rw h refl in
      record {
        first_reported = λ e q. let z : ◌≡◌ {A = ℕ} 0 1 = cc in omega arith;
        second_reported = λ e q. let z : ◌≡◌ {A = ℕ} 0 1 = cc in omega arith;
      }
  compared-both false h =
      let d : compared_of first second ≡ different_of (length first) (length second) = rw h refl in
      record {
        first_reported = λ e q. let z : ◌≡◌ {A = ℕ} 0 1 = cc in omega arith;
        second_reported = λ e q. let z : ◌≡◌ {A = ℕ} 0 1 = cc in omega arith;
      }

-- a copy that was reported
reported-copy : {l : Ledger} {s s' o o' : List ℕ} {bs : List (List ℕ)} (n : ℕ) → Offers fresh_ledger s bs l s' → ReportRow Full (book_of l) s' o (put_bytes n) o'
    → Copy Full bs (take n o')
reported-copy {l} {s} {s'} {o} {o'} n c h =
    record {
      first_store = s;
      store_length = reported-store c h;
      ledger = l;
      store = s';
      calls = c;
      buffer = o;
      buffer_after = o';
      answer = n;
      reported = h;
      shown = refl;
    }

compared-says : {l m : Ledger} {s s' o o' t t' p p' : List ℕ} {xs ys : List (List ℕ)} (n k : ℕ)
    → Offers fresh_ledger s xs l s' → ReportRow Full (book_of l) s' o (put_bytes n) o'
    → Offers fresh_ledger t ys m t' → ReportRow Full (book_of m) t' p (put_bytes k) p'
    → Fits document_terms xs → Fits document_terms ys → NoCollision document_bounds xs ys → CheckSays xs ys (compared_of (take n o') (take k p')) o' p'
compared-says {o' = o'} {p' = p'} {xs = xs} {ys = ys} n k c h d q fits-first fits-second none =
    let first = take n o' in
    let second = take k p' in
    let b : SideBySide xs ys first second = side_by_side xs ys first second (reported-copy n c h) (reported-copy k d q) fits-first fits-second none in
    let e = compared-lengths first second (same first second) refl in
    record {
      equal_sets_same = λ w. (length second, compared_same first second (b.equal_sets_equal_reports w));
      same_equal_sets = λ i w. b.equal_reports_equal_sets (same-compared first second (same first second) refl i w);
      first_right = ap (λ (i : ℕ). take i o') (e.0 ∙ written-length h n refl) ∙ b.first_right;
      second_right = ap (λ (i : ℕ). take i p') (e.1 ∙ written-length q k refl) ∙ b.second_right;
    }

-- Demand 3 of the copy check: where both copies gave a report, where neither list has more distinct well-formed updates than there are places, and no two
-- different ones of both share a SHA-256
pub check-says : {xs ys : List (List ℕ)} {s t o p s' t' o' p' : List ℕ} {v : CheckValues} → CheckRow xs ys s t o p v s' t' o' p'
    → BothReported v → Fits document_terms xs → Fits document_terms ys → NoCollision document_bounds xs ys → CheckSays xs ys v o' p'
check-says (first_unreported i c h) both fits-first fits-second none = absurd (both.first_reported i refl)
check-says (second_unreported n i c h d q) both fits-first fits-second none = absurd (both.second_reported i refl)
check-says (compared n k c h d q) both fits-first fits-second none = compared-says n k c h d q fits-first fits-second none

-- Both give one where the stores have the stated length and the buffers 12,000 bytes.
pub check-answers : {xs ys : List (List ℕ)} {s t o p s' t' o' p' : List ℕ} {v : CheckValues} → CheckRow xs ys s t o p v s' t' o' p'
    → length s ≡ store_length_of document_terms → length t ≡ store_length_of document_terms → max_report ≤ length o → max_report ≤ length p → BothReported v
check-answers {xs = xs} (first_unreported i c h) u w a b = absurd (report-answers (stored document_terms xs) (offers-stand u c) h (le_trans (document-size Full) a) i refl)
check-answers {ys = ys} (second_unreported n i c h d q) u w a b = absurd (report-answers (stored document_terms ys) (offers-stand w d) q (le_trans (document-size Full) b) i refl)
check-answers (compared {o' = o'} {p' = p'} n k c h d q) u w a b = compared-both (take n o') (take k p') (same (take n o') (take k p')) refl
