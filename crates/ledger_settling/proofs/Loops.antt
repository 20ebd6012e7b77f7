-- What the two loops carry: the one over the places that may name a settled one, and the one over the worklist.
use Rattle.std.proofs.Common.{◌≡◌, refl, ap, subst, ◌∙◌, ℕ, ◌+◌, ◌≤◌, ◌<◌, List, true, false, ◌&&◌, length, get_or, arith}
use Rattle.bytes_order.specs.BoolLaws.{and-true→}
use Rattle.rules.proofs.SettlingTable.{is_waiting→}
use Rattle.rules.specs.declared.Standing.TheVariants.{Held as IsHeld, Void as IsVoid}
use Rattle.ledger_state.specs.State.{Place, Book, place_at, decoded_in, is_waiting}
use Rattle.ledger_state.specs.View.{book_of}
use Rattle.ledger_state.proofs.BookLaws.{replaced-other}
use Rattle.ledger_settling.specs.declared.settling.Settling.{Settling}
use Rattle.ledger_settling.specs.Settle.{follows, waits_for}
use Rattle.ledger_settling.specs.Worklist.{Progress, progress_of, Judged, waits, holds, fails, WorklistAt, SuccessorsAt, WaitsAt, JudgesSuccessors, Empties}
use Rattle.ledger_settling.specs.SettleLaws.{settled-place}
use Rattle.ledger_settling.specs.WorklistLaws.{successors-begin, place-passed, place-judged, successors-end, worklist-end}

-- judging a place keeps the terms, how many are taken, and the other places
judged-terms : {s : List ℕ} {k : ℕ} {p q : Progress} → Judged s k p q → q.book.terms ≡ p.book.terms
judged-terms (waits e) = refl
judged-terms (holds e) = refl
judged-terms (fails e) = refl

judged-used : {s : List ℕ} {k : ℕ} {p q : Progress} → Judged s k p q → q.book.used ≡ p.book.used
judged-used (waits e) = refl
judged-used (holds e) = refl
judged-used (fails e) = refl

judged-other : {s : List ℕ} {k : ℕ} {p q : Progress} → Judged s k p q → (j : ℕ) → (j ≡ k → ⊥) → place_at q.book j ≡ place_at p.book j
judged-other (waits e) j ne = refl
judged-other {k = k} {p = p} (holds {w = w} e) j ne = replaced-other p.book.place k (settled-place p.book k IsHeld w) j ne
judged-other {k = k} {p = p} (fails e) j ne = replaced-other p.book.place k (settled-place p.book k IsVoid 0) j ne

-- the loop over the places, of which those below k were looked at: x is what the function was handed, and n the place at index i of its worklist
pub record SuccessorsLoop (s : List ℕ) (i : ℕ) (x : Settling) (n k : ℕ) (y : Settling) : Type 0 where
  pub used_is : y.ledger.used ≡ x.ledger.used
  pub underway : (m : Book) → WorklistAt m s i (progress_of x) → SuccessorsAt m s i (place_at (book_of x.ledger) n).id k (progress_of y)
  -- the places from k on are as they were
  pub later : (j : ℕ) → k ≤ j → place_at (book_of y.ledger) j ≡ place_at (book_of x.ledger) j

module _ (s : List ℕ) (i : ℕ) (x : Settling) (n : ℕ) where
  pub successors_begun : i < length x.worklist.items → get_or x.worklist.items i 0 ≡ n → SuccessorsLoop s i x n 0 x
  successors_begun listed at =
      record {
        used_is = refl;
        underway = λ m h. subst (λ (j : ℕ). SuccessorsAt m s i (place_at (book_of x.ledger) j).id 0 (progress_of x)) at (successors-begin m s listed h);
        later = λ j g. refl;
      }

  module _ {k : ℕ} {y : Settling} (h : SuccessorsLoop s i x n k y) where
    here : place_at (book_of y.ledger) k ≡ place_at (book_of x.ledger) k
    here = h.later k (omega arith)

    pub successor_passed : waits_for (book_of x.ledger) s (place_at (book_of x.ledger) n).id k ≡ false → SuccessorsLoop s i x n (k + 1) y
    successor_passed e =
        record {
          used_is = h.used_is;
          underway = λ m u.
              place-passed m s (h.underway m u)
              (ap (λ (p : Place). is_waiting p.standing && follows (place_at (book_of x.ledger) n).id (decoded_in (book_of x.ledger).terms s p k)) here ∙ e);
          later = λ j g. h.later j (omega arith);
        }

    -- it waits now too
    pub waits_now : k < x.ledger.used → waits_for (book_of x.ledger) s (place_at (book_of x.ledger) n).id k ≡ true → WaitsAt y k
    waits_now inside e =
        record { taken = omega (arith, h.used_is); waiting = ap (λ (p : Place). p.standing) here ∙ is_waiting→ _ (and-true→ _ _ e).0 }

    pub successor_judged : {z : Settling} → k < x.ledger.used → waits_for (book_of x.ledger) s (place_at (book_of x.ledger) n).id k ≡ true
        → Judged s k (progress_of y) (progress_of z) → SuccessorsLoop s i x n (k + 1) z
    successor_judged inside e o =
        let w = waits_now inside e in
        record {
          used_is = judged-used o ∙ h.used_is;
          underway = λ m u. place-judged m s (h.underway m u) w.taken w.waiting o;
          later = λ j g. judged-other o j (λ (e : j ≡ k). omega arith) ∙ h.later j (omega arith);
        }

    pub successors_done : x.ledger.used ≤ k → JudgesSuccessors s i x y
    successors_done all = record { onward = λ m u. successors-end m s (h.underway m u) (omega (arith, h.used_is)) }

-- the loop over the worklist, of whose first i places the successors were judged
pub record WorklistLoop (s : List ℕ) (x : Settling) (i : ℕ) (y : Settling) : Type 0 where
  pub underway : (l : Book) → WorklistAt l s 0 (progress_of x) → WorklistAt l s i (progress_of y)

module _ (s : List ℕ) (x : Settling) where
  pub worklist_begun : WorklistLoop s x 0 x
  worklist_begun = record { underway = λ l u. u }

  module _ {i : ℕ} {y : Settling} (h : WorklistLoop s x i y) where
    pub worklist_onward : {z : Settling} → JudgesSuccessors s i y z → WorklistLoop s x (i + 1) z
    worklist_onward o = record { underway = λ l u. o.onward l (h.underway l u) }

    pub worklist_done : length y.worklist.items ≤ i → Empties s x y
    worklist_done all = record { settles = λ l u. worklist-end l s all (h.underway l u) }
