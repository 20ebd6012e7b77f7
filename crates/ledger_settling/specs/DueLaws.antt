-- Which places are due once a place is settled: those that were, and its successors.
use Rattle.std.specs.Prelude.{◌≡◌, ℕ, ◌<◌, ◌⊎◌, true, false}
use Rattle.std.proofs.Math.Path.{refl, ap}
use Rattle.std.proofs.Common.{sym, ◌∙◌}
use Rattle.std.proofs.Math.Logic.{inl, inr, ⊎_elim}
use mathlib.Core.List.{List, [], ◌∷◌}
use Rattle.std.specs.Prelude.{Option, None, Some}
use Rattle.bytes_order.specs.BoolLaws.{bool_cases, true-false, or-false→}
use Rattle.bytes_order.specs.Order.{same}
use Rattle.bytes_order.specs.Member.{member}
use Rattle.update_format.specs.Update.{Id}
use Rattle.update_format.specs.Decode.{decode, slice}
use Rattle.bitset.specs.Below.{first_below}
use Rattle.bitset.specs.BelowLaws.{first_below-some→}
use Rattle.rules.specs.declared.Standing.{Standing}
use Rattle.rules.specs.declared.Standing.TheVariants.{Waiting}
use Rattle.ledger_judging.specs.declared.Gathered.{Gathered}
use Rattle.ledger_judging.specs.declared.Judgement.TheVariants.{Waits}
use Rattle.ledger_state.specs.State.{start_of, Place, Book, place_at, stored_at, decoded_at, with_standing, is_waiting, find_in}
use Rattle.ledger_state.proofs.BookLaws.{replaced-same, replaced-other}
use Rattle.ledger_judging.specs.Judge.{nothing_gathered, gather_at, gather, judge_decoded, judge_at}
use Rattle.ledger_settling.specs.Settle.{follows, follows_at}
use Rattle.ledger_settling.specs.Worklist.{Due, Successor}
use Rattle.ledger_settling.specs.SettleLaws.{settled-place, same_id, same_length}
use Rattle.ledger_settling.specs.WaitLaws.{decoded-waits, gather-same}

-- the place n is settled
module _ (l : Book) (n : ℕ) (v : Standing) (w : ℕ) where
  abbrev after : Book
  after = with_standing l n v w

  other : (k : ℕ) → (k ≡ n → ⊥) → place_at after k ≡ place_at l k
  other = replaced-other l.place n (settled-place l n v w)

  -- what is gathered from ids that are not its own is as it was
  find-same : (x : Id) → find_in after x ≡ find_in l x
  unfolding find_in
  find-same x = λ i. first_below l.used (λ (k : ℕ). same (same_id l n v w k i) x)

  gather-one : (x : Id) → same (place_at l n).id x ≡ false → (g : Gathered) → gather_at after g (find_in after x) ≡ gather_at l g (find_in l x)
  unfolding find_in
  gather-one x differs g = ap (gather_at after g) (find-same x) ∙ by (find_in l x) refl
    where
      by : (o : Option ℕ) → find_in l x ≡ o → gather_at after g o ≡ gather_at l g o
      by None e = refl
      by (Some j) e =
          gather-same l after g j
          (other j
          (λ q.
          true-false (first_below-some→ l.used (λ (k : ℕ). same (place_at l k).id x) e).1 (ap (λ (k : ℕ). same (place_at l k).id x) q ∙ differs)))

  gather-others : (g : Gathered) (is : List Id) → member (place_at l n).id is ≡ false → gather after g is ≡ gather l g is
  unfolding gather member
  gather-others g [] out = refl
  gather-others g (x ∷ xs) out =
      let o = or-false→ (same (place_at l n).id x) (member (place_at l n).id xs) out in
      ap (λ (h : Gathered). gather after h xs) (gather-one x o.0 g) ∙ gather-others (gather_at l g (find_in l x)) xs o.1

  -- an update names what it named
  pub follows-kept : (s : List ℕ) (x : Id) (k : ℕ) → follows_at (with_standing l n v w) s x k ≡ follows_at l s x k
  follows-kept s x k = ap (λ (m : ℕ). follows x (decode l.terms.bounds (slice s (start_of l.terms k) m))) (same_length l n v w k)

  pub successor-kept : {s ps : List ℕ} {k : ℕ} → Successor l s ps k → Successor (with_standing l n v w) s ps k
  successor-kept {s} {ps} {k} x =
      record {
        predecessor = x.predecessor;
        among = x.among;
        named = ap (λ (i : Id). follows_at after s i k) (same_id l n v w x.predecessor) ∙ follows-kept s (place_at l x.predecessor).id k ∙ x.named;
      }

  -- a place that does not name it goes on waiting
  stays-waiting : (s : List ℕ) (k : ℕ) → (k ≡ n → ⊥) → follows_at l s (place_at l n).id k ≡ false → judge_at l s k ≡ Waits → judge_at after s k ≡ Waits
  unfolding judge_at follows
  stays-waiting s k ne out e =
      let stored : stored_at after s k ≡ stored_at l s k = ap (λ (p : Place). slice s (start_of l.terms k) p.length) (other k ne) in
      ap (λ (b : List ℕ). judge_decoded after s (decode l.terms.bounds b)) stored
      ∙ decoded-waits l after s s (decoded_at l s k) (λ u q. gather-others nothing_gathered u.preds (ap (follows (place_at l n).id) (sym q) ∙ out)) e

  -- of the places that wait, those are due that were, and its successors
  pub due-settled : (s : List ℕ) (these : ℕ → Type 0) → is_waiting v ≡ false → Due l s these
      → Due (with_standing l n v w) s (λ (k : ℕ). ((k ≡ n → ⊥) × these k) ⊎ (follows_at l s (place_at l n).id k ≡ true))
  unfolding is_waiting
  due-settled s these settled due k h q =
      let ne : k ≡ n → ⊥ = λ g.
      true-false (ap is_waiting q)
      (ap (λ (i : ℕ). is_waiting (place_at after i).standing) g
      ∙ ap (λ (p : Place). is_waiting p.standing) (replaced-same l.place n (settled-place l n v w))
      ∙ settled) in
      ⊎_elim
      (λ (x : judge_at l s k ≡ Waits).
      ⊎_elim (λ (y : follows_at l s (place_at l n).id k ≡ true). inr (inr y))
      (λ (y : follows_at l s (place_at l n).id k ≡ false). inl (stays-waiting s k ne y x))
      (bool_cases (follows_at l s (place_at l n).id k)))
      (λ (x : these k). inr (inl (ne, x)))
      (due k h (ap (λ (p : Place). p.standing) (sym (other k ne)) ∙ q))

-- more places may be due
pub due-more : (l : Book) (s : List ℕ) (these further : ℕ → Type 0)
    → ((k : ℕ) → k < l.used → (place_at l k).standing ≡ Waiting → these k → (judge_at l s k ≡ Waits) ⊎ further k) → Due l s these → Due l s further
due-more l s these further f due k h q = ⊎_elim (λ (x : judge_at l s k ≡ Waits). inl x) (λ (x : these k). f k h q x) (due k h q)
