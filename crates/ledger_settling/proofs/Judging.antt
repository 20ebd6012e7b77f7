-- What judging a place comes to in the declared struct: the worklist keeps its room, and the view says what was judged.
use Rattle.std.proofs.Common.{◌≡◌, refl, sym, ap, subst, ◌∙◌, ℕ, zero, suc, ◌+◌, ◌≤◌, ◌<◌, List, [], ◌∷◌, ◌++◌, false, length, get_or, length-append, arith}
use Rattle.bitset.specs.BelowLaws.{count_below-le}
use Rattle.rules.specs.declared.Standing.{Standing}
use Rattle.rules.specs.declared.Standing.TheVariants.{Held as IsHeld, Void as IsVoid}
use Rattle.ledger_lists.specs.PlaceItems.{PlaceItems}
use Rattle.ledger_state.specs.declared.Ledger.{Ledger}
use Rattle.ledger_state.specs.State.{places, Book, place_at, with_standing, is_waiting, standing_count}
use Rattle.ledger_state.specs.View.{book_of}
use Rattle.ledger_settling.specs.declared.settling.Settling.{Settling}
use Rattle.ledger_settling.specs.Roomy.{Roomy}
use Rattle.ledger_settling.specs.Worklist.{WaitsAt}
use Rattle.ledger_settling.specs.CountLaws.{one_less}

-- numbers below n, and one more
within-more : (ks : List ℕ) (k n : ℕ) → k < n → ((i : ℕ) → get_or ks i 0 < n) → (i : ℕ) → get_or (ks ++ (k ∷ [])) i 0 < n
within-more [] k n h each zero = h
within-more [] k n h each (suc i) = omega arith
within-more (j ∷ ks) k n h each zero = each zero
within-more (j ∷ ks) k n h each (suc i) = within-more ks k n h (λ m. each (suc m)) i

-- the waiting place k is settled, in x
module _ (x : Settling) (k : ℕ) (asked : WaitsAt x k) where
  fewer-wait : (v : Standing) (w : ℕ) → is_waiting v ≡ false
      → standing_count is_waiting (book_of x.ledger) ≡ standing_count is_waiting (with_standing (book_of x.ledger) k v w) + 1
  unfolding is_waiting
  fewer-wait v w settled = one_less is_waiting (book_of x.ledger) k v w asked.taken (ap is_waiting asked.waiting) settled

  -- the worklist has room for it
  pub worklist_room : length x.worklist.items < places
  unfolding is_waiting
  worklist_room = omega (arith, fewer-wait IsVoid 0 refl, x.roomy.room, x.roomy.counted)

  -- and for the places that still wait
  roomy-kept : {l : Ledger} {ws : PlaceItems} {h v : ℕ} (d : Standing) (w : ℕ) → is_waiting d ≡ false
      → book_of l ≡ with_standing (book_of x.ledger) k d w → ws.items ≡ x.worklist.items ++ (k ∷ []) → h + v ≡ x.held + x.void + 1 → Roomy l ws h v
  roomy-kept d w settled is listed more =
      record {
        counted = ap length listed ∙ length-append x.worklist.items (k ∷ []) ∙ omega (arith, x.roomy.counted);
        room = omega (arith, fewer-wait d w settled, x.roomy.room, ap (standing_count is_waiting) is);
        used_within = omega (arith, ap (λ (b : Book). b.used) is, x.roomy.used_within);
        each_within = λ i.
            subst (λ (ns : List ℕ). get_or ns i 0 < places) (sym listed)
            (within-more x.worklist.items k places (omega (arith, asked.taken, x.roomy.used_within)) x.roomy.each_within i);
      }

  pub roomy_held : {l : Ledger} {ws : PlaceItems} (w : ℕ) → book_of l ≡ with_standing (book_of x.ledger) k IsHeld w → ws.items ≡ x.worklist.items ++ (k ∷ [])
      → Roomy l ws (x.held + 1) x.void
  unfolding is_waiting
  roomy_held w is listed = roomy-kept IsHeld w refl is listed (omega arith)

  pub roomy_void : {l : Ledger} {ws : PlaceItems} → book_of l ≡ with_standing (book_of x.ledger) k IsVoid 0 → ws.items ≡ x.worklist.items ++ (k ∷ [])
      → Roomy l ws x.held (x.void + 1)
  unfolding is_waiting
  roomy_void is listed = roomy-kept IsVoid 0 refl is listed (omega arith)

-- nothing is settled yet
pub unsettled_roomy : (l : Ledger) (ws : PlaceItems) → ws.items ≡ [] → l.used ≤ places → Roomy l ws 0 0
unfolding standing_count
unsettled_roomy l ws e few =
    record {
      counted = ap length e;
      room = omega (arith, few, count_below-le l.used (λ (k : ℕ). is_waiting (place_at (book_of l) k).standing));
      used_within = few;
      each_within = λ i. subst (λ (ns : List ℕ). get_or ns i 0 < places) (sym e) (omega arith);
    }
