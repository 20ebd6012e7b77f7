-- Answering one line: it is not read, or else its bytes are offered, and the answer can be printed.
use mathlib.Core.Path.{◌≡◌, sym, subst}
use Prim.Native.Nat.{ℕ, ◌≤◌}
use native.Mathlib.Omega.{arith}
use mathlib.Core.List.{List}
use Rattle.std.specs.Prelude.{Option, None, Some}
use mathlib.Core.Bool.{Bool}
use lib.ListN.{length, take}
use Rattle.bitset.specs.BelowLaws.{count_below-le}
use Rattle.bytes_ascii.specs.Ascii.{ascii}
use Rattle.ledger_state.specs.declared.Ledger.{Ledger}
use Rattle.rules.specs.declared.Standing.{Standing}
use Rattle.ledger_state.specs.State.{Book, place_at, is_held, is_void, standing_count}
use Rattle.ledger_state.proofs.RoomLaws.{room→}
use Rattle.ledger_state.specs.View.{book_of}
use Rattle.ledger_offering.specs.declared.Offered.{Offered}
use Rattle.ledger_offering.specs.Values.{OfferValues}
use Rattle.ledger_offering.specs.Offer.{OfferRow, unfit, malformed, known, full, taken, Offering}
use Rattle.ledger_offering.specs.Words.{answer_text}
use Rattle.command_syntax.specs.Line.{line_in}
use Rattle.command_answers.specs.Answers.{Printable, ReadsOffer}
use Rattle.command_feeding.specs.Answering.{AnswersLine, unread, offered, Answers}

-- a count over the places is at most that of the taken ones
count-few : (p : Standing → Bool) (l : Book) → standing_count p l ≤ l.used
unfolding standing_count
count-few p l = count_below-le l.used (λ (k : ℕ). p (place_at l k).standing)

offering-printable : {l r : Ledger} {s b s' : List ℕ} {v : OfferValues} → OfferRow l s b v r s' → Printable v
offering-printable (unfit e) = tt
offering-printable (malformed n e d) = tt
offering-printable (known u k e d f) = tt
offering-printable (full u e d f n) = tt
offering-printable {l} {s = s} (taken u r e d f n t) =
    let free = room→ (book_of l) s u n in
    record {
      held_two_digits = omega (arith, count-few is_held (book_of r), t.used_next, free);
      void_two_digits = omega (arith, count-few is_void (book_of r), t.used_next, free);
    }

module _ (buffer : List ℕ) (fill : ℕ) (update : List ℕ) {x : Option ℕ} (reads : ReadsOffer buffer fill x update) where
  -- the line is not read
  pub answer-unread : {l : Ledger} {s : List ℕ} → x ≡ None → Answers l s (line_in buffer fill) (record { ledger = l; reply = None }) s
  answer-unread {l} {s} q =
      let e : line_in buffer fill ≡ None = subst (λ (y : Option ℕ). ReadsOffer buffer fill y update) q reads in
      record { answers = subst (λ (o : Option (List ℕ)). AnswersLine l s o l s (ascii "(unread)\n")) (sym e) unread; printable = tt }

  -- its bytes are offered
  module _ (n : ℕ) (q : x ≡ Some n) where
    read_some : (line_in buffer fill ≡ Some (take n update)) × (n ≤ length update)
    read_some = subst (λ (y : Option ℕ). ReadsOffer buffer fill y update) q reads

    pub answer-offered : {l : Ledger} {s s' : List ℕ} {r : Offered} → Offering l s (take n update) r s'
        → Answers l s (line_in buffer fill) (record { ledger = r.ledger; reply = Some r.answer }) s'
    answer-offered {l} {s} {s'} {r} o =
        record {
          answers = subst (λ (y : Option (List ℕ)). AnswersLine l s y r.ledger s' (answer_text r.answer)) (sym read_some.0) (offered o);
          printable = offering-printable o;
        }
