-- Offering the items of a bundle, one after the other: the first k items, which end at byte `at`, were offered, and their answers were written.
use mathlib.Core.Path.{◌≡◌, refl, sym, ap, ap₂, subst, ◌∙◌}
use Prim.Native.Nat.{ℕ, ◌+◌, ◌*◌, ◌≤◌, ◌<◌}
use native.Mathlib.Omega.{arith}
use mathlib.Core.List.{List, [], ◌∷◌, ◌++◌, append_assoc, append-nil}
use Rattle.std.specs.Prelude.{Some}
use mathlib.Core.Bool.{true}
use lib.ListN.{length, drop, length-append, length-drop}
use lib.Seq.{length-take-le, take_at, drop_at, drop-drop}
use Rattle.bytes_order.specs.Member.{concat_map}
use Rattle.bytes_copy.specs.Overwritten.{overwritten}
use Rattle.bundle_format.specs.Bundle.{length_bytes, most_items, first_length, first_item, items_within, items_of}
use Rattle.bundle_format.proofs.BundleLaws.{some_one, First, items-first, items-end}
use Rattle.ledger_state.specs.declared.Ledger.{Ledger}
use Rattle.ledger_state.specs.View.{book_of}
use Rattle.ledger_state.specs.Row1.{sound}
use Rattle.ledger_offering.specs.Values.{OfferValues}
use Rattle.ledger_offering.specs.Offer.{OfferRow}
use Rattle.ledger_offering.specs.Calls.{Calls, done}
use Rattle.ledger_offering.specs.CallsLaws.{offer-sound, calls-then}
use Rattle.bundle_answers.specs.AnswerBytes.{answer_length, answer_bytes, answers_bytes}
use Rattle.bundle_answers.proofs.AnswerLaws.{answer-length, calls-answers-length, answers-then}
use Rattle.bundle_offering.specs.Bundle.{answers_length, Offerable, AllOffered}

-- the first k of the n items, which end at byte `at` of the bundle, were offered
pub record Reached (l₀ : Ledger) (s₀ b : List ℕ) (n : ℕ) (o₀ s o : List ℕ) (l : Ledger) (at k : ℕ) : Type 0 where
  pub past : List (List ℕ)
  pub rest : List (List ℕ)
  pub given : List OfferValues
  pub most : ℕ
  pub all_read : items_of b ≡ Some (past ++ rest)
  pub number : n ≡ length (past ++ rest)
  pub past_number : k ≡ length past
  pub rest_read : items_within most (drop at b) ≡ Some rest
  pub fits : answers_length (past ++ rest) ≤ length o₀
  pub at_within : at ≤ length b
  pub is_sound : sound (book_of l) s ≡ true
  pub calls : Calls l₀ s₀ past given l s
  pub written : o ≡ answers_bytes given ++ drop (answers_length past) o₀

pub reached-none : {l : Ledger} {s b o : List ℕ} {n : ℕ} → Offerable (book_of l) s b n o → Reached l s b n o s o l 0 0
unfolding concat_map
reached-none p =
    record {
      past = [];
      rest = p.items;
      given = [];
      most = most_items;
      all_read = p.read;
      number = p.number;
      past_number = refl;
      rest_read = p.read;
      fits = p.fits;
      at_within = omega arith;
      is_sound = p.is_sound;
      calls = done;
      written = refl;
    }

module _ {l₀ l : Ledger} {s₀ b o₀ s o : List ℕ} {n at k : ℕ} (r : Reached l₀ s₀ b n o₀ s o l at k) where
  -- the answers that were given end where the next one goes
  given-length : length (answers_bytes r.given) ≡ answers_length r.past
  given-length = calls-answers-length r.calls

  past_fits : answers_length r.past ≤ length o₀
  past_fits = let h = r.fits in omega (arith, length-append r.past r.rest)

  pub reached-length : length o ≡ length o₀
  reached-length =
      ap length r.written
      ∙ omega (arith, length-append (answers_bytes r.given) (drop (answers_length r.past) o₀), given-length, length-drop (answers_length r.past) o₀, past_fits)

  -- all items are offered
  none_left : n ≤ k → (xs : List (List ℕ)) → n ≡ length (r.past ++ xs) → xs ≡ []
  none_left h [] e = refl
  none_left h (x ∷ xs) e = absurd (omega (arith, r.past_number, length-append r.past (x ∷ xs)))

  pub reached-all : n ≤ k → AllOffered l₀ s₀ b o₀ l s o
  reached-all h =
      let e : r.rest ≡ [] = none_left h r.rest r.number in
      record {
        items = r.past;
        answers = r.given;
        read = r.all_read ∙ ap (λ (xs : List (List ℕ)). Some (r.past ++ xs)) e ∙ ap Some (append-nil r.past);
        calls = r.calls;
        written = r.written;
      }

  -- an item is left, so the bundle is not at its end
  some_left : (xs : List (List ℕ)) → k < length (r.past ++ xs) → length xs ≡ 0 → ⊥
  some_left xs h e = omega (arith, r.past_number, length-append r.past xs)

  module _ (left : k < n) where
    at_end : length b ≤ at → ⊥
    at_end h =
        let e : [] ≡ r.rest = some_one (sym (items-end r.most (drop at b) (omega (arith, length-drop at b))) ∙ r.rest_read) in
        some_left r.rest (omega (arith, r.number)) (ap length (sym e))

    more : at < length b
    more = let h : length b ≤ at → ⊥ = at_end in omega arith

    first : First r.most (drop at b) r.rest
    first = items-first r.most (drop at b) r.rest (omega (arith, length-drop at b, more)) r.rest_read

    -- the next item ends within the bundle, and its answer fits
    pub item-within : at + (length_bytes + first_length (drop at b)) ≤ length b
    item-within = let h = first.whole in let k = r.at_within in omega (arith, length-drop at b)

    pub item-length : length (first_item (drop at b)) ≡ first_length (drop at b)
    item-length =
        let h = first.whole in
        length-take-le (first_length (drop at b)) (drop length_bytes (drop at b)) (omega (arith, length-drop length_bytes (drop at b)))

    pub answer-fits : answer_length * k + answer_length ≤ length o
    answer-fits =
        let h = r.fits in
        omega (arith, reached-length, r.past_number, length-append r.past r.rest, ap length first.items)

    -- one more was offered
    module _ {x : List ℕ} (is : x ≡ first_item (drop at b)) {v : OfferValues} {l' : Ledger} {s' : List ℕ} (offered : OfferRow l s x v l' s') where
      parted : r.past ++ r.rest ≡ (r.past ++ (x ∷ [])) ++ first.rest
      parted =
          ap (λ (xs : List (List ℕ)). r.past ++ xs) (first.items ∙ ap (λ (y : List ℕ). y ∷ first.rest) (sym is))
          ∙ sym (append_assoc r.past (x ∷ []) first.rest)

      next_start : length_bytes + first_length (drop at b) ≡ length_bytes + length x
      next_start = ap (λ (n : ℕ). length_bytes + n) (sym (ap length is ∙ item-length))

      more-past : answers_length (r.past ++ (x ∷ [])) ≡ answers_length r.past + answer_length
      more-past = omega (arith, length-append r.past (x ∷ []))

      written_then : overwritten o (answer_length * k) (answer_bytes v) ≡ answers_bytes (r.given ++ (v ∷ [])) ++ drop (answers_length (r.past ++ (x ∷ []))) o₀
      written_then =
          let g = answers_bytes r.given in
          let end = answers_length r.past in
          let d = drop end o₀ in
          ap₂ (λ (q : List ℕ) (n : ℕ). overwritten q (answer_length * n) (answer_bytes v)) r.written r.past_number
          ∙ ap₂ (λ (q t : List ℕ). q ++ (answer_bytes v ++ t)) (take_at g d end given-length)
          (ap (λ (n : ℕ). drop (end + n) (g ++ d)) (answer-length v)
          ∙ sym (drop-drop answer_length end (g ++ d))
          ∙ ap (drop answer_length) (drop_at g d end given-length)
          ∙ drop-drop answer_length end o₀
          ∙ ap (λ (n : ℕ). drop n o₀) (sym more-past))
          ∙ sym (append_assoc g (answer_bytes v) (drop (answers_length (r.past ++ (x ∷ []))) o₀))
          ∙ ap (λ (q : List ℕ). q ++ drop (answers_length (r.past ++ (x ∷ []))) o₀) (sym (answers-then r.given v))

      pub reached-next : {o' : List ℕ} → o' ≡ overwritten o (answer_length * k) (answer_bytes v)
          → Reached l₀ s₀ b n o₀ s' o' l' (at + (length_bytes + length x)) (k + 1)
      reached-next w =
          record {
            past = r.past ++ (x ∷ []);
            rest = first.rest;
            given = r.given ++ (v ∷ []);
            most = first.most;
            all_read = r.all_read ∙ ap Some parted;
            number = r.number ∙ ap length parted;
            past_number = omega (arith, r.past_number, length-append r.past (x ∷ []));
            rest_read =
                ap (items_within first.most)
                (sym (drop-drop (length_bytes + length x) at b) ∙ ap (λ (n : ℕ). drop n (drop at b)) (sym next_start))
                ∙ first.reads;
            fits = subst (λ (xs : List (List ℕ)). answers_length xs ≤ length o₀) parted r.fits;
            at_within = let h = item-within in omega (arith, next_start);
            is_sound = offer-sound offered r.is_sound;
            calls = calls-then r.calls offered;
            written = w ∙ written_then;
          }
