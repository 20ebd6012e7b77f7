-- What offers keep: the store's length, the terms, and that row 1 does not apply. A ledger to which it applies is as it was after any offers. Offers and one more.
use Rattle.std.specs.Prelude.{◌≡◌, refl, ℕ, suc, List, [], ◌∷◌, ◌++◌, true, false, length}
use Rattle.std.proofs.Common.{sym, ap, ◌∙◌}
use Rattle.ledger_state.specs.declared.Ledger.{Ledger}
use Rattle.ledger_state.specs.View.{book_of}
use Rattle.ledger_state.specs.Row1.{sound}
use Rattle.ledger_state.proofs.Row1Laws.{sound→}
use Rattle.ledger_offering.specs.Values.{OfferValues}
use Rattle.ledger_offering.specs.Offer.{OfferRow, unfit, malformed, known, full, taken}
use Rattle.ledger_offering.specs.Calls.{Calls, done, call, Offers}

pub offer-length : {l r : Ledger} {s b s' : List ℕ} {v : OfferValues} → OfferRow l s b v r s' → length s' ≡ length s
offer-length (unfit e) = refl
offer-length (malformed n e d) = refl
offer-length (known u k e d f) = refl
offer-length (full u e d f n) = refl
offer-length {l = l} {s = s} (taken u r e d f n t) = (sound→ (book_of r) _ t.still_sound).store ∙ sym (sound→ (book_of l) s e).store

pub offer-terms : {l r : Ledger} {s b s' : List ℕ} {v : OfferValues} → OfferRow l s b v r s' → (book_of r).terms ≡ (book_of l).terms
offer-terms (unfit e) = refl
offer-terms (malformed n e d) = refl
offer-terms (known u k e d f) = refl
offer-terms (full u e d f n) = refl
offer-terms (taken u r e d f n t) = t.terms_kept

pub offer-sound : {l r : Ledger} {s b s' : List ℕ} {v : OfferValues} → OfferRow l s b v r s' → sound (book_of l) s ≡ true → sound (book_of r) s' ≡ true
offer-sound (unfit e) h = h
offer-sound (malformed n e d) h = h
offer-sound (known u k e d f) h = h
offer-sound (full u e d f n) h = h
offer-sound (taken u r e d f n t) h = t.still_sound

pub calls-length : {l l' : Ledger} {s s' : List ℕ} {bs : List (List ℕ)} {vs : List OfferValues} → Calls l s bs vs l' s' → length s' ≡ length s
calls-length done = refl
calls-length (call o c) = calls-length c ∙ offer-length o

-- an answer for each offer
pub calls_count : {l l' : Ledger} {s s' : List ℕ} {bs : List (List ℕ)} {vs : List OfferValues} → Calls l s bs vs l' s' → length vs ≡ length bs
calls_count done = refl
calls_count (call o c) = ap suc (calls_count c)

-- offers and one more
pub calls-then : {l l' r : Ledger} {s s' t b : List ℕ} {bs : List (List ℕ)} {v : OfferValues} {vs : List OfferValues}
    → Calls l s bs vs l' s' → OfferRow l' s' b v r t → Calls l s (bs ++ (b ∷ [])) (vs ++ (v ∷ [])) r t
calls-then done o = call o done
calls-then (call p c) o = call p (calls-then c o)

pub offers-then : {l l' r : Ledger} {s s' t b : List ℕ} {bs : List (List ℕ)} {v : OfferValues}
    → Offers l s bs l' s' → OfferRow l' s' b v r t → Offers l s (bs ++ (b ∷ [])) r t
offers-then {v = v} c o = (c.0 ++ (v ∷ []), calls-then c.1 o)

-- offers and further ones
pub offers-both : {l l' r : Ledger} {s s' t : List ℕ} {bs cs : List (List ℕ)} {vs : List OfferValues}
    → Calls l s bs vs l' s' → Offers l' s' cs r t → Offers l s (bs ++ cs) r t
offers-both done d = d
offers-both (call {v = v} o c) d = let e = offers-both c d in (v ∷ e.0, call o e.1)

-- where row 1 applies, offers change nothing
pub offers-unfit : (l : Ledger) (s : List ℕ) → sound (book_of l) s ≡ false → (bs : List (List ℕ)) → Offers l s bs l s
offers-unfit l s h [] = ([], done)
offers-unfit l s h (b ∷ bs) = let c = offers-unfit l s h bs in (_, call (unfit h) c.1)
