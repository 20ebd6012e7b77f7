-- Offers, one after the other. "Each offer is handed the ledger and store that the one before left."
use Rattle.std.specs.Prelude.{ℕ, List, [], ◌∷◌}
use Rattle.ledger_state.specs.declared.Ledger.{Ledger}
use Rattle.ledger_offering.specs.Values.{OfferValues}
use Rattle.ledger_offering.specs.Offer.{OfferRow}

-- offers of the byte strings with the values of their answers, each with what the entry `offer` ensures
pub data Calls : Ledger → List ℕ → List (List ℕ) → List OfferValues → Ledger → List ℕ → Type 0 where
  done : {l : Ledger} {s : List ℕ} → Calls l s [] [] l s
  call : {l r l' : Ledger} {s s₁ s' b : List ℕ} {bs : List (List ℕ)} {v : OfferValues} {vs : List OfferValues}
      → OfferRow l s b v r s₁ → Calls r s₁ bs vs l' s' → Calls l s (b ∷ bs) (v ∷ vs) l' s'

-- the same, whatever was answered
abbrev pub Offers : Ledger → List ℕ → List (List ℕ) → Ledger → List ℕ → Type 0
Offers l s bs l' s' = (vs : List OfferValues) × Calls l s bs vs l' s'
