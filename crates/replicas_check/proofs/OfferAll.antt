-- Offers of a list, one after the other: the first i of them, and one more.
use mathlib.Core.Path.{◌≡◌, ◌∙◌, ap, subst}
use Prim.Native.Nat.{ℕ, ◌+◌, ◌<◌, ◌≤◌, suc}
use native.Mathlib.Numerals.{add-one}
use mathlib.Core.List.{List, [], ◌∷◌, ◌++◌, map}
use denote.Ref.{Bor}
use lib.ListN.{length, take, get_or, length-map, get_or-map}
use lib.Seq.{take-suc, take_all}
use Rattle.ledger_state.specs.declared.Ledger.{Ledger}
use Rattle.ledger_offering.specs.Values.{OfferValues}
use Rattle.ledger_offering.specs.Offer.{OfferRow}
use Rattle.ledger_offering.specs.Calls.{Offers}
use Rattle.ledger_offering.specs.CallsLaws.{offers-then}

-- what a list of slices holds
abbrev pub bytes : List (Bor (List ℕ)) → List (List ℕ)
bytes xs = map (λ (x : Bor (List ℕ)). x.now) xs

bytes-at : (xs : List (Bor (List ℕ))) (i : ℕ) (d : Bor (List ℕ)) → i < length xs → take (suc i) (bytes xs) ≡ take i (bytes xs) ++ ((get_or xs i d).now ∷ [])
bytes-at xs i d h =
    take-suc (bytes xs) i d.now (rw length-map h)
    ∙ ap (λ (b : List ℕ). take i (bytes xs) ++ (b ∷ [])) (get_or-map (λ (x : Bor (List ℕ)). x.now) xs i d)

pub offered-next : {l l' r : Ledger} {s s' t : List ℕ} {v : OfferValues} (xs : List (Bor (List ℕ))) (i : ℕ) (d : Bor (List ℕ)) → i < length xs
    → Offers l s (take i (bytes xs)) l' s' → OfferRow l' s' (get_or xs i d).now v r t → Offers l s (take (i + 1) (bytes xs)) r t
offered-next xs i d h c o = rw (add-one, bytes-at xs i d h) (offers-then c o)

pub offered-all : {l l' : Ledger} {s s' : List ℕ} (xs : List (Bor (List ℕ))) (i : ℕ) → length xs ≤ i
    → Offers l s (take i (bytes xs)) l' s' → Offers l s (bytes xs) l' s'
offered-all {l} {l'} {s} {s'} xs i h c = subst (λ (bs : List (List ℕ)). Offers l s bs l' s') (take_all i (bytes xs) (rw length-map h)) c
