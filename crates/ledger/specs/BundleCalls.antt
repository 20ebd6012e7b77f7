-- Calls of both kinds, single offers and bundles, in any mixture: what they offer, and that they leave ledger and store as single offers of that do.
use Rattle.std.specs.Prelude.{◌≡◌, refl, ℕ, ◌≤◌, ◌<◌, List, [], ◌∷◌, ◌++◌, cond, length, leb}
use Rattle.std.proofs.Common.{ap, ap₂, le-leb}
use Rattle.std.specs.Prelude.{Option, None, Some}
use Rattle.std.proofs.lemmas.Bool.{lt-leb}
use Rattle.bytes_order.specs.Member.{◌∈◌, concat_map}
use Rattle.bundle_format.specs.Bundle.{most_items, items_of, bundle_of}
use Rattle.bundle_format.proofs.BundleLaws.{ItemSized, items_back}
use Rattle.ledger_state.specs.declared.Ledger.{Ledger}
use Rattle.ledger_state.specs.State.{document_terms, store_length_of}
use Rattle.ledger_state.specs.View.{fresh_ledger}
use Rattle.ledger_refusals.specs.Numbers.{Output}
use Rattle.ledger_offering.specs.Values.{OfferValues}
use Rattle.ledger_offering.specs.Offer.{OfferRow}
use Rattle.ledger_offering.specs.Calls.{Offers, done, call}
use Rattle.ledger_offering.specs.CallsLaws.{offers-both, offers-unfit}
use Rattle.bundle_offering.specs.Bundle.{answers_length, BundleRow, unfit, no_bundle, short, answered}
use Rattle.ledger.specs.Calls.{stored}
use Rattle.ledger.specs.AfterOffers.{AsRuled, after-offers}

-- a call of `offer` with the bytes, or of `offer_bundle` with the bundle and the answer buffer
pub data Call : Type 0 where
  single : List ℕ → Call
  bundle : List ℕ → List ℕ → Call

-- what a bundle with these items offers, with an answer buffer of n bytes: a bundle that is refused offers nothing
abbrev pub offered_items : Option (List (List ℕ)) → ℕ → List (List ℕ)
offered_items None n = []
offered_items (Some xs) n = cond (leb (answers_length xs) n) xs []

abbrev pub offered_by : Call → List (List ℕ)
offered_by (single b) = b ∷ []
offered_by (bundle b o) = offered_items (items_of b) (length o)

-- what the calls offer, in order
abbrev pub offered_by_all : List Call → List (List ℕ)
offered_by_all cs = concat_map offered_by cs

-- calls, each handed the ledger and the store that the one before left, and each with what its entry ensures
pub data CallsMade : Ledger → List ℕ → List Call → Ledger → List ℕ → Type 0 where
  none_made : {l : Ledger} {s : List ℕ} → CallsMade l s [] l s
  offer_made : {l r l' : Ledger} {s s₁ s' b : List ℕ} {cs : List Call} {v : OfferValues}
      → OfferRow l s b v r s₁ → CallsMade r s₁ cs l' s' → CallsMade l s (single b ∷ cs) l' s'
  bundle_made : {l r l' : Ledger} {s s₁ s' b o o' : List ℕ} {cs : List Call} {v : Output}
      → BundleRow l s b o v r s₁ o' → CallsMade r s₁ cs l' s' → CallsMade l s (bundle b o ∷ cs) l' s'

-- For every ledger, store, bundle and buffer: ledger and store are as single offers of the items leave them.
pub bundle-offers : {l r : Ledger} {s s' b o o' : List ℕ} {v : Output} → BundleRow l s b o v r s' o' → Offers l s (offered_by (bundle b o)) r s'
bundle-offers {l} {s = s} {b = b} {o = o} (unfit e) = offers-unfit l s e (offered_by (bundle b o))
bundle-offers (no_bundle e q) = rw q ([], done)
bundle-offers {o = o} (short xs e q k) = rw (q, lt-leb (answers_length xs) (length o) k) ([], done)
bundle-offers {o = o} (answered xs vs r s' e q k c) = rw (q, le-leb (answers_length xs) (length o) k) (vs, c)

-- and so after calls of both kinds
pub calls-offers : {l l' : Ledger} {s s' : List ℕ} {cs : List Call} → CallsMade l s cs l' s' → Offers l s (offered_by_all cs) l' s'
unfolding concat_map
calls-offers none_made = ([], done)
calls-offers (offer_made o c) = let d = calls-offers c in (_, call o d.1)
calls-offers (bundle_made o c) = offers-both (bundle-offers o).1 (calls-offers c)

-- Demand 2 of calls of both kinds, with any first contents of the store
pub after-calls : {l : Ledger} {s s' : List ℕ} {cs : List Call} → length s ≡ store_length_of document_terms → CallsMade fresh_ledger s cs l s'
    → AsRuled (stored document_terms (offered_by_all cs)) l s'
after-calls h c = after-offers h (calls-offers c)

-- The byte strings bs, offered in any mixture: one by itself; at most 64, each of at most 65,535 bytes, as a bundle whose answers fit; and between them bundles that offer
-- nothing, refused ones among them.
pub data Cut : List (List ℕ) → List Call → Type 0 where
  cut_end : Cut [] []
  cut_single : (b : List ℕ) {bs : List (List ℕ)} {cs : List Call} → Cut bs cs → Cut (b ∷ bs) (single b ∷ cs)
  cut_bundle : (xs : List (List ℕ)) (o : List ℕ) {bs : List (List ℕ)} {cs : List Call}
      → length xs ≤ most_items → ((x : List ℕ) → x ∈ xs → ItemSized x) → answers_length xs ≤ length o → Cut bs cs → Cut (xs ++ bs) (bundle (bundle_of xs) o ∷ cs)
  cut_nothing : (b o : List ℕ) {bs : List (List ℕ)} {cs : List Call} → offered_by (bundle b o) ≡ [] → Cut bs cs → Cut bs (bundle b o ∷ cs)

-- a bundle of such byte strings offers them
pub bundle-offered : (xs : List (List ℕ)) (o : List ℕ) → length xs ≤ most_items → ((x : List ℕ) → x ∈ xs → ItemSized x) → answers_length xs ≤ length o
    → offered_by (bundle (bundle_of xs) o) ≡ xs
bundle-offered xs o few sized fits = rw (items_back most_items xs few sized, le-leb (answers_length xs) (length o) fits)

-- what was cut is offered
pub cut-offers : {bs : List (List ℕ)} {cs : List Call} → Cut bs cs → offered_by_all cs ≡ bs
unfolding concat_map
cut-offers cut_end = refl
cut-offers (cut_single b c) = ap (λ (r : List (List ℕ)). b ∷ r) (cut-offers c)
cut-offers (cut_bundle xs o few sized fits c) = ap₂ ◌++◌ (bundle-offered xs o few sized fits) (cut-offers c)
cut-offers (cut_nothing b o e c) = ap₂ ◌++◌ e (cut-offers c)

-- bytes that are no bundle, which 13 refuses, offer nothing, nor does a bundle whose answers do not fit, which 11 refuses
pub none-offered : (b o : List ℕ) → items_of b ≡ None → offered_by (bundle b o) ≡ []
none-offered b o e = rw e

pub short-offered : (b o : List ℕ) {xs : List (List ℕ)} → items_of b ≡ Some xs → length o < answers_length xs → offered_by (bundle b o) ≡ []
short-offered b o {xs} e h = rw (e, lt-leb (answers_length xs) (length o) h)
