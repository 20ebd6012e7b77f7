-- Finding an id: with places that hold the updates `us`, it is found at the one place whose update has it.
use Rattle.std.specs.Prelude.{◌≡◌, ℕ, ◌<◌, List, Bool, length}
use Rattle.std.proofs.Math.Path.{sym, ap}
use Rattle.std.proofs.Common.{◌∙◌}
use Rattle.std.specs.Prelude.{None, Some}
use Rattle.bytes_order.specs.Order.{same}
use Rattle.bytes_order.specs.OrderLaws.{same→eq, eq→same, same-false→ne}
use Rattle.bytes_order.specs.Member.{◌∈◌}
use Rattle.bytes_order.specs.MemberLaws.{get_or-∈, ∈-get_or}
use Rattle.bytes_order.specs.DistinctLaws.{distinct-index}
use Rattle.sha256_fips180.specs.Lengths.{length-digest}
use Rattle.update_format.specs.Update.{Id, id_length, Update, encode}
use Rattle.update_format.specs.Decode.{update, decode}
use Rattle.update_format.specs.Laws.{decode-complete}
use Rattle.bitset.specs.Below.{first_below}
use Rattle.bitset.specs.BelowLaws.{first_below-some→, first_below-one, first_below-none→}
use Rattle.ledger_state.specs.State.{Book, place_at, decoded_at, find_in}
use Rattle.ledger_state.specs.Stands.{ident, no_update, update_at, Holds}

pub ident-length : (u : Update) → length (ident u) ≡ id_length
unfolding ident
ident-length u = length-digest (encode u)

-- each update stands at a place
pub stored_at : (us : List Update) (k : ℕ) → k < length us → update_at us k ∈ us
stored_at us k h = get_or-∈ us k no_update h

-- what is read from a place is its update
pub stored-update : (l : Book) (s : List ℕ) (us : List Update) → Holds l s us → (k : ℕ) → k < length us → decoded_at l s k ≡ update (update_at us k)
stored-update l s us holds k h =
    ap (decode l.terms.bounds) (holds.bytes k h) ∙ decode-complete (update_at us k) (holds.bounded (update_at us k) (stored_at us k h))

pub place_of : (us : List Update) {u : Update} → u ∈ us → (k : ℕ) × (k < length us) × (update_at us k ≡ u)
place_of us m = ∈-get_or no_update m

-- an id is found at a taken place, whatever the ledger
pub find-taken : (l : Book) (i : Id) (j : ℕ) → find_in l i ≡ Some j → j < l.used
unfolding find_in
find-taken l i j e = (first_below-some→ l.used (λ (k : ℕ). same (place_at l k).id i) e).0

module _ (l : Book) (s : List ℕ) (us : List Update) (holds : Holds l s us) where
  has-id : Id → ℕ → Bool
  has-id i k = same (place_at l k).id i

  find-below : (i : Id) → find_in l i ≡ first_below (length us) (has-id i)
  unfolding find_in has-id
  find-below i = ap (λ (n : ℕ). first_below n (has-id i)) holds.number

  pub find-right : (i : Id) (k : ℕ) → find_in l i ≡ Some k → (k < length us) × (ident (update_at us k) ≡ i)
  unfolding has-id
  find-right i k e =
      let r = first_below-some→ (length us) (has-id i) (sym (find-below i) ∙ e) in
      (r.0, sym (holds.ids k r.0) ∙ same→eq (place_at l k).id i r.1)

  pub find-all : (k : ℕ) → k < length us → find_in l (ident (update_at us k)) ≡ Some k
  unfolding has-id
  find-all k h =
      find-below (ident (update_at us k))
      ∙ first_below-one (length us) (has-id (ident (update_at us k))) k h
      (eq→same (place_at l k).id (ident (update_at us k)) (holds.ids k h))
      (λ j g e.
      distinct-index no_update holds.distinct j k g h (sym (holds.ids j g) ∙ same→eq (place_at l j).id (ident (update_at us k)) e))

  pub find_none : (i : Id) → find_in l i ≡ None → (u : Update) → u ∈ us → ident u ≡ i → ⊥
  unfolding has-id
  find_none i e u m q =
      let p = place_of us m in
      same-false→ne (place_at l p.0).id i (first_below-none→ (length us) (has-id i) (sym (find-below i) ∙ e) p.0 p.1)
      (holds.ids p.0 p.1 ∙ ap ident p.2 ∙ q)
