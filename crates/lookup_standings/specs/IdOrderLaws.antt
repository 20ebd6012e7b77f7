-- The ledger's ids in ascending order: the sort of the taken places by id is one such list, and the only one where no id stands at two places. And the bounds of the comparisons.
use Rattle.std.specs.Prelude.{◌≡◌, refl, ℕ, ◌+◌, ◌≤◌, ◌<◌, List, [], ◌∷◌, map, length}
use Rattle.std.proofs.Common.{sym, arith}
use mathlib.Core.List.Memᴰ
use Rattle.std.proofs.lemmas.List.{length-map}
use Rattle.bytes_order.specs.Member.{◌∈◌}
use Rattle.bytes_order.specs.MemberLaws.{∈-cast, ∈-map}
use Rattle.bytes_order.specs.Distinct.{Identifies}
use Rattle.bytes_order.specs.DistinctLaws.{distinct-length}
use Rattle.bytes_order.specs.Ascending.{Ascending}
use Rattle.bytes_order.specs.SortLaws.{sort-∈, sort-key, sort-ascending, sort-unique, ascending-distinct, ascending-map}
use Rattle.bitset.specs.Below.{up_to}
use Rattle.bitset.specs.BelowLaws.{up_to-∈, ∈-up_to, up_to-length}
use Rattle.update_format.specs.Update.{Id}
use Rattle.update_format.specs.Decode.{ids_in}
use Rattle.lookup_merge.specs.Merge.{id_of, merge}
use Rattle.lookup_merge.proofs.LookupLaws.{comparisons-bound, comparisons-best, none-stored, none-asked}
use Rattle.ledger_state.specs.State.{Book}
use Rattle.ledger_relations.specs.PlaceTests.{id_order}
use Rattle.lookup_standings.specs.Lookup.{LookupValues, compared_ids, place_id, stored_id, IdOrder, look_up, LookupRow, unfit, uneven, unordered, short, answered}

pub sorted-in-order : (l : Book) (s : List ℕ) → IdOrder l (id_order l s)
unfolding id_order
sorted-in-order l s =
    record {
      taken = λ k m. up_to-∈ l.used (sort-∈ (place_id l) (up_to l.used) m);
      ascends = sort-ascending (place_id l) (up_to l.used);
      every = λ k h. sort-key (place_id l) (∈-up_to l.used h);
    }

module _ (l : Book) {ks : List ℕ} (o : IdOrder l ks) where
  -- the listed ids ascend, and are those of the taken places
  pub listed-ascend : Ascending id_of (map (stored_id l) ks)
  listed-ascend = ascending-map id_of (stored_id l) o.ascends (λ k. refl)

  -- no more than there are taken places
  pub order-length : length ks ≤ l.used
  order-length =
      omega (
        arith,
        distinct-length (ascending-distinct o.ascends) (map (place_id l) (up_to l.used)) (λ k m. ∈-map (place_id l) (∈-up_to l.used (o.taken k m))),
        length-map (up_to l.used) (place_id l),
        up_to-length l.used,
      )

  order-some : {k : ℕ} → k < l.used → 0 < length ks
  order-some {k} h = ∈-some (o.every k h).1
    where
      ∈-some : {j : ℕ} {js : List ℕ} → j ∈ js → 0 < length js
      ∈-some (Memᴰ.head e) = omega arith
      ∈-some (Memᴰ.tail m) = omega arith

  -- Where no id stands at two places, there is one such list: the sort of the taken places.
  pub id-order-one : (s : List ℕ) → Identifies (place_id l) (up_to l.used) → id_order l s ≡ ks
  unfolding id_order
  id-order-one s once =
      sort-unique (place_id l) once o.ascends
      (record {
        forth = λ k m. let e = o.every k (up_to-∈ l.used m) in ∈-cast (sym (once e.0 k (∈-up_to l.used (o.taken e.0 e.1)) m e.2)) e.1;
        back = λ k m. ∈-up_to l.used (o.taken k m);
      })

-- "never exceeds stored plus asked", for every ledger; the best bound is one less where neither is empty, and 0 otherwise
module _ (l : Book) (a : List ℕ) {ks : List ℕ} (o : IdOrder l ks) where
  look-up-bound : (look_up l ks a).comparisons ≤ l.used + length (ids_in a)
  look-up-bound = omega (arith, comparisons-bound (map (stored_id l) ks) (ids_in a), length-map ks (stored_id l), order-length l o)

  look-up-best : 0 < l.used → 0 < length (ids_in a) → (look_up l ks a).comparisons < l.used + length (ids_in a)
  look-up-best h k = go ks (ids_in a) (order-some l o h) k (order-length l o)
    where
      go : (js : List ℕ) (is : List Id) → 0 < length js → 0 < length is → length js ≤ l.used → (merge (map (stored_id l) js) is).comparisons < l.used + length is
      go [] is p q r = absurd (omega arith)
      go (j ∷ js) [] p q r = absurd (omega arith)
      go (j ∷ js) (i ∷ is) p q r = omega (arith, comparisons-best (stored_id l j) (map (stored_id l) js) i is, length-map js (stored_id l))

  look-up-unasked : length (ids_in a) ≡ 0 → (look_up l ks a).comparisons ≡ 0
  look-up-unasked e = go (ids_in a) e
    where
      go : (is : List Id) → length is ≡ 0 → (merge (map (stored_id l) ks) is).comparisons ≡ 0
      go [] e = none-asked (map (stored_id l) ks)
      go (i ∷ is) e = absurd (omega arith)

  look-up-empty : l.used ≡ 0 → (look_up l ks a).comparisons ≡ 0
  look-up-empty e = go ks (omega (arith, order-length l o))
    where
      go : (js : List ℕ) → length js ≡ 0 → (merge (map (stored_id l) js) (ids_in a)).comparisons ≡ 0
      go [] e = none-stored (ids_in a)
      go (j ∷ js) e = absurd (omega arith)

-- The same of the entry: the comparisons n that it answers, for every ledger.
pub record CountBounds (l : Book) (a : List ℕ) (n : ℕ) : Type 0 where
  pub within : n ≤ l.used + length (ids_in a)
  pub best : 0 < l.used → 0 < length (ids_in a) → n < l.used + length (ids_in a)
  pub none_used : l.used ≡ 0 → n ≡ 0
  pub none_asked_for : length (ids_in a) ≡ 0 → n ≡ 0

pub lookup-bounds : {l : Book} {s a o o' : List ℕ} {v : LookupValues} → LookupRow l s a o v o' → (n : ℕ) → v ≡ compared_ids n → CountBounds l a n
lookup-bounds (unfit e) n q = let z : ◌≡◌ {A = ℕ} 0 1 = cc in absurd (omega arith)
lookup-bounds (uneven e w) n q = let z : ◌≡◌ {A = ℕ} 0 1 = cc in absurd (omega arith)
lookup-bounds (unordered e w u) n q = let z : ◌≡◌ {A = ℕ} 0 1 = cc in absurd (omega arith)
lookup-bounds (short e w u g) n q = let z : ◌≡◌ {A = ℕ} 0 1 = cc in absurd (omega arith)
lookup-bounds {l} {a = a} (answered ks e w u g t) n q =
    let p : (look_up l ks a).comparisons ≡ n = cc in
    rw (← p)
    (record { within = look-up-bound l a t; best = look-up-best l a t; none_used = look-up-empty l a t; none_asked_for = look-up-unasked l a t })
