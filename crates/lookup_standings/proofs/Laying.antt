-- What holds at each turn of the gathering loop, and what each turn keeps.
use Prim.Native.Nat.{ℕ, ◌+◌, ◌*◌, ◌≤◌, ◌<◌}
use mathlib.Core.Path.{◌≡◌, refl, sym, ap, ap₂, subst, ◌∙◌}
use mathlib.Core.List.{List, [], ◌∷◌, ◌++◌, map, map-append}
use native.Mathlib.Omega.{arith}
use native.Mathlib.Numerals.{add-one}
use lib.ListN.{length, get_or, take, length-set}
use lib.Seq.{take-suc, take-suc-set, length-take-le}
use Rattle.bytes_copy.specs.Overwritten.{overwritten}
use Rattle.bytes_copy.specs.OverwrittenLaws.{overwritten-length, overwritten-back, overwritten-before}
use Rattle.update_format.specs.Update.{id_length, Id}
use Rattle.update_format.specs.Decode.{slice, ids_in}
use Rattle.standing_bytes.specs.StandingByte.{standing_byte}
use Rattle.lookup_merge.specs.Merge.{Stored, merge}
use Rattle.lookup_merge.specs.Merging.{Merges}
use Rattle.lookup_merge.specs.Layout.{stored_in}
use Rattle.lookup_merge.proofs.LayoutLaws.{stored-take, stored-then}
use Rattle.ledger_state.specs.State.{Book, place_at}
use Rattle.lookup_standings.specs.Lookup.{stored_id, look_up}
use Rattle.lookup_standings.specs.Gathering.{PutAt}

-- the first k of the places ks are laid out in ids and bytes, which have the lengths of those at first
pub record Laid (l : Book) (ks : List ℕ) (ids₀ bytes₀ : List ℕ) (k : ℕ) (ids bytes : List ℕ) : Type 0 where
  pub listed : k ≤ length ks
  pub ids_size : length ids ≡ length ids₀
  pub bytes_size : length bytes ≡ length bytes₀
  pub laid_out : stored_in ids (take k bytes) ≡ map (stored_id l) (take k ks)

pub laid_none : (l : Book) (ks ids bytes : List ℕ) → Laid l ks ids bytes 0 ids bytes
unfolding stored_in
laid_none l ks ids bytes = record { listed = omega arith; ids_size = refl; bytes_size = refl; laid_out = refl }

-- only the ids before an index count for the bytes before it
stored-before : (ids ids' bs : List ℕ) → take (id_length * length bs) ids' ≡ take (id_length * length bs) ids → stored_in ids' bs ≡ stored_in ids bs
stored-before ids ids' bs e = stored-take ids' bs ∙ ap (λ (r : List ℕ). stored_in r bs) e ∙ sym (stored-take ids bs)

module _ (l : Book) (ks ids₀ bytes₀ : List ℕ) {k : ℕ} {ids bytes ids' bytes' : List ℕ} (h : Laid l ks ids₀ bytes₀ k ids bytes) where
  pub laid_more : {at : ℕ} → at ≡ get_or ks k 0 → k < length ks → id_length * k + id_length ≤ length ids → k < length bytes → PutAt (place_at l at) k ids bytes ids' bytes'
      → Laid l ks ids₀ bytes₀ (k + 1) ids' bytes'
  laid_more {at} e more id_room byte_room p =
      let i : Id = (place_at l at).id in
      let b : ℕ = standing_byte (place_at l at).standing in
      let fits : id_length * k + length i ≤ length ids = omega (arith, p.sized) in
      let size : length (take k bytes) ≡ k = length-take-le k bytes (omega arith) in
      let front : take (id_length * k) ids' ≡ take (id_length * k) ids =
      ap (take (id_length * k)) p.id_put ∙ overwritten-before ids (id_length * k) i fits 0 (id_length * k) (omega arith) in
      let back : slice ids' (id_length * k) id_length ≡ i =
      ap (λ (r : List ℕ). slice r (id_length * k) id_length) p.id_put
      ∙ ap (λ (n : ℕ). slice (overwritten ids (id_length * k) i) (id_length * k) n) (sym p.sized)
      ∙ overwritten-back ids (id_length * k) i fits in
      let bs : take (k + 1) bytes' ≡ take k bytes ++ (b ∷ []) =
      ap₂ take (add-one k) p.byte_put ∙ take-suc-set bytes k b byte_room in
      let kept : stored_in ids' (take k bytes) ≡ stored_in ids (take k bytes) =
      stored-before ids ids' (take k bytes) (ap (λ (n : ℕ). take (id_length * n) ids') size ∙ front ∙ ap (λ (n : ℕ). take (id_length * n) ids) (sym size)) in
      let new : slice ids' (id_length * length (take k bytes)) id_length ≡ i = ap (λ (n : ℕ). slice ids' (id_length * n) id_length) size ∙ back in
      let listed_more : map (stored_id l) (take (k + 1) ks) ≡ map (stored_id l) (take k ks) ++ (stored_id l at ∷ []) =
      ap (map (stored_id l)) (ap (λ (n : ℕ). take n ks) (add-one k) ∙ take-suc ks k 0 more ∙ ap (λ (n : ℕ). take k ks ++ (n ∷ [])) (sym e)) ∙ map-append (stored_id l) (take k ks) (at ∷ []) in
      record {
        listed = omega arith;
        ids_size = ap length p.id_put ∙ overwritten-length ids (id_length * k) i fits ∙ h.ids_size;
        bytes_size = ap length p.byte_put ∙ length-set bytes k b ∙ h.bytes_size;
        laid_out =
            ap (stored_in ids') bs
            ∙ stored-then ids' (take k bytes) b
            ∙ ap₂ (λ (xs : List Stored) (j : Id). xs ++ (record { id = j; byte = b } ∷ [])) (kept ∙ h.laid_out) new
            ∙ sym listed_more;
      }

-- the merge of what is laid out is the walk of the listed places
pub merges-listed : (l : Book) (ks a : List ℕ) {xs : List Stored} {o o' : List ℕ} {n : ℕ} → xs ≡ map (stored_id l) ks → Merges (merge xs (ids_in a)) o n o'
    → Merges (look_up l ks a) o n o'
merges-listed l ks a {o = o} {o' = o'} {n = n} e m = subst (λ (ys : List Stored). Merges (merge ys (ids_in a)) o n o') e m
