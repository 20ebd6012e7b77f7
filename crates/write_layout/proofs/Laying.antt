-- The bytes of a new update, piece by piece as they are printed.
use Prim.Native.Nat.{ℕ, ◌+◌, ◌≤◌, ◌<◌}
use mathlib.Core.Path.{◌≡◌, refl, sym, ap, ap₂, subst, ◌∙◌}
use mathlib.Core.List.Memᴰ
use Rattle.std.proofs.Common.{⊎_elim}
use Rattle.bytes_order.specs.Member.{◌∈◌}
use mathlib.Core.List.{List, [], ◌∷◌, ◌++◌, map, append-nil, map-append}
use lib.ListN.{length, get_or, take, length-map}
use lib.Seq.{take_all}
use Rattle.std.proofs.lemmas.List.{take_more}
use Rattle.bytes_order.specs.MemberLaws.{concat_map-append, append-∈, ∈-singleton}
use Rattle.bytes_order.specs.Member.{concat_map}
use Rattle.update_format.specs.Update.{id_length, Operation, encode_operation, encode}
use Rattle.update_format.specs.Slices.{joined, SizedIds}
use Rattle.ledger_state.specs.State.{Book, place_at}
use Rattle.ledger_relations.specs.PlaceTests.{id_at}
use Rattle.write_predecessors.specs.Choose.{chosen_places}
use Rattle.write_layout.specs.Written.{written_at}

-- ids

abbrev pub ids_of : Book → List ℕ → List ℕ
ids_of l ys = joined (map (λ (k : ℕ). (place_at l k).id) ys)

module _ (l : Book) (xs : List ℕ) where
  pub ids_none : [] ≡ ids_of l (take 0 xs)
  unfolding concat_map
  ids_none = refl

  pub ids_next : (i : ℕ) → i < length xs → ids_of l (take i xs) ++ (place_at l (get_or xs i 0)).id ≡ ids_of l (take (i + 1) xs)
  unfolding concat_map
  ids_next i h =
      ap (λ (b : List ℕ). ids_of l (take i xs) ++ b) (sym (append-nil (place_at l (get_or xs i 0)).id))
      ∙ sym (concat_map-append (λ (b : List ℕ). b) (map (λ (k : ℕ). (place_at l k).id) (take i xs)) ((place_at l (get_or xs i 0)).id ∷ []))
      ∙ ap joined (sym (map-append (λ (k : ℕ). (place_at l k).id) (take i xs) (get_or xs i 0 ∷ [])) ∙ ap (map (λ (k : ℕ). (place_at l k).id)) (sym (take_more xs i 0 h)))

  pub ids_all : (i : ℕ) → length xs ≤ i → ids_of l (take i xs) ≡ ids_of l xs
  ids_all i h = ap (ids_of l) (take_all i xs h)

  -- each has 32 bytes
  abbrev sized_to : ℕ → Type 0
  sized_to i = SizedIds (map (λ (k : ℕ). (place_at l k).id) (take i xs))

  pub none-sized : sized_to 0
  none-sized i m = absurd (Memᴰ.not-nil m)

  pub more-sized : (i : ℕ) → i < length xs → sized_to i → length (place_at l (get_or xs i 0)).id ≡ id_length → sized_to (i + 1)
  more-sized i h f e b m =
      ⊎_elim (f b) (λ (n : b ∈ (place_at l (get_or xs i 0)).id ∷ []). ap length (∈-singleton n) ∙ e)
      (append-∈ (map (λ (k : ℕ). (place_at l k).id) (take i xs))
      (subst (λ (is : List (List ℕ)). b ∈ is) (ap (map (λ (k : ℕ). (place_at l k).id)) (take_more xs i 0 h) ∙ map-append (λ (k : ℕ). (place_at l k).id) (take i xs) (get_or xs i 0 ∷ [])) m))

  pub all-sized : (i : ℕ) → length xs ≤ i → sized_to i → SizedIds (map (λ (k : ℕ). (place_at l k).id) xs)
  all-sized i h = subst (λ (ks : List ℕ). SizedIds (map (λ (k : ℕ). (place_at l k).id) ks)) (take_all i xs h)

-- the whole update
pub update-sized : (l : Book) (s : List ℕ) (a : ℕ) (o : Operation) (xs : List ℕ) → xs ≡ chosen_places l s a → SizedIds (map (λ (k : ℕ). (place_at l k).id) xs)
    → SizedIds (written_at l s a o).preds
unfolding written_at
update-sized l s a o xs e = subst (λ (ks : List ℕ). SizedIds (map (id_at l s) ks)) e

pub update-bytes : (l : Book) (s : List ℕ) (a : ℕ) (o : Operation) (n : ℕ) (xs : List ℕ) → n ≡ length xs → xs ≡ chosen_places l s a
    → (1 ∷ a ∷ n ∷ []) ++ (ids_of l xs ++ encode_operation o) ≡ encode (written_at l s a o)
unfolding encode written_at
update-bytes l s a o n xs e h =
    ap₂ (λ (n : ℕ) (ys : List ℕ). 1 ∷ a ∷ n ∷ (joined (map (id_at l s) ys) ++ encode_operation o))
    (e ∙ ap length h ∙ sym (length-map (chosen_places l s a) (id_at l s))) h
