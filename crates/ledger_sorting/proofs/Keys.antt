-- The keys of places: which places have one, and how two set entries stand to each other.
use Prim.Native.Nat.{ℕ}
use mathlib.Core.Path.{◌≡◌, refl, sym, ◌∙◌, ap}
use mathlib.Core.List.{List, [], ◌∷◌}
use mathlib.Core.Bool.{true, not, ◌&&◌}
use Rattle.update_format.specs.declared.Bounds.{Bounds}
use Rattle.bytes_order.specs.BoolLaws.{and-true→}
use Rattle.std.specs.declared.cmp.Ordering.{Ordering}
use Rattle.std.specs.declared.cmp.Ordering.TheVariants.{Less, Equal, Greater}
use Rattle.std.specs.Ordering.{nat_cmp, MatchOrdering}
use Rattle.bytes_order.specs.Compare.{order_of, then_by}
use Rattle.bytes_order.specs.CompareLaws.{order-append, cmp_is_order}
use Rattle.bytes_order.specs.Member.{keep}
use Rattle.bytes_order.specs.MemberLaws.{keep-∈, ∈→all}
use Rattle.bytes_order.specs.Sort.{sort}
use Rattle.bytes_order.specs.SortLaws.{sort-∈}
use Rattle.update_format.specs.Decode.{decode}
use Rattle.update_fields.specs.Fields.{test_of, author_in, is_any_add, tag_in, set_entry_in}
use Rattle.update_fields.specs.FieldLaws.{add-tag-length}
use Rattle.rules.specs.SetEntry.{entry_key}
use Rattle.ledger_state.specs.State.{Book, place_at, decoded_at}
use Rattle.ledger_relations.specs.PlaceTests.{id_at, held_at, removed_at, present_at}
use Rattle.ledger_sorting.specs.declared.Key.{Key}
use Rattle.ledger_sorting.specs.declared.Key.TheVariants.{Id, SetEntry}
use Rattle.ledger_sorting.specs.PlaceLists.{has_key, key_of, keyed_at, candidate, keyed}

-- the entries of two Adds: by how their tags stand to each other, o, then by author
pub set-entries-order : (bounds : Bounds) (b b' : List ℕ) {o : Ordering} → test_of is_any_add (decode bounds b) ≡ true → test_of is_any_add (decode bounds b') ≡ true
    → o ≡ order_of (tag_in (decode bounds b)) (tag_in (decode bounds b'))
    → then_by o (order_of (author_in (decode bounds b) ∷ []) (author_in (decode bounds b') ∷ [])) ≡ order_of (entry_key (set_entry_in (decode bounds b))) (entry_key (set_entry_in (decode bounds b')))
unfolding entry_key
set-entries-order bounds b b' h g e =
    ap (λ (o : Ordering). then_by o (order_of (author_in (decode bounds b) ∷ []) (author_in (decode bounds b') ∷ []))) e
    ∙ sym (order-append (tag_in (decode bounds b)) (tag_in (decode bounds b')) (author_in (decode bounds b) ∷ []) (author_in (decode bounds b') ∷ []) (add-tag-length bounds b h ∙ sym (add-tag-length bounds b' g)))

-- two numbers stand to each other as strings of one byte
then-equal : (o : Ordering) → then_by o Equal ≡ o
then-equal Less = refl
then-equal Equal = refl
then-equal Greater = refl

pub order-one : (a b : ℕ) → nat_cmp a b ≡ order_of (a ∷ []) (b ∷ [])
order-one a b = sym (then-equal (nat_cmp a b)) ∙ cmp_is_order (a ∷ []) (b ∷ [])

-- what `then_with` yields, where the closure yields p
pub chained : (o r : Ordering) {p : Ordering} {P : Type 0} → MatchOrdering o (r ≡ Less) P (r ≡ Greater) → (P → r ≡ p) → r ≡ then_by o p
chained Less r m f = m
chained Equal r m f = f m
chained Greater r m f = m

module _ (l : Book) (s : List ℕ) where
  -- how the keys of two places stand to each other: their ids, or their set entries
  pub ids-order : (y : Key) (j k : ℕ) {r : Ordering} → y ≡ Id → r ≡ order_of (id_at l s j) (id_at l s k) → r ≡ order_of (key_of l s y j) (key_of l s y k)
  ids-order Id j k e h = h
  ids-order SetEntry j k e h = absurd (unlike e)
    where
      unlike : SetEntry ≡ Id → ⊥
      unlike e = cc

  pub entries-order : (y : Key) (j k : ℕ) {r : Ordering} → y ≡ SetEntry
      → r ≡ order_of (entry_key (set_entry_in (decoded_at l s j))) (entry_key (set_entry_in (decoded_at l s k))) → r ≡ order_of (key_of l s y j) (key_of l s y k)
  entries-order SetEntry j k e h = h
  entries-order Id j k e h = absurd (unlike e)
    where
      unlike : Id ≡ SetEntry → ⊥
      unlike e = cc

  -- a set entry's key is an Add's
  pub keyed-add : (y : Key) (k : ℕ) → y ≡ SetEntry → keyed_at l s y k ≡ true → test_of is_any_add (decoded_at l s k) ≡ true
  keyed-add SetEntry k e h = h
  keyed-add Id k e h = absurd (unlike e)
    where
      unlike : Id ≡ SetEntry → ⊥
      unlike e = cc

  -- a listed place has the key
  pub candidate-keyed : (y : Key) (k : ℕ) → candidate l s y k ≡ true → has_key l.terms s y (place_at l k) k ≡ true
  unfolding present_at
  candidate-keyed Id k e = refl
  candidate-keyed SetEntry k e =
      let h = and-true→ (held_at l s k) (test_of is_any_add (decoded_at l s k) && not (removed_at l s (id_at l s k))) e in
      (and-true→ (test_of is_any_add (decoded_at l s k)) (not (removed_at l s (id_at l s k))) h.1).0

  pub sorted-keyed : (y : Key) (key : ℕ → List ℕ) (xs : List ℕ) → keyed l s y (sort key (keep (candidate l s y) xs)) ≡ true
  sorted-keyed y key xs =
      ∈→all (λ (k : ℕ). has_key l.terms s y (place_at l k) k) (sort key (keep (candidate l s y) xs))
      (λ k m. candidate-keyed y k (keep-∈ (candidate l s y) xs (sort-∈ key (keep (candidate l s y) xs) m)).1)
