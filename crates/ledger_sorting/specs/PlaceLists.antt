-- What the code works with: lists of places, and the keys that they go by.
use Rattle.std.specs.Prelude.{◌≡◌, ℕ, ◌≤◌, ◌<◌, List, ◌∷◌, ◌++◌, Bool, true, length, take, drop, slice_index, EachIndex}
use Rattle.bytes_order.specs.Member.{keep, all}
use Rattle.bytes_order.specs.Sort.{sort}
use Rattle.bitset.specs.Below.{up_to}
use Rattle.rules.specs.SetEntry.{entry_key}
use Rattle.update_fields.specs.Fields.{test_of, is_any_add, set_entry_in}
use Rattle.ledger_state.specs.State.{places, Place, Book, place_at, decoded_in, Terms}
use Rattle.ledger_state.specs.Asked.{TwoPlaces}
use Rattle.ledger_lists.specs.PlaceItems.{PlaceItems}
use Rattle.ledger_relations.specs.PlaceTests.{present_at, id_order}
use Rattle.ledger_sorting.specs.declared.Key.{Key}
use Rattle.ledger_sorting.specs.declared.Key.TheVariants.{Id, SetEntry}

-- a list of places by value
abbrev pub Places : Type 0
Places = PlaceItems

-- k put before the index n
abbrev pub ins : ℕ → ℕ → List ℕ → List ℕ
ins n k xs = take n xs ++ (k ∷ drop n xs)

-- a list of places: no more of them than a ledger has, and each one a place
pub record PlaceList (xs : List ℕ) : Type 0 where
  pub room : length xs ≤ places
  pub inside : EachIndex xs (λ (i : ℕ). slice_index xs i < places)

-- it is a list of places, and they are xs
pub record Lists (o : Places) (xs : List ℕ) : Type 0 where
  pub is_list : PlaceList o.items
  pub are : o.items ≡ xs

-- it is a list of places with room for one more, and k is a place
pub record RoomFor (o : Places) (k : ℕ) : Type 0 where
  pub is_list : PlaceList o.items
  pub room : length o.items < places
  pub place_within : k < places

-- they are a ledger's taken places, ascending by id
pub record InOrder (l : Book) (s : List ℕ) (xs : List ℕ) : Type 0 where
  pub is_list : PlaceList xs
  pub are : xs ≡ id_order l s

-- what an ascending list goes by: the id, or the key of the set entry
abbrev pub key_in : Terms → List ℕ → Key → Place → ℕ → List ℕ
key_in t s Id p k = p.id
key_in t s SetEntry p k = entry_key (set_entry_in (decoded_in t s p k))

-- whether the place has one: each has an id, an Add a set entry
abbrev pub has_key : Terms → List ℕ → Key → Place → ℕ → Bool
has_key t s Id p k = true
has_key t s SetEntry p k = test_of is_any_add (decoded_in t s p k)

module _ (l : Book) (s : List ℕ) where
  -- what an ascending list goes by, whether a place has it, the places that it lists, and the list
  abbrev pub key_of : Key → ℕ → List ℕ
  key_of y k = key_in l.terms s y (place_at l k) k

  abbrev pub keyed_at : Key → ℕ → Bool
  keyed_at y k = has_key l.terms s y (place_at l k) k

  abbrev pub candidate : Key → ℕ → Bool
  candidate Id k = true
  candidate SetEntry k = present_at l s k

  -- all of these places have the key
  abbrev pub keyed : Key → List ℕ → Bool
  keyed y xs = all (λ (k : ℕ). keyed_at y k) xs

  -- j and k are places, and both have such a key
  pub record TwoKeys (y : Key) (j k : ℕ) : Type 0 where
    pub two_places : TwoPlaces j k
    pub own_keyed : keyed_at y j ≡ true
    pub other_keyed : keyed_at y k ≡ true

  -- it is a list of places, k is a place, and k and all listed places have the key
  pub record KeyedList (y : Key) (xs : List ℕ) (k : ℕ) : Type 0 where
    pub is_list : PlaceList xs
    pub place_within : k < places
    pub own_keyed : keyed_at y k ≡ true
    pub listed-keyed : keyed y xs ≡ true

  -- the list has room for k, and k and all listed places have the key
  pub record KeyedRoomFor (y : Key) (o : Places) (k : ℕ) : Type 0 where
    pub room_for : RoomFor o k
    pub own_keyed : keyed_at y k ≡ true
    pub listed-keyed : keyed y o.items ≡ true

  -- the same, but k may have none
  pub record KeyedRoomIn (y : Key) (o : Places) (k : ℕ) : Type 0 where
    pub room_for : RoomFor o k
    pub listed-keyed : keyed y o.items ≡ true

  unfoldable pub sorted_by : Key → List ℕ
  sorted_by y = sort (key_of y) (keep (candidate y) (up_to l.used))
