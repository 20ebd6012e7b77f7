-- What the entry `standings` promises, for every ledger, store, run of asked ids and output buffer.
use Rattle.std.specs.Prelude.{◌≡◌, ℕ, ◌≤◌, ◌<◌, List, ◌++◌, map, true, false, length, drop, Result, Ok, Err}
use Rattle.bytes_order.specs.Order.{ascending}
use Rattle.bytes_order.specs.Member.{◌∈◌}
use Rattle.bytes_order.specs.Ascending.{Ascending}
use Rattle.update_format.specs.Update.{Id}
use Rattle.update_format.specs.Decode.{whole_ids, ids_in}
use Rattle.standing_bytes.specs.StandingByte.{standing_byte}
use Rattle.lookup_merge.specs.Merge.{Stored, Merged, merge}
use Rattle.ledger_state.specs.State.{Book, place_at}
use Rattle.ledger_state.specs.Row1.{sound}
use Rattle.ledger_refusals.specs.Numbers.{row1_number, row8_number, row9_number, row11_number, refusal_number}
use Rattle.ledger_refusals.specs.declared.Refusal.{Refusal}

-- the values of an answer: how many comparisons of two ids were made, or the number of the row
pub data LookupValues : Type 0 where
  compared_ids : ℕ → LookupValues
  refused_as : ℕ → LookupValues

abbrev pub looked_up : Result ℕ Refusal → LookupValues
looked_up (Ok n) = compared_ids n
looked_up (Err r) = refused_as (refusal_number r)

module _ (l : Book) where
  -- the id of a place, and the place as a stored id with the byte of its standing
  abbrev pub place_id : ℕ → Id
  place_id k = (place_at l k).id

  abbrev pub stored_id : ℕ → Stored
  stored_id k = record { id = (place_at l k).id; byte = standing_byte (place_at l k).standing }

  -- "the ledger's ids in ascending order": taken places whose ids ascend, with the id of every taken place. A ledger with no id at two places, and so every one that the library
  -- made, has one such list (`id-order-one`). Of places with one id, in a ledger from elsewhere, one is listed, and which one is free.
  pub record IdOrder (ks : List ℕ) : Type 0 where
    pub taken : (k : ℕ) → k ∈ ks → k < l.used
    pub ascends : Ascending place_id ks
    pub every : (k : ℕ) → k < l.used → (j : ℕ) × (j ∈ ks) × (place_id j ≡ place_id k)

  -- the walk of the listed places' ids beside those that a lays out
  abbrev pub look_up : List ℕ → List ℕ → Merged
  look_up ks a = merge (map stored_id ks) (ids_in a)

-- What the asked ids' bytes a, looked up in the ledger l and the store s with the output buffer o, yield: the number of comparisons or the number of the row, and the
-- buffer as it is left. A constructor for each row, in the order in which they are checked ("1, then 8 for bytes that are no multiple of 32, then 9, then 11"), and for ids that
-- are answered: "one byte for each", at the start of the buffer, the bytes after them kept.
pub data LookupRow (l : Book) (s a o : List ℕ) : LookupValues → List ℕ → Type 0 where
  unfit : sound l s ≡ false → LookupRow l s a o (refused_as row1_number) o
  uneven : sound l s ≡ true → whole_ids a ≡ false → LookupRow l s a o (refused_as row8_number) o
  unordered : sound l s ≡ true → whole_ids a ≡ true → ascending (ids_in a) ≡ false → LookupRow l s a o (refused_as row9_number) o
  short : sound l s ≡ true → whole_ids a ≡ true → ascending (ids_in a) ≡ true → length o < length (ids_in a) → LookupRow l s a o (refused_as row11_number) o
  answered : (ks : List ℕ) → sound l s ≡ true → whole_ids a ≡ true → ascending (ids_in a) ≡ true → length (ids_in a) ≤ length o → IdOrder l ks
      → LookupRow l s a o (compared_ids (look_up l ks a).comparisons) ((look_up l ks a).answers ++ drop (length (ids_in a)) o)
