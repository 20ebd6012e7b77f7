-- What the functions below the entry `standings` ask and promise: the ids of listed places laid end to end, with the bytes of their standings beside them.
use Rattle.std.specs.Prelude.{◌≡◌, ℕ, ◌+◌, ◌*◌, ◌≤◌, ◌<◌, List, map, length, take, set}
use Rattle.bytes_copy.specs.Overwritten.{overwritten}
use Rattle.update_format.specs.Update.{id_length}
use Rattle.standing_bytes.specs.StandingByte.{standing_byte}
use Rattle.lookup_merge.specs.Merging.{Merges}
use Rattle.lookup_merge.specs.Layout.{stored_in}
use Rattle.ledger_state.specs.State.{places, Place, Book}
use Rattle.ledger_sorting.specs.PlaceLists.{PlaceList}
use Rattle.lookup_standings.specs.Lookup.{stored_id, IdOrder, look_up}

-- there is room for an id at index k, and for a byte
pub record Room (k : ℕ) (ids bytes : List ℕ) : Type 0 where
  pub few : k < places
  pub id_room : id_length * k + id_length ≤ length ids
  pub byte_room : k < length bytes

-- the place's id was put at index k of the ids, and the byte of its standing at index k of the bytes
pub record PutAt (p : Place) (k : ℕ) (ids bytes ids' bytes' : List ℕ) : Type 0 where
  pub sized : length p.id ≡ id_length
  pub id_put : ids' ≡ overwritten ids (id_length * k) p.id
  pub byte_put : bytes' ≡ set bytes k (standing_byte p.standing)

-- it is a list of places, and there is room for the ids and bytes of as many
pub record Gatherable (ks ids bytes : List ℕ) : Type 0 where
  pub is_list : PlaceList ks
  pub id_room : id_length * places ≤ length ids
  pub byte_room : places ≤ length bytes

-- the listed places are laid out
pub record Gathered (l : Book) (ks ids bytes ids' bytes' : List ℕ) : Type 0 where
  pub bytes_size : length bytes' ≡ length bytes
  pub laid_out : stored_in ids' (take (length ks) bytes') ≡ map (stored_id l) ks

-- the asked ids are answered by the walk beside the ledger's ids in ascending order
pub record Answers (l : Book) (a o : List ℕ) (n : ℕ) (o' : List ℕ) : Type 0 where
  pub order : List ℕ
  pub in_order : IdOrder l order
  pub merges : Merges (look_up l order a) o n o'
