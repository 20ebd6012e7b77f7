-- The places that are put together: the held Inserts of one rank.
use Rattle.std.specs.Prelude.{ℕ, ◌+◌, ◌≤◌, ◌<◌, List, Bool, length}
use Rattle.bytes_order.specs.Member.{keep}
use Rattle.ledger_state.specs.State.{places, Book, place_at}
use Rattle.ledger_relations.specs.Effects.{ranked_in}
use Rattle.ledger_sorting.specs.PlaceLists.{Places, PlaceList}

-- it is a list of places, and k is a place
pub record PlaceAmong (xs : List ℕ) (k : ℕ) : Type 0 where
  pub is_list : PlaceList xs
  pub place_within : k < places

module _ (l : Book) (s : List ℕ) where
  -- k holds a held Insert with n ancestors
  unfoldable pub ranked_at : ℕ → ℕ → Bool
  ranked_at n k = ranked_in l.terms s n (place_at l k) k

  -- both are lists of places, and the entries have room for those of rank n
  pub record RankRoom (order : List ℕ) (n : ℕ) (entries : Places) : Type 0 where
    pub order-is-list : PlaceList order
    pub entries-is-list : PlaceList entries.items
    pub room : length entries.items + length (keep (ranked_at n) order) ≤ places
