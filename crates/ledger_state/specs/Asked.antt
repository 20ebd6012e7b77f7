-- What the functions ask of a ledger's places.
use Rattle.std.specs.Prelude.{◌≡◌, ℕ, ◌≤◌, ◌<◌, List, length}
use Rattle.update_format.specs.Update.{document_bounds, max_length}
use Rattle.ledger_state.specs.State.{places, document_terms, store_length_of, Book}

-- j and k are places
pub record TwoPlaces (j k : ℕ) : Type 0 where
  pub first_within : j < places
  pub second_within : k < places

-- the store is whole, k is a place, and the update fits one
pub record WritableAt (s : List ℕ) (k : ℕ) (b : List ℕ) : Type 0 where
  pub store_whole : length s ≡ store_length_of document_terms
  pub place_within : k < places
  pub update_within : length b ≤ max_length document_bounds
