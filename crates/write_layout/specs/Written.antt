-- The update that is written: the author's, with the predecessors chosen by places, for every ledger. The theorem `chosen-right` says that for a ledger
-- that stands it is the rules' written update.
use Rattle.std.specs.Prelude.{ℕ, ◌≤◌, List, map}
use Rattle.update_format.specs.Update.{Operation, Update}
use Rattle.update_format.specs.Decode.{first_predecessor}
use Rattle.ledger_state.specs.State.{Book}
use Rattle.ledger_relations.specs.PlaceTests.{id_at}
use Rattle.write_predecessors.specs.Choose.{chosen_places}
use Rattle.ledger_sorting.specs.PlaceLists.{PlaceList}

module _ (l : Book) (s : List ℕ) where
  unfoldable pub written_at : ℕ → Operation → Update
  written_at a o = record { author = a; preds = map (id_at l s) (chosen_places l s a); op = o }

-- what is asked to print the ids of a list at byte `at`, after the header
pub record IdsAt (xs : List ℕ) (at : ℕ) : Type 0 where
  pub is_list : PlaceList xs
  pub at_within : at ≤ first_predecessor
