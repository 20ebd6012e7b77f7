-- What is so of settling that is under way, wherever it has come.
use Rattle.std.specs.Prelude.{◌≡◌, ℕ, ◌+◌, ◌≤◌, ◌<◌, length, get_or}
use Rattle.ledger_lists.specs.PlaceItems.{PlaceItems}
use Rattle.ledger_state.specs.declared.Ledger.{Ledger}
use Rattle.ledger_state.specs.State.{places, is_waiting, standing_count}
use Rattle.ledger_state.specs.View.{book_of}

-- the worklist lists the places that became held or void, and has room for every place that still waits
pub record Roomy (l : Ledger) (worklist : PlaceItems) (held void : ℕ) : Type 0 where
  pub counted : length worklist.items ≡ held + void
  pub room : held + void + standing_count is_waiting (book_of l) ≤ places
  pub used_within : l.used ≤ places
  pub each_within : (i : ℕ) → get_or worklist.items i 0 < places
