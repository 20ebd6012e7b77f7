-- What the entry `standing` yields.
use Rattle.std.specs.Prelude.{ℕ, List, cond}
use Rattle.std.specs.Prelude.{Option, None, Some, Result, Ok, Err}
use Rattle.rules.specs.declared.Standing.{Standing}
use Rattle.update_format.specs.Update.{Id}
use Rattle.ledger_state.specs.State.{Book, place_at, find_in}
use Rattle.ledger_state.specs.Row1.{sound}
use Rattle.ledger_refusals.specs.declared.Refusal.{Refusal}
use Rattle.ledger_refusals.specs.Numbers.{row1_number, refusal_number}

-- document 01's values for each case of the answer: a standing, "unknown", or the number of the row
pub data AskedValues : Type 0 where
  stands_as : Standing → AskedValues
  unknown_id : AskedValues
  refused_as : ℕ → AskedValues

abbrev pub asked_values : Result (Option Standing) Refusal → AskedValues
asked_values (Ok (Some v)) = stands_as v
asked_values (Ok None) = unknown_id
asked_values (Err r) = refused_as (refusal_number r)

-- "The standing of an id .. checks 1, then gives the standing of the stored update with that id, or "unknown" if there is none."
abbrev pub asked_at : Book → Option ℕ → AskedValues
asked_at l None = unknown_id
asked_at l (Some k) = stands_as (place_at l k).standing

unfoldable pub asked_of : Book → List ℕ → Id → AskedValues
asked_of l s i = cond (sound l s) (asked_at l (find_in l i)) (refused_as row1_number)
