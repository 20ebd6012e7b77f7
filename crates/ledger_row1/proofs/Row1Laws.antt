-- Row 1: the walk over the places, and what they decide.
use Rattle.std.proofs.Common.{◌≡◌, ℕ, ◌≤◌, List, true, length, eq-eqb, le-leb}
use Rattle.bitset.specs.Below.{all_below}
use Rattle.bitset.specs.BelowLaws.{all_below-none, all_below-next, all_below-stop, all_below-end}
use Rattle.rules.specs.Terms.{allowed}
use Rattle.ledger_state.specs.State.{store_length_of, Book}
use Rattle.ledger_state.specs.Row1.{sound}
use Rattle.ledger_row1.specs.Checked.{sound_at}

pub ruleset place_by_place = (all_below-none, all_below-next, all_below-stop, all_below-end)

-- where the store is whole and no more places are taken than there are, the places decide
pub by_places : (l : Book) (s : List ℕ) → allowed l.terms ≡ true → length s ≡ store_length_of l.terms → l.used ≤ l.terms.places
    → sound l s ≡ all_below l.used (sound_at l)
unfolding sound
by_places l s terms e u = rw (terms, eq-eqb _ _ e, le-leb _ _ u)
