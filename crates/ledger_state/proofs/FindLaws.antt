-- Where an id was found: at a place.
use Rattle.std.proofs.Common.{◌≡◌, ℕ, ◌≤◌, ◌<◌, arith}
use Rattle.std.specs.Prelude.{Some}
use Rattle.update_format.specs.Update.{Id}
use Rattle.ledger_state.specs.State.{places, Book, find_in}
use Rattle.ledger_state.specs.FindLaws.{find-taken}

pub found_below : (l : Book) (i : Id) {j : ℕ} → find_in l i ≡ Some j → l.used ≤ places → j < places
found_below l i {j} e h = omega (arith, find-taken l i j e)
