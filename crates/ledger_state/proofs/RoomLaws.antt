-- Room for an update by the places of a ledger: a place is free exactly where not all are taken, and of a ledger that holds updates it is what the rules say of them.
use Rattle.std.specs.Prelude.{ℕ, ◌≤◌, ◌<◌, ◌≡◌, List, true, false}
use Rattle.std.proofs.Math.Path.{ap}
use Rattle.std.proofs.Math.Dec.{ltb}
use borrow.Author.Tests.{lt-ltb, le-ltb, ltb-true}
use Rattle.update_format.specs.Update.{Update}
use Rattle.rules.specs.Room.{has_room}
use Rattle.ledger_state.specs.State.{Book, room_in}
use Rattle.ledger_state.specs.Stands.{Holds}

module _ (l : Book) (s : List ℕ) (u : Update) where
  pub room→ : room_in l s u ≡ true → l.used < l.terms.places
  unfolding room_in
  room→ e = ltb-true l.used l.terms.places e

  pub →room : l.used < l.terms.places → room_in l s u ≡ true
  unfolding room_in
  →room h = lt-ltb l.used l.terms.places h

  pub →no-room : l.terms.places ≤ l.used → room_in l s u ≡ false
  unfolding room_in
  →no-room h = le-ltb l.used l.terms.places h

  pub room-stored : (us : List Update) → Holds l s us → room_in l s u ≡ has_room l.terms us u
  unfolding room_in has_room
  room-stored us h = ap (λ (n : ℕ). ltb n l.terms.places) h.number
