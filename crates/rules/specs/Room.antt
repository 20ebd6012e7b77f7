-- "There are 64 places. Every distinct well-formed update takes the next one and keeps it": for which updates there is room. Row 10 of document 01's table is "well formed, id
-- unknown, 64 places taken". Of updates it is said here, of a ledger's places in `room_in` (ledger_state), and `room-stored` says that the two agree.
use Rattle.std.specs.Prelude.{◌≤◌, List, Bool, length, ltb}
use Rattle.update_format.specs.Update.{Update}
use Rattle.rules.specs.Terms.{Terms}

-- where the updates us are stored there is room for the new update u, which is not looked at: any has room while a place is free
unfoldable pub has_room : Terms → List Update → Update → Bool
has_room t us u = ltb (length us) t.places

-- there is room for all of these updates together
pub record RoomForAll (t : Terms) (us : List Update) : Type 0 where
  pub few : length us ≤ t.places
