-- What owning a ledger tells: it has 64 places, and each place's id has 32 bytes.
use Rattle.std.proofs.Common.{◌≡◌, ℕ, zero, suc, ◌<◌, List, [], ◌∷◌, length, get_or, arith}
use denote.Array.{each}
use denote.Laws.{Is}
use denote.Shadow.{shadow}
use mir.Val.{Val}
use Rattle.update_format.specs.Update.{id_length}
use Rattle.ledger_state.specs.State.{places, place_at}
use Rattle.ledger_state.specs.View.{no_place, book_of}
use Rattle.ledger_state.specs.declared.Ledger.{Ledger}
use Rattle.ledger_state.specs.declared.Place.{Place}
use Rattle.ledger_state.specs.contracts.Ledger.{the_row}
use Rattle.ledger_state.specs.contracts.Place as place

id-of-each : (ps : List Place) (us : List Val) → shadow (each place.the_row.Denot place.the_row.own_val ps us)
    → (k : ℕ) → k < length ps → length (get_or ps k no_place).id ≡ id_length
id-of-each [] us o k h = absurd (omega arith)
id-of-each (p ∷ ps) [] o k h = absurd o
id-of-each (p ∷ ps) (u ∷ us) o zero h = o.0.1.1.0.1.0.1
id-of-each (p ∷ ps) (u ∷ us) o (suc k) h = id-of-each ps us o.1 k (omega arith)

module _ (l : Ledger) (vs : List Val) (o : Is the_row l vs) where
  pub places-length : length l.places ≡ places
  places-length = o.1.1.1.0.1.0.1

  pub id-length : (k : ℕ) → k < places → length (place_at (book_of l) k).id ≡ id_length
  id-length k h = id-of-each l.places _ o.1.1.1.0.1.1 k (omega (arith, places-length))
