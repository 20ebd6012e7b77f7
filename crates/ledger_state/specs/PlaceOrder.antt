-- Document 02, E4, of places: how a place, with its number, stands to another, for any two places and any ancestor words.
use Rattle.std.specs.Prelude.{ℕ, eqb}
use Rattle.rules.specs.declared.CausalOrder.{CausalOrder}
use Rattle.rules.specs.CausalOrder.{order_by}
use Rattle.bitset.specs.Bits.{has}
use Rattle.ledger_state.specs.State.{Place, Book, place_at}

-- the place j, which is p, to the place k, which is q: by whether they are one, and by whether each is in the other's word
unfoldable pub place_order : Place → ℕ → Place → ℕ → CausalOrder
place_order p j q k = order_by (eqb j k) (has q.ancestors j) (has p.ancestors k)

-- two places of a ledger
abbrev pub order_at : Book → ℕ → ℕ → CausalOrder
order_at l j k = place_order (place_at l j) j (place_at l k) k
