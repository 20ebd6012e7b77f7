-- How a declared ledger is seen: the terms are document 01's, and each other field of the view is a field of the struct. Laws and contracts speak of the view; a change of how the bookkeeping is kept is a
-- change of this file, of `ViewLaws` and of the functions that read or store a place.
use Rattle.std.specs.Prelude.{ℕ, List, [], get_or, replicate}
use Rattle.update_format.specs.Update.{id_length}
use Rattle.ledger_state.specs.declared.Ledger.{Ledger}
use Rattle.ledger_state.specs.declared.Place.{Place as DeclaredPlace}
use Rattle.ledger_state.specs.declared.replica.Replica.{Replica}
use Rattle.rules.specs.declared.Standing.TheVariants.{Held}
use Rattle.ledger_state.specs.State.{places, Place, Book, document_terms}

abbrev pub place_of : DeclaredPlace → Place
place_of p = record { id = p.id; length = p.length; ancestors = p.ancestors; standing = p.standing }

-- what the language's logic reads past the end of the array
abbrev pub no_place : DeclaredPlace
no_place = record { id = []; length = 0; ancestors = 0; standing = Held }

abbrev pub book_of : Ledger → Book
book_of l = record { terms = document_terms; used = l.used; place = λ (k : ℕ). place_of (get_or l.places k no_place) }

-- a ledger with its store: the bookkeeping, and the bytes of the store
abbrev pub book : Replica → Book
book r = book_of r.ledger.now

abbrev pub store_of : Replica → List ℕ
store_of r = r.store.now

-- "a fresh ledger, no place taken"
unfoldable pub fresh_ledger : Ledger
fresh_ledger =
    record { used = 0; places = replicate places (record { id = replicate id_length 0; length = 0; ancestors = 0; standing = Held }) }
