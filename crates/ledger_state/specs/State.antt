-- Document 01, "Ledger and store": the bookkeeping, as laws and contracts see it, and the lent store. How a ledger keeps its bookkeeping is not said here: `View` makes
-- this of the declared struct.
use Rattle.std.specs.Prelude.{ℕ, ◌+◌, ◌*◌, List, Bool, cond, length, eqb, ltb}
use Rattle.std.specs.Prelude.{Option, None, Some}
use Rattle.bytes_order.specs.Order.{same}
use Rattle.update_format.specs.Update.{Id, Update, max_length}
use Rattle.update_format.specs.Decode.{slice, Decoded, decode}
use Rattle.bitset.specs.Below.{count_below, first_below}
use Rattle.rules.specs.declared.Standing.{Standing}
use Rattle.rules.specs.declared.Standing.TheVariants.{Waiting}
pub use Rattle.rules.specs.Terms.{places, Terms, document_terms}
-- a standing is held, waiting or void
unfoldable pub use Rattle.rules.specs.Settle.{is_held, is_waiting, is_void}

-- "Place k's update is written from byte 533 × k of the lent store": where the bytes of place k begin. Laws: `start-next`, `start-inside` (`Row1Laws`)
unfoldable pub start_of : Terms → ℕ → ℕ
start_of t k = max_length t.bounds * k

-- "the lent store, which has 34,112 bytes" (`store_bytes`, `Row1Laws`)
abbrev pub store_length_of : Terms → ℕ
store_length_of t = t.places * max_length t.bounds

-- one place: its update's id and length, the set of its ancestors' places as a number (bit k for place k), and how it stands
pub record Place : Type 0 where
  pub id : Id
  pub length : ℕ
  pub ancestors : ℕ
  pub standing : Standing

-- the bookkeeping: the terms of the ledger, how many places are taken, and what each place keeps
pub record Book : Type 0 where
  pub terms : Terms
  pub used : ℕ
  pub place : ℕ → Place

abbrev pub place_at : Book → ℕ → Place
place_at l k = l.place k

-- a row of values with another one at k
unfoldable pub replaced : {A : Type 0} → (ℕ → A) → ℕ → A → ℕ → A
replaced f k a j = cond (eqb j k) a (f j)

-- the bookkeeping with another place k
abbrev pub with_place : Book → ℕ → Place → Book
with_place l k p = record { terms = l.terms; used = l.used; place = replaced l.place k p }

-- the bookkeeping with its next place taken, by an update that waits
abbrev pub with_taken : Book → Id → ℕ → Book
with_taken l i n =
    record {
      terms = l.terms;
      used = l.used + 1;
      place = replaced l.place l.used (record { id = i; length = n; ancestors = 0; standing = Waiting });
    }

-- the bookkeeping with the place k settled: another standing and ancestor set
abbrev pub with_standing : Book → ℕ → Standing → ℕ → Book
with_standing l k v w =
    with_place l k (record { id = (place_at l k).id; length = (place_at l k).length; ancestors = w; standing = v })

-- the bytes of place k
abbrev pub stored_at : Book → List ℕ → ℕ → List ℕ
stored_at l s k = slice s (start_of l.terms k) (place_at l k).length

-- a place is free for the new update u: what `has_room` says of the updates stored (`room-stored`, `RoomLaws`), of any ledger and store; neither the store nor the update is looked at
unfoldable pub room_in : Book → List ℕ → Update → Bool
room_in l s u = ltb l.used l.terms.places

-- what the bytes of a place in the store decode to: of a place by value, with its number; and of the place k
abbrev pub decoded_in : Terms → List ℕ → Place → ℕ → Decoded
decoded_in t s p k = decode t.bounds (slice s (start_of t k) p.length)

abbrev pub decoded_at : Book → List ℕ → ℕ → Decoded
decoded_at l s k = decoded_in l.terms s (place_at l k) k

-- the first taken place with this id
unfoldable pub find_in : Book → Id → Option ℕ
find_in l i = first_below l.used (λ (k : ℕ). same (place_at l k).id i)

-- how many taken places have a standing
unfoldable pub standing_count : (Standing → Bool) → Book → ℕ
standing_count p l = count_below l.used (λ (k : ℕ). p (place_at l k).standing)
