-- The invariant: a ledger and a store stand for a list of updates, in the order of their places.
use Rattle.std.specs.Prelude.{◌≡◌, ℕ, ◌<◌, List, [], true, length, get_or}
use Rattle.sha256_fips180.specs.Fips180.{SHA-256}
use Rattle.bytes_order.specs.Member.{◌∈◌}
use Rattle.bytes_order.specs.Distinct.{Distinct}
use Rattle.update_format.specs.Update.{Id, Add, Update, encode, Bounded}
use Rattle.rules.specs.Terms.{allowed}
use Rattle.rules.specs.Room.{RoomForAll}
use Rattle.rules.specs.Standing.{Rules, Ancestor, Held, Void, Waiting}
use Rattle.bitset.specs.Bits.{has, within}
use Rattle.rules.specs.declared.Standing.TheVariants.{Held as IsHeld, Waiting as IsWaiting, Void as IsVoid}
use Rattle.ledger_state.specs.State.{store_length_of, Book, place_at, stored_at}

-- "An update's id is its SHA-256."
unfoldable pub ident : Update → Id
ident u = SHA-256 (encode u)

-- what the rules take, as document 01 has it
abbrev pub rules : Rules
rules = record { ident = ident }

-- what stands at no index
abbrev pub no_update : Update
no_update = record { author = 0; preds = []; op = Add [] }

abbrev pub update_at : List Update → ℕ → Update
update_at us k = get_or us k no_update

-- the places hold exactly the updates `us`, in place order, each with its id, its length and its bytes
pub record Holds (l : Book) (s : List ℕ) (us : List Update) : Type 0 where
  pub terms_allowed : allowed l.terms ≡ true
  pub store_whole : length s ≡ store_length_of l.terms
  pub room : RoomForAll l.terms us
  pub number : l.used ≡ length us
  pub bounded : (u : Update) → u ∈ us → Bounded l.terms.bounds u
  pub distinct : Distinct ident us
  pub ids : (k : ℕ) → k < length us → (place_at l k).id ≡ ident (update_at us k)
  pub lengths : (k : ℕ) → k < length us → (place_at l k).length ≡ length (encode (update_at us k))
  pub bytes : (k : ℕ) → k < length us → stored_at l s k ≡ encode (update_at us k)
  pub inside : (k : ℕ) → k < length us → within (place_at l k).ancestors (length us) ≡ true

-- what a place says of its update is so: a held one is held, and its ancestor word has exactly the places of its ancestors; a void one is void; and one that is not held
-- has no ancestors recorded
pub record Truthful (l : Book) (us : List Update) : Type 0 where
  pub held_right : (k : ℕ) → k < length us → (place_at l k).standing ≡ IsHeld → Held rules us (update_at us k)
  pub void_right : (k : ℕ) → k < length us → (place_at l k).standing ≡ IsVoid → Void rules us (update_at us k)
  pub above_right : (k j : ℕ) → k < length us → j < length us → (place_at l k).standing ≡ IsHeld
      → has (place_at l k).ancestors j ≡ true → Ancestor rules us (update_at us j) (update_at us k)
  pub above_all : (k j : ℕ) → k < length us → j < length us → (place_at l k).standing ≡ IsHeld
      → Ancestor rules us (update_at us j) (update_at us k) → has (place_at l k).ancestors j ≡ true
  pub none_above : (k : ℕ) → k < length us → ((place_at l k).standing ≡ IsHeld → ⊥) → (place_at l k).ancestors ≡ 0

-- nothing is left to settle: a place that waits holds an update that waits
pub record Settled (l : Book) (us : List Update) : Type 0 where
  pub waiting_right : (k : ℕ) → k < length us → (place_at l k).standing ≡ IsWaiting → Waiting rules us (update_at us k)

pub record Stands (l : Book) (s : List ℕ) (us : List Update) : Type 0 where
  pub holds : Holds l s us
  pub truthful : Truthful l us
  pub settled : Settled l us
