-- What the entry `offer` promises, for every ledger, store and offered bytes.
use Rattle.std.specs.Prelude.{◌≡◌, ℕ, ◌+◌, ◌-◌, ◌<◌, List, [], ◌∷◌, ◌++◌, true, false, length}
use Rattle.std.specs.Prelude.{None, Some, Result}
use Rattle.sha256_fips180.specs.Fips180.{SHA-256}
use Rattle.update_format.specs.Update.{Id, Update}
use Rattle.update_format.specs.Decode.{refused, update, decode}
use Rattle.ledger_state.specs.declared.Ledger.{Ledger}
use Rattle.rules.specs.declared.Standing.TheVariants.{Waiting}
use Rattle.bytes_copy.specs.Overwritten.{overwritten}
use Rattle.ledger_state.specs.State.{start_of, room_in, Book, place_at, find_in, is_held, is_void, standing_count}
use Rattle.ledger_state.specs.View.{book_of}
use Rattle.ledger_state.specs.Row1.{sound}
use Rattle.ledger_state.specs.Stands.{Stands}
use Rattle.ledger_refusals.specs.Numbers.{row1_number, row10_number}
use Rattle.ledger_refusals.specs.declared.Refusal.{Refusal}
use Rattle.ledger_offering.specs.declared.Answer.{Answer}
use Rattle.ledger_offering.specs.declared.Offered.{Offered}
use Rattle.ledger_offering.specs.Values.{OfferValues, taken_as, known_as, refused_as, offer_values}

-- an answer that leaves the ledger as it was
abbrev pub left : Ledger → Result Answer Refusal → Offered
left l a = record { answer = a; ledger = l }

-- What holds of the bookkeeping r and the store s' after the update u, with bytes b, took the next place of l. What the rules leave free, for a ledger or a
-- store that is not the library's own, is which waiting places are settled, and how.
pub record Took (l : Book) (s b : List ℕ) (u : Update) (r : Book) (s' : List ℕ) : Type 0 where
  -- the terms are as they were
  pub terms_kept : r.terms ≡ l.terms
  -- "Every distinct well-formed update takes the next one and keeps it"
  pub used_next : r.used ≡ l.used + 1
  pub new_id : (place_at r l.used).id ≡ SHA-256 b
  pub new_length : (place_at r l.used).length ≡ length b
  pub old_id : (k : ℕ) → k < l.used → (place_at r k).id ≡ (place_at l k).id
  pub old_length : (k : ℕ) → k < l.used → (place_at r k).length ≡ (place_at l k).length
  -- a place that was settled stays as it was, and so does one that is not taken
  pub old_settled : (k : ℕ) → k < l.used → ((place_at l k).standing ≡ Waiting → ⊥) → place_at r k ≡ place_at l k
  pub untaken : (k : ℕ) → l.used < k → place_at r k ≡ place_at l k
  -- row 1 does not come up by an offer
  pub still_sound : sound r s' ≡ true
  -- "Every offer settles all stored updates."
  pub settles : (us : List Update) → Stands l s us → Stands r s' (us ++ (u ∷ []))

-- the offered bytes are a well-formed update, and row 1 does not apply
pub record Formed (l : Book) (s b : List ℕ) : Type 0 where
  pub is_sound : sound l s ≡ true
  pub value : Update
  pub decodes : decode l.terms.bounds b ≡ update value

-- the update is well formed, its id is new, and there is room for it
pub record Takeable (l : Book) (s b : List ℕ) (i : Id) : Type 0 where
  pub formed : Formed l s b
  pub id_right : i ≡ SHA-256 b
  pub id_new : find_in l i ≡ None
  pub room : room_in l s formed.value ≡ true

-- What an offer of the bytes b to the ledger l and the store s yields: document 01's values of the answer, and the ledger and the store as they are left. A
-- constructor for each row of the table, in its order, and for the two accepted answers.
pub data OfferRow (l : Ledger) (s b : List ℕ) : OfferValues → Ledger → List ℕ → Type 0 where
  -- row 1
  unfit : sound (book_of l) s ≡ false → OfferRow l s b (refused_as row1_number) l s
  -- rows 2 to 9
  malformed : (n : ℕ) → sound (book_of l) s ≡ true → decode (book_of l).terms.bounds b ≡ refused n → OfferRow l s b (refused_as n) l s
  -- "a known id gets its standing before 10"; "a known update changes nothing"
  known : (u : Update) (k : ℕ) → sound (book_of l) s ≡ true → decode (book_of l).terms.bounds b ≡ update u → find_in (book_of l) (SHA-256 b) ≡ Some k
      → OfferRow l s b (known_as (place_at (book_of l) k).standing) l s
  -- row 10
  full : (u : Update) → sound (book_of l) s ≡ true → decode (book_of l).terms.bounds b ≡ update u → find_in (book_of l) (SHA-256 b) ≡ None → room_in (book_of l) s u ≡ false
      → OfferRow l s b (refused_as row10_number) l s
  -- "the update's own standing, as the rules give it once the offer has settled, with the two counts": "held after less held before, and void after less
  -- void before"
  taken : (u : Update) (r : Ledger) → sound (book_of l) s ≡ true → decode (book_of l).terms.bounds b ≡ update u → find_in (book_of l) (SHA-256 b) ≡ None → room_in (book_of l) s u ≡ true
      → Took (book_of l) s b u (book_of r) (overwritten s (start_of (book_of l).terms (book_of l).used) b)
      → OfferRow l s b
      (taken_as (place_at (book_of r) (book_of l).used).standing (standing_count is_held (book_of r) - standing_count is_held (book_of l))
      (standing_count is_void (book_of r) - standing_count is_void (book_of l)))
      r
      (overwritten s (start_of (book_of l).terms (book_of l).used) b)

-- the promise of `offer`
abbrev pub Offering : Ledger → List ℕ → List ℕ → Offered → List ℕ → Type 0
Offering l s b r s' = OfferRow l s b (offer_values r.answer) r.ledger s'
