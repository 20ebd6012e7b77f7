-- What a ledger that is checked against row 1, with its store, yields.
use Rattle.std.specs.Prelude.{◌≡◌, ℕ, List, Bool, true, false}
use Rattle.ledger_state.specs.declared.Ledger.{Ledger}
use Rattle.ledger_state.specs.declared.replica.Replica.{Replica}
use Rattle.ledger_state.specs.State.{Book, place_at}
use Rattle.ledger_state.specs.View.{book_of}
use Rattle.ledger_state.specs.Row1.{sound, sound_place}
use Rattle.ledger_refusals.specs.declared.Refusal.{Refusal}
use Rattle.ledger_refusals.specs.declared.Refusal.TheVariants.{Unfit}

-- place k is sound
abbrev pub sound_at : Book → ℕ → Bool
sound_at l k = sound_place l.terms l.used (place_at l k)

-- row 1 does not apply, and the replica is this ledger with this store
pub record Fit (l : Ledger) (s : List ℕ) (r : Replica) : Type 0 where
  pub is_sound : sound (book_of l) s ≡ true
  pub same_ledger : r.ledger.now ≡ l
  pub same_store : r.store.now ≡ s

-- row 1 applies, and the call is refused by it
pub record NotFit (l : Ledger) (s : List ℕ) (e : Refusal) : Type 0 where
  pub not_sound : sound (book_of l) s ≡ false
  pub is_row1 : e ≡ Unfit
