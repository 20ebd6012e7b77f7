-- What the methods of a ledger promise, for every ledger and all arguments: a place that there is gets its new bookkeeping, and where there is none, the ledger comes
-- back as it was.
use Rattle.std.specs.Prelude.{◌≡◌, ℕ, ◌≤◌, ◌<◌}
use Rattle.update_format.specs.Update.{Id}
use Rattle.ledger_state.specs.declared.Ledger.{Ledger}
use Rattle.rules.specs.declared.Standing.{Standing}
use Rattle.ledger_state.specs.State.{places, with_taken, with_standing}
use Rattle.ledger_state.specs.View.{book_of}

-- the next place is taken, where one is free
pub record TakesPlace (l : Ledger) (i : Id) (n : ℕ) (r : Ledger) : Type 0 where
  pub free : (book_of l).used < places → book_of r ≡ with_taken (book_of l) i n
  pub none_free : places ≤ (book_of l).used → r ≡ l

-- the place k is settled, where there is one
pub record ChangesStanding (l : Ledger) (k : ℕ) (v : Standing) (w : ℕ) (r : Ledger) : Type 0 where
  pub inside : k < places → book_of r ≡ with_standing (book_of l) k v w
  pub outside : places ≤ k → r ≡ l
