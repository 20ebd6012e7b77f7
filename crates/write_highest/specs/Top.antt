-- An author's held place of highest rank, on a tie that of larger id, for every ledger. The theorem `top_right` says that for a ledger that stands it is
-- that of the rules' first ranked row.
use Rattle.std.specs.Prelude.{◌≡◌, ℕ, zero, suc, ◌<◌, List, Bool, true, cond, ◌&&◌, ◌||◌, ltb, eqb}
use Rattle.std.specs.Prelude.{Option, None, Some}
use Rattle.bytes_order.specs.Order.{before}
use Rattle.ledger_state.specs.State.{Book}
use Rattle.ledger_relations.specs.PlaceTests.{id_at, held_at, author_at, rank_at}

module _ (l : Book) (s : List ℕ) where
  -- the held place k is the author's
  unfoldable pub own_at : ℕ → ℕ → Bool
  own_at a k = held_at l s k && eqb (author_at l s k) a

  -- place k is of higher rank than place j, or of the same and of larger id
  unfoldable pub higher : ℕ → ℕ → Bool
  higher k j =
      ltb (rank_at l s j) (rank_at l s k) || (eqb (rank_at l s j) (rank_at l s k) && before (id_at l s j) (id_at l s k))

  unfoldable pub better_than : Option ℕ → ℕ → Bool
  better_than None k = true
  better_than (Some j) k = higher k j

  -- the author's held place of highest rank (on a tie, larger id) below n
  unfoldable pub top_below : ℕ → ℕ → Option ℕ
  top_below a zero = None
  top_below a (suc n) = cond (own_at a n && better_than (top_below a n) n) (Some n) (top_below a n)

  -- k is a taken place, and t the author's highest below it
  pub record TopSoFar (a k : ℕ) (t : Option ℕ) : Type 0 where
    pub place-taken : k < l.used
    pub top_right : t ≡ (top_below a k)
