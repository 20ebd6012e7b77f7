-- The predecessors that a new update names, found by places, for every ledger. The theorem `chosen-ids` says that for a ledger that stands these are
-- the rules' choice.
use Rattle.std.specs.Prelude.{◌≡◌, ℕ, ◌-◌, ◌<◌, List, [], ◌∷◌, ◌++◌, Bool, cond, length, get_or, take, leb, ltb}
use Rattle.std.specs.Prelude.{Option, None, Some}
use Rattle.bytes_order.specs.Member.{keep}
use Rattle.rules.specs.CausalOrder.{same_or_before}
use Rattle.bitset.specs.Below.{first_below}
use Rattle.ledger_state.specs.State.{places, Book}
use Rattle.ledger_state.specs.PlaceOrder.{order_at}
use Rattle.ledger_relations.specs.PlaceTests.{head_at, id_order}
use Rattle.write_highest.specs.Top.{top_below}
use Rattle.ledger_sorting.specs.PlaceLists.{PlaceList}

module _ (l : Book) (s : List ℕ) where
  -- the heads, ascending by id
  unfoldable pub heads_of : List ℕ
  heads_of = keep (head_at l s) (id_order l s)

  -- the head at index j of the heads is at or above place t
  unfoldable pub above_at : ℕ → ℕ → Bool
  above_at t j = same_or_before (order_at l t (get_or heads_of j 0))

  -- as many as an update names of more heads, with the one at index j among them
  unfoldable pub most_with : Option ℕ → List ℕ
  most_with None = take l.terms.bounds.predecessors heads_of
  most_with (Some j) =
      cond (ltb j l.terms.bounds.predecessors) (take l.terms.bounds.predecessors heads_of) (take (l.terms.bounds.predecessors - 1) heads_of ++ (get_or heads_of j 0 ∷ []))

  unfoldable pub most_for : Option ℕ → List ℕ
  most_for None = take l.terms.bounds.predecessors heads_of
  most_for (Some t) = most_with (first_below (length heads_of) (above_at t))

  unfoldable pub chosen_places : ℕ → List ℕ
  chosen_places a = cond (leb (length heads_of) l.terms.bounds.predecessors) heads_of (most_for (top_below l s a l.used))

  -- they are the heads, and t is a place
  pub record HeadsFor (xs : List ℕ) (t : ℕ) : Type 0 where
    pub is_list : PlaceList xs
    pub are_heads : xs ≡ heads_of
    pub place_within : t < places

  -- and they are more than an update names
  pub record ManyHeads (xs : List ℕ) (t : ℕ) : Type 0 where
    pub heads-for : HeadsFor xs t
    pub over-most : l.terms.bounds.predecessors < length xs
