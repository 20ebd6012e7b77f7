-- What a ledger and its store say of its places, for every ledger: their order; and of one its standing, its rank, whether it is a head, whether it is in a fork,
-- whether it is a fault, and whether the set or the list shows it.
use Rattle.std.specs.Prelude.{ℕ, List, Bool, not, ◌&&◌, eqb}
use Rattle.bytes_order.specs.Sort.{sort}
use Rattle.update_format.specs.Update.{Id}
use Rattle.rules.specs.CausalOrder.{is_before, is_apart}
use Rattle.rules.specs.Settle.{names, deletes}
use Rattle.bitset.specs.Below.{any_below, up_to}
use Rattle.bitset.specs.Bits.{count}
use Rattle.ledger_state.specs.State.{Book, place_at, decoded_at, is_held, is_waiting, is_void}
use Rattle.ledger_state.specs.PlaceOrder.{order_at}
use Rattle.update_fields.specs.Fields.{test_of, author_in, is_any_add}
use Rattle.ledger_judging.specs.Judge.{ready_at}

module _ (l : Book) (s : List ℕ) where
  abbrev pub id_at : ℕ → Id
  id_at k = (place_at l k).id

  unfoldable pub held_at : ℕ → Bool
  held_at k = is_held (place_at l k).standing

  unfoldable pub waiting_at : ℕ → Bool
  waiting_at k = is_waiting (place_at l k).standing

  unfoldable pub void_at : ℕ → Bool
  void_at k = is_void (place_at l k).standing

  unfoldable pub author_at : ℕ → ℕ
  author_at k = author_in (decoded_at l s k)

  unfoldable pub rank_at : ℕ → ℕ
  rank_at k = count (place_at l k).ancestors

  -- the taken places, ascending by id
  unfoldable pub id_order : List ℕ
  id_order = sort id_at (up_to l.used)

  -- heads: no held place is after it
  unfoldable pub covered_at : ℕ → Bool
  covered_at k = any_below l.used (λ (q : ℕ). held_at q && is_before (order_at l k q))

  unfoldable pub head_at : ℕ → Bool
  head_at k = held_at k && not (covered_at k)

  -- forks: q is a held place of r's author, and the two are apart
  unfoldable pub forked_with : ℕ → ℕ → Bool
  forked_with r q = held_at q && (eqb (author_at r) (author_at q) && is_apart (order_at l r q))

  unfoldable pub forked_at : ℕ → Bool
  forked_at r = held_at r && any_below l.used (forked_with r)

  -- faults: void while all its predecessors are held
  unfoldable pub fault_at : ℕ → Bool
  fault_at k = void_at k && ready_at l s k

  -- the set: an Add that no held Remove names
  unfoldable pub removed_at : Id → Bool
  removed_at i = any_below l.used (λ (q : ℕ). held_at q && test_of (names i) (decoded_at l s q))

  unfoldable pub present_at : ℕ → Bool
  present_at k = held_at k && (test_of is_any_add (decoded_at l s k) && not (removed_at (id_at k)))

  -- the list: an entry that no held Delete names
  unfoldable pub deleted_at : Id → Bool
  deleted_at i = any_below l.used (λ (q : ℕ). held_at q && test_of (deletes i) (decoded_at l s q))

  unfoldable pub shown_at : ℕ → Bool
  shown_at k = not (deleted_at (id_at k))
