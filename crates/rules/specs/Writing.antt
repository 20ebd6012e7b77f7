-- Document 01, "Writing": the predecessors that a new update names, and the update written.
use Rattle.std.specs.Prelude.{ℕ, List, [], ◌∷◌, ◌++◌, map, reverse, Bool, cond, not, ◌&&◌, length, take, leb, eqb}
use Rattle.bytes_order.specs.Member.{member, keep}
use Rattle.bytes_order.specs.Sort.{sort}
use Rattle.update_format.specs.Update.{Operation, Update}
use Rattle.rules.specs.Standing.{Rules}
use Rattle.rules.specs.CausalOrder.{same_or_before}
use Rattle.rules.specs.Settle.{Row, Table, order_in, held_row, heads, rank_key, ancestors_of, valid_op, settled_table}

-- the held updates of an author
unfoldable pub held_by : Table → ℕ → Table
held_by T a = keep (λ (r : Row). held_row r && eqb r.update.author a) T

-- "that author's held update of highest rank (on a tie, larger id)": the first of these, if there is one
unfoldable pub ranked : Table → Table
ranked rs = reverse (sort rank_key rs)

-- the head h is at or above the update of the row t: this is the same or before it
unfoldable pub at_or_above : Table → Row → Row → Bool
at_or_above T t h = same_or_before (order_in T t.id h.id)

-- "first .. the lowest head at or above" it: the first of the ascending heads that is
unfoldable pub first_heads : Table → Table → Table → Table
first_heads T hs [] = []
first_heads T hs (t ∷ ts) = take 1 (keep (at_or_above T t) hs)

-- "then the lowest others"
unfoldable pub others : Table → Table → Table
others hs first = keep (λ (h : Row). not (member h.id (map (λ (r : Row). r.id) first))) hs

-- "The new update names the heads. Above eight heads it names eight: first, if its author has held updates, the lowest head at or above that author's held
-- update of highest rank (on a tie, larger id), then the lowest others." In an update predecessors stand ascending. Eight is `most`, of the ledger's terms.
unfoldable pub chosen_from : ℕ → Table → Table → Table
chosen_from most hs first =
    cond (leb (length hs) most) hs (sort (λ (r : Row). r.id) (take most (first ++ others hs first)))

unfoldable pub chosen : ℕ → Table → ℕ → Table
chosen most T a = chosen_from most (heads T) (first_heads T (heads T) (ranked (held_by T a)))

unfoldable pub written_in : ℕ → Table → ℕ → Operation → Update
written_in most T a o = record { author = a; preds = map (λ (r : Row). r.id) (chosen most T a); op = o }

-- the operation would not be void under the predecessors named
unfoldable pub writable_in : ℕ → Table → ℕ → Operation → Bool
writable_in most T a o = valid_op T (ancestors_of T (written_in most T a o)) o

-- the update that an author writes with an operation, from a set alone
unfoldable pub written_of : Rules → ℕ → List Update → ℕ → Operation → Update
written_of rules most S a o = written_in most (settled_table rules S) a o

unfoldable pub writable_of : Rules → ℕ → List Update → ℕ → Operation → Bool
writable_of rules most S a o = writable_in most (settled_table rules S) a o
