-- The antichain rule by places, for every ledger: no place of a set is before or after another. Each is asked about the lower ones, so each pair once.
use Rattle.std.specs.Prelude.{ℕ, zero, suc, ◌+◌, Bool, cond, not, ◌||◌}
use Rattle.rules.specs.CausalOrder.{before_or_after}
use Rattle.bitset.specs.Below.{all_below, count_below}
use Rattle.bitset.specs.Bits.{has}
use Rattle.ledger_state.specs.State.{Book}
use Rattle.ledger_state.specs.PlaceOrder.{order_at}

-- no place of the set w below k is before or after it
unfoldable pub clear_below : Book → ℕ → ℕ → Bool
clear_below l w k = all_below k (λ (q : ℕ). not (has w q) || not (before_or_after (order_at l q k)))

-- no place of the set is before or after another
unfoldable pub antichain_at : Book → ℕ → Bool
antichain_at l w = all_below l.used (λ (k : ℕ). not (has w k) || clear_below l w k)

-- how many pairs the test asks about at most, of the places below n: with each place of the set the lower ones of the set
unfoldable pub pairs_below : ℕ → ℕ → ℕ
pairs_below w zero = 0
pairs_below w (suc n) = pairs_below w n + cond (has w n) (count_below n (has w)) 0
