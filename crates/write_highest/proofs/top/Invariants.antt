-- `top` meets its contract. The loop's invariant: the author's highest below k.
use Rattle.std.proofs.Common.{◌≡◌}
use Rattle.ledger_state.specs.View.{book, store_of}
use Rattle.write_highest.specs.Top.{top_below}
use Rattle.write_highest.proofs.top.Given as goal

abbrev pub invariant-loop-k : goal.invariant-loop-k
invariant-loop-k l = l.highest ≡ top_below (book l.replica) (store_of l.replica) l.author l.k
