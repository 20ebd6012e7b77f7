-- `gather` meets its contract. The loop's invariant: what all predecessors say is what those from the k-th on add to g.
use Rattle.std.proofs.Common.{◌≡◌, drop}
use Rattle.update_format.specs.Decode.{ids_at, first_predecessor}
use Rattle.ledger_state.specs.View.{book}
use Rattle.ledger_judging.specs.Judge.{nothing_gathered, gather}
use Rattle.ledger_judging.proofs.gather.Given as goal

abbrev pub invariant-loop-k : goal.invariant-loop-k
invariant-loop-k l =
    gather (book l.replica) nothing_gathered (ids_at l.b first_predecessor l.count)
    ≡ gather (book l.replica) l.g (drop l.k (ids_at l.b first_predecessor l.count))
