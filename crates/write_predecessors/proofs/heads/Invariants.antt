-- `heads` meets its contract. The loop's invariant: the list has the heads among the places so far.
use Rattle.std.proofs.Common.{◌≡◌, take}
use Rattle.bytes_order.specs.Member.{keep}
use Rattle.ledger_state.specs.View.{book, store_of}
use Rattle.ledger_relations.specs.PlaceTests.{head_at}
use Rattle.write_predecessors.proofs.heads.Given as goal

abbrev pub invariant-loop-k : goal.invariant-loop-k
invariant-loop-k l = l.heads.items ≡ keep (head_at (book l.replica) (store_of l.replica)) (take l.k-index l.k-items)
