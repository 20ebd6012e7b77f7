-- The loop's invariant: the list has the listed places from k on.
use Prim.Native.Nat.{◌+◌, ◌≤◌}
use lib.ListN.{length}
use Rattle.ledger_state.specs.View.{book, store_of}
use Rattle.ledger_sorting.specs.PlaceLists.{Lists, key_of, candidate}
use Rattle.ledger_sorting.proofs.Sorting.{from}
use Rattle.ledger_sorting.proofs.sorted.sorted.Given as goal

abbrev pub invariant-loop-k : goal.invariant-loop-k
invariant-loop-k l =
    let b = book l.replica in
    let s = store_of l.replica in
    (length l.places.items + l.k ≤ b.used) × Lists l.places (from (key_of b s l.key) (candidate b s l.key) b.used l.k)
