-- The loop's invariant: the place goes among those from the i-th on.
use mathlib.Core.Path.{◌≡◌}
use mathlib.Core.List.{◌++◌}
use lib.ListN.{take, drop}
use Rattle.bytes_order.specs.Sort.{insert}
use Rattle.ledger_state.specs.View.{book, store_of}
use Rattle.ledger_sorting.specs.PlaceLists.{key_of}
use Rattle.ledger_sorting.proofs.sorted.index_for.Given as goal

abbrev pub invariant-loop-i : goal.invariant-loop-i
invariant-loop-i l =
    let key = key_of (book l.replica) (store_of l.replica) l.key in
    insert key l.j l.places ≡ take l.i l.places ++ insert key l.j (drop l.i l.places)
