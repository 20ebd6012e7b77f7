-- The loop's invariant: those of rank below n are put.
use mathlib.Core.Path.{◌≡◌}
use mathlib.Core.List.{[]}
use lib.ListN.{length}
use Rattle.ledger_state.specs.View.{book, store_of}
use Rattle.ledger_sorting.specs.PlaceLists.{Lists}
use Rattle.report_parts.specs.PlaceParts.{put_all, by_rank}
use Rattle.report_parts.proofs.list.entries.Given as goal

abbrev pub invariant-loop-n : goal.invariant-loop-n
invariant-loop-n l =
    let b = book l.replica in
    let s = store_of l.replica in
    (length l.all.items ≡ length (by_rank b s l.n)) × Lists l.all (put_all b s [] (by_rank b s l.n))
