-- The loop's invariant: those of the rank from the index on are left to put.
use Prim.Native.Nat.{◌+◌}
use mathlib.Core.Path.{◌≡◌}
use lib.ListN.{length, drop}
use Rattle.bytes_order.specs.Member.{keep}
use Rattle.ledger_state.specs.View.{book, store_of}
use Rattle.ledger_sorting.specs.PlaceLists.{PlaceList}
use Rattle.report_parts.specs.PlaceParts.{put_all}
use Rattle.report_parts.specs.Ranked.{ranked_at}
use Rattle.report_parts.proofs.list.put_rank.Given as goal

abbrev pub invariant-loop-k : goal.invariant-loop-k
invariant-loop-k l =
    let b = book l.replica in
    let s = store_of l.replica in
    let q = ranked_at b s l.n in
    PlaceList l.entries.items
    × (length l.entries.items + length (keep q (drop l.k-index l.order)) ≡ length l.initial.entries.items + length (keep q l.order))
    × (put_all b s l.initial.entries.items (keep q l.order) ≡ put_all b s l.entries.items (keep q (drop l.k-index l.order)))
