-- The loop's invariant: the set has the authors that such evidence at the places below k marks.
use Prim.Native.Nat.{ℕ}
use mathlib.Core.Path.{◌≡◌}
use Rattle.bitset.specs.Below.{any_below}
use Rattle.bitset.specs.Bits.{has}
use Rattle.ledger_state.specs.View.{book, store_of}
use Rattle.report_parts.proofs.Marking.{against}
use Rattle.report_parts.proofs.marks.marked.Given as goal

abbrev pub invariant-loop-k : goal.invariant-loop-k
invariant-loop-k l = (a : ℕ) → has l.authors a ≡ any_below l.k (against (book l.replica) (store_of l.replica) l.evidence a)
