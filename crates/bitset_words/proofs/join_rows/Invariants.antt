-- `join_rows` meets its contract. The loop's invariant: the first i words are joined, the others are as they were.
use Rattle.std.proofs.Common.{◌≡◌}
use Rattle.std.proofs.Math.Seq.{paste}
use Rattle.bitset_words.proofs.Joining.{rows_joined}
use Rattle.bitset_words.proofs.join_rows.Given as goal

abbrev pub invariant-loop-i : goal.invariant-loop-i
invariant-loop-i l = l.s ≡ paste l.initial.s l.to (rows_joined l.initial.s l.to l.from l.n) l.i
