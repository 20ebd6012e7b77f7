-- `join` meets its contract. The loop's invariant: the first i words are joined, the others are as they were.
use Rattle.std.proofs.Common.{◌≡◌}
use Rattle.bitset_words.proofs.Joining.{joined_to}
use Rattle.bitset_words.proofs.join.Given as goal

abbrev pub invariant-loop-i : goal.invariant-loop-i
invariant-loop-i l = l.s ≡ joined_to l.initial.s l.t l.i
