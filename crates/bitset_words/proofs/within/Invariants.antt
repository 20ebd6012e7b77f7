-- `within` meets its contract. The loop's invariant: the set is within n if what is left of it is within what is left of n.
use Rattle.std.proofs.Common.{◌≡◌, drop}
use Rattle.bitset.specs.Bits.{within}
use Rattle.bitset_words.specs.Run.{number}
use Rattle.bitset_words.proofs.within.Given as goal

abbrev pub invariant-loop-w : goal.invariant-loop-w
invariant-loop-w l = within (number (drop l.w-index l.s)) l.left ≡ within (number l.s) l.n
