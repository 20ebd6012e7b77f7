-- `walk` meets its contract: at each turn of the loop `Walking` holds.
use Prim.Native.Nat.{◌+◌, ◌-◌}
use lib.ListN.{length}
use Rattle.update_format.specs.Decode.{id_count}
use Rattle.lookup_merge.proofs.Walking.{Walking}
use Rattle.lookup_merge.proofs.walk.Given as goal

abbrev pub invariant-loop-i : goal.invariant-loop-i
invariant-loop-i l = Walking l.ids l.standings l.asked l.initial.out l.i l.j l.comparisons l.out

abbrev pub decreases-loop-i : goal.decreases-loop-i
decreases-loop-i l = (length l.standings - l.i) + (id_count l.asked - l.j)
