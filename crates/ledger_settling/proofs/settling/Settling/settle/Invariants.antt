-- `settle` meets its contract. The loop's invariant: of the first i places of the worklist the successors were judged.
use Rattle.std.proofs.Common.{◌-◌}
use Rattle.ledger_state.specs.State.{places}
use Rattle.ledger_settling.proofs.Loops.{WorklistLoop}
use Rattle.ledger_settling.proofs.settling.Settling.settle.Given as goal

abbrev pub invariant-loop-i : goal.invariant-loop-i
invariant-loop-i l = WorklistLoop l.store l.initial.self l.i l.self

abbrev pub decreases-loop-i : goal.decreases-loop-i
decreases-loop-i l = places - l.i
