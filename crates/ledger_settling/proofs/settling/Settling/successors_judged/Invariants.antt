-- `successors_judged` meets its contract. The loop's invariant: the places below k were looked at.
use Rattle.ledger_settling.proofs.Loops.{SuccessorsLoop}
use Rattle.ledger_settling.proofs.settling.Settling.successors_judged.Given as goal

abbrev pub invariant-loop-k : goal.invariant-loop-k
invariant-loop-k l = SuccessorsLoop l.store l.i l.fn.self l.n l.k l.current
