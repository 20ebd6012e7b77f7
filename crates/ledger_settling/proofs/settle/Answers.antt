-- `settle` meets its contract: the newest place is judged, and then the worklist gone through.
use Rattle.ledger_state.specs.View.{book_of}
use Rattle.ledger_settling.specs.WorklistLaws.{first-judged}
use Rattle.ledger_settling.proofs.Judging.{unsettled_roomy}
use Rattle.ledger_settling.proofs.settle.Goals as goal

pub invariant_of-begun : goal.invariant_of-begun
invariant_of-begun c = record { roomy = unsettled_roomy _ _ c.new.ensures c.requires.used_within }

pub returns : goal.returns
returns c =
    c.settle.ensures.settles (book_of c.args.ledger)
    (first-judged (book_of c.args.ledger) c.args.store.now c.requires.newest c.requires.waiting (rw c.new.ensures at c.judged.ensures))
