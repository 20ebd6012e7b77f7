use mathlib.Core.Path.{◌∙◌}
use Rattle.ledger_state.specs.View.{book, store_of}
use Rattle.ledger_relations.proofs.Testing.{fault-ready, fault-none}
use Rattle.ledger_relations.proofs.is_fault.Goals as goal

pub returns-then-has_standing : goal.returns-then-has_standing
returns-then-has_standing c =
    fault-ready (book c.args.replica.now) (store_of c.args.replica.now) c.args.k c.has_standing.ensures c.if-has_standing.true c.is_ready.ensures

pub returns-else-has_standing : goal.returns-else-has_standing
returns-else-has_standing c =
    c.if-has_standing.false ∙ fault-none (book c.args.replica.now) (store_of c.args.replica.now) c.args.k c.has_standing.ensures c.if-has_standing.false
