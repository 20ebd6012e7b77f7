use mathlib.Core.Path.{◌∙◌}
use Rattle.ledger_state.specs.State.{place_at}
use Rattle.ledger_state.specs.View.{book}
use Rattle.ledger_relations.proofs.Testing.{held-and, held-not}
use Rattle.ledger_relations.proofs.held_affects.Goals as goal

pub returns-then-has_standing : goal.returns-then-has_standing
returns-then-has_standing c =
    held-and (place_at (book c.args.replica.now) c.args.q) c.has_standing.ensures c.if-has_standing.true c.affects.ensures

pub returns-else-has_standing : goal.returns-else-has_standing
returns-else-has_standing c =
    c.if-has_standing.false ∙ held-not (place_at (book c.args.replica.now) c.args.q) c.has_standing.ensures _ c.if-has_standing.false
