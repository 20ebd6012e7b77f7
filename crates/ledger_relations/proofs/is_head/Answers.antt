use mathlib.Core.Path.{ap, ◌∙◌}
use mathlib.Core.Bool.{not}
use Rattle.ledger_state.specs.State.{place_at}
use Rattle.ledger_state.specs.View.{book}
use Rattle.ledger_relations.specs.PlaceTests.{head_at, covered_at, held_at}
use Rattle.ledger_relations.specs.Effects.{some_held}
use Rattle.ledger_relations.proofs.Testing.{held-and, held-not}
use Rattle.ledger_relations.proofs.is_head.Goals as goal

pub returns-then-has_standing : goal.returns-then-has_standing
unfolding head_at covered_at held_at some_held
returns-then-has_standing c =
    held-and (place_at (book c.args.replica.now) c.args.k) c.has_standing.ensures c.if-has_standing.true (ap not c.some_held.ensures)

pub returns-else-has_standing : goal.returns-else-has_standing
unfolding head_at held_at
returns-else-has_standing c =
    c.if-has_standing.false ∙ held-not (place_at (book c.args.replica.now) c.args.k) c.has_standing.ensures _ c.if-has_standing.false
