use mathlib.Core.Path.{ap, ◌∙◌}
use Rattle.rules.specs.CausalOrder.{is_before}
use Rattle.ledger_relations.proofs.Testing.{eq-before}
use Rattle.ledger_relations.proofs.covers.Goals as goal

pub returns : goal.returns
returns c = c.eq.ensures ∙ eq-before _ ∙ ap is_before c.order.ensures
