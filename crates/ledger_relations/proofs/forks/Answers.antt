use mathlib.Core.Path.{sym, ap, ap₂, ◌∙◌}
use mathlib.Core.List.{List}
use Prim.Native.Nat.{ℕ}
use lib.Dec.{eqb}
use Rattle.update_format.specs.Update.{document_bounds}
use Rattle.update_format.specs.Decode.{decode}
use Rattle.rules.specs.CausalOrder.{is_apart}
use Rattle.update_fields.specs.Fields.{author_in}
use Rattle.ledger_relations.proofs.Testing.{second_true, second-false, eq-apart}
use Rattle.ledger_relations.proofs.forks.Goals as goal

pub returns-then-eq : goal.returns-then-eq
returns-then-eq c =
    let own = c.author_of.ensures.0 ∙ ap (λ (b : List ℕ). author_in (decode document_bounds b)) c.update.ensures in
    let other = c.author_of-then-eq.ensures.0 ∙ ap (λ (b : List ℕ). author_in (decode document_bounds b)) c.update-then-eq.ensures in
    second_true (sym (c.eq.ensures ∙ eq-apart _ ∙ ap is_apart c.order.ensures) ∙ c.if-eq.true) (ap₂ eqb own other)

pub returns-else-eq : goal.returns-else-eq
returns-else-eq c = c.if-eq.false ∙ second-false _ (sym (c.eq.ensures ∙ eq-apart _ ∙ ap is_apart c.order.ensures) ∙ c.if-eq.false)
