use mathlib.Core.Path.{◌≡◌, ap, ◌∙◌}
use mathlib.Core.Bool.{◌&&◌}
use mathlib.Core.List.{List}
use Prim.Native.Nat.{ℕ}
use Rattle.update_format.specs.Update.{document_bounds}
use Rattle.update_format.specs.Decode.{decode}
use Rattle.update_fields.specs.Fields.{test_of, is_any_add}
use Rattle.ledger_state.specs.State.{place_at, decoded_at, is_held}
use Rattle.ledger_state.specs.View.{book, store_of}
use Rattle.ledger_relations.proofs.Testing.{held-and, held-not, present-not, present-add}
use Rattle.ledger_relations.proofs.is_present.Goals.{then-has_standing, else-has_standing}
use Rattle.ledger_relations.proofs.is_present.Goals as goal

pub returns-then-is_add : goal.returns-then-is_add
returns-then-is_add c =
    let p = place_at (book c.args.replica.now) c.args.k in
    let v : c.if-has_standing.value ≡ (is_held p.standing && test_of is_any_add (decoded_at (book c.args.replica.now) (store_of c.args.replica.now) c.args.k)) =
    elim c.if-has_standing.branch [
      | then-has_standing w ↦ w.value-is ∙ held-and p c.has_standing.ensures w.if-has_standing.true (w.is_add.ensures ∙ ap (λ (b : List ℕ). test_of is_any_add (decode document_bounds b)) w.update.ensures)
      | else-has_standing w ↦ w.value-is ∙ w.if-has_standing.false ∙ held-not p c.has_standing.ensures _ w.if-has_standing.false
    ] in
    present-add (book c.args.replica.now) (store_of c.args.replica.now) c.args.k v c.if-is_add.true c.some_held.ensures

pub returns-else-is_add : goal.returns-else-is_add
returns-else-is_add c =
    let p = place_at (book c.args.replica.now) c.args.k in
    let v : c.if-has_standing.value ≡ (is_held p.standing && test_of is_any_add (decoded_at (book c.args.replica.now) (store_of c.args.replica.now) c.args.k)) =
    elim c.if-has_standing.branch [
      | then-has_standing w ↦ w.value-is ∙ held-and p c.has_standing.ensures w.if-has_standing.true (w.is_add.ensures ∙ ap (λ (b : List ℕ). test_of is_any_add (decode document_bounds b)) w.update.ensures)
      | else-has_standing w ↦ w.value-is ∙ w.if-has_standing.false ∙ held-not p c.has_standing.ensures _ w.if-has_standing.false
    ] in
    c.if-is_add.false ∙ present-not (book c.args.replica.now) (store_of c.args.replica.now) c.args.k v c.if-is_add.false
