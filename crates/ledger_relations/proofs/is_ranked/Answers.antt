use mathlib.Core.Path.{◌≡◌, ap, ◌∙◌}
use mathlib.Core.Bool.{◌&&◌}
use mathlib.Core.List.{List}
use lib.Dec.{eqb}
use Prim.Native.Nat.{ℕ}
use Rattle.bitset.specs.Bits.{count}
use Rattle.update_format.specs.Update.{document_bounds}
use Rattle.update_format.specs.Decode.{decode}
use Rattle.rules.specs.Settle.{is_insert}
use Rattle.rules.specs.declared.Standing.TheVariants.{Held}
use Rattle.update_fields.specs.Fields.{test_of}
use Rattle.ledger_state.specs.State.{is_held, document_terms}
use Rattle.ledger_state.specs.View.{place_of}
use Rattle.ledger_state.proofs.NumberLaws.{eq_standing}
use Rattle.ledger_relations.proofs.Testing.{held-and, held-not, ranked-insert, ranked-not}
use Rattle.ledger_relations.proofs.is_ranked.Goals.{then-eq, else-eq}
use Rattle.ledger_relations.proofs.is_ranked.Goals as goal

pub returns-then-count-n : goal.returns-then-count-n
returns-then-count-n c =
    let p = place_of c.args.p in
    let h = c.eq.ensures ∙ eq_standing Held p.standing in
    let v : c.if-eq.value ≡ (is_held p.standing && eqb (count p.ancestors) c.args.n) =
    elim c.if-eq.branch [
      | then-eq w ↦ w.value-is ∙ held-and p h w.if-eq.true (ap (λ (m : ℕ). eqb m c.args.n) w.count.ensures)
      | else-eq w ↦ w.value-is ∙ w.if-eq.false ∙ held-not p h _ w.if-eq.false
    ] in
    ranked-insert document_terms c.args.store.now p c.args.k c.args.n v c.if-count-n.true (c.is_insert.ensures ∙ ap (λ (b : List ℕ). test_of is_insert (decode document_bounds b)) c.stored.ensures)

pub returns-else-count-n : goal.returns-else-count-n
returns-else-count-n c =
    let p = place_of c.args.p in
    let h = c.eq.ensures ∙ eq_standing Held p.standing in
    let v : c.if-eq.value ≡ (is_held p.standing && eqb (count p.ancestors) c.args.n) =
    elim c.if-eq.branch [
      | then-eq w ↦ w.value-is ∙ held-and p h w.if-eq.true (ap (λ (m : ℕ). eqb m c.args.n) w.count.ensures)
      | else-eq w ↦ w.value-is ∙ w.if-eq.false ∙ held-not p h _ w.if-eq.false
    ] in
    c.if-count-n.false ∙ ranked-not document_terms c.args.store.now p c.args.k c.args.n v c.if-count-n.false
