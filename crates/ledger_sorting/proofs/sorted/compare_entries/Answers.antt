use mathlib.Core.Path.{ap, ap₂, ◌∙◌}
use borrow.Author.Rules.{rules}
use Rattle.std.specs.Ordering.{nat_cmp}
use Rattle.bytes_order.specs.Compare.{order_of, then_by}
use Rattle.bytes_order.specs.CompareLaws.{cmp_is_order}
use Rattle.update_format.specs.Update.{document_bounds}
use Rattle.update_format.specs.Decode.{decode}
use Rattle.update_fields.specs.Fields.{author_in}
use Rattle.ledger_sorting.proofs.Keys.{chained, set-entries-order, order-one}
use Rattle.ledger_sorting.proofs.sorted.compare_entries.Goals as goal

pub returns : goal.returns
returns c =
    let a = author_in (decode document_bounds c.args.own.now) in
    let b = author_in (decode document_bounds c.args.other.now) in
    chained c.cmp.result c.then_with.result {p = nat_cmp a b} c.then_with.ensures (λ p. search rules)
    ∙ ap (then_by c.cmp.result) (order-one a b)
    ∙ set-entries-order document_bounds c.args.own.now c.args.other.now c.requires.own_adds c.requires.other_adds
    (c.cmp.ensures ∙ cmp_is_order c.tag_of.result.now c.tag_of-2.result.now ∙ ap₂ order_of c.tag_of.ensures.0 c.tag_of-2.ensures.0)
