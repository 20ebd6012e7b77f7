use Rattle.std.proofs.Common.{◌∙◌, sym, subst}
use Rattle.ledger_state.specs.View.{book, store_of}
use Rattle.ledger_relations.specs.PlaceTests.{head_at}
use Rattle.ledger_sorting.specs.PlaceLists.{PlaceList}
use Rattle.ledger_sorting.proofs.Sorting.{sorted-ids}
use Rattle.write_predecessors.proofs.Choosing.{none_kept, heads-listed, heads-end}
use Rattle.write_predecessors.proofs.heads.Goals as goal

pub loop-k-init : goal.loop-k-init
loop-k-init c = c.new-heads.ensures ∙ none_kept (head_at (book c.args.replica.now) (store_of c.args.replica.now)) c.as_slice-k-items.result.now

pub returns : goal.returns
returns c =
    let l = book c.args.replica.now in
    let s = store_of c.args.replica.now in
    let ks = c.as_slice-k-items.result.now in
    let listed = subst PlaceList (sym c.as_slice-k-items.ensures.value) c.sorted-order.ensures.is_list in
    let in_order = c.as_slice-k-items.ensures.value ∙ c.sorted-order.ensures.are ∙ sorted-ids l s in
    let are = c.loop-k.invariant ∙ heads-end l s ks c.loop-k.k-index c.loop-k-test.false in_order in
    record { is_list = subst PlaceList (sym are) (heads-listed l s c.args.replica.now.fits ks listed in_order); are = are }
