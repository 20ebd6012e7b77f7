-- `answer` meets its contract: the places in order of id, their ids laid out, and the merge.
use Rattle.std.proofs.Common.{sym, subst, ◌∙◌, ap, map}
use Rattle.ledger_state.specs.View.{book, store_of}
use Rattle.ledger_sorting.proofs.Sorting.{sorted-ids}
use Rattle.lookup_standings.specs.Lookup.{IdOrder, stored_id}
use Rattle.lookup_standings.specs.IdOrderLaws.{sorted-in-order}
use Rattle.lookup_standings.proofs.Laying.{merges-listed}
use Rattle.lookup_standings.proofs.answer.Goals as goal

pub returns : goal.returns
returns c =
    let l = book c.args.replica.now in
    let order = c.sorted-places.result.items in
    record {
      order = order;
      in_order = subst (IdOrder l) (sym (c.sorted-places.ensures.are ∙ sorted-ids l (store_of c.args.replica.now))) (sorted-in-order l (store_of c.args.replica.now));
      merges = merges-listed l order c.args.asked.now (c.gather.ensures.laid_out ∙ ap (map (stored_id l)) c.as_slice-listed.ensures.value) c.merge.ensures;
    }
