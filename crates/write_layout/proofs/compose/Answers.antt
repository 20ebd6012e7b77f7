use Rattle.std.proofs.Common.{arith, rules, ◌∙◌, sym, ap, length, subst}
use Rattle.bytes_print.proofs.PrintedLaws.{both, same_text}
use Rattle.bytes_print.specs.Page.{Printed}
use Rattle.update_format.specs.Update.{encode}
use Rattle.ledger_sorting.specs.PlaceLists.{PlaceList}
use Rattle.ledger_state.specs.View.{book, store_of}
use Rattle.write_operations.specs.Drafted.{drafted}
use Rattle.write_layout.specs.Written.{written_at}
use Rattle.write_layout.proofs.Laying.{update-bytes, update-sized}
use Rattle.write_layout.proofs.compose.Goals as goal

pub put_ids-requires : goal.put_ids-requires
put_ids-requires c = record {
  is_list = subst PlaceList (sym c.as_slice.ensures.value) c.chosen-places.ensures.chosen.is_list;
  at_within = omega (arith, c.put.ensures.prints.past, c.new-page.ensures.at);
}

pub returns-clause-prints : goal.returns-clause-prints
returns-clause-prints c =
    let l = book c.args.replica.now in
    let s = store_of c.args.replica.now in
    let printed : Printed c.new-page.result (encode (written_at l s c.args.author (drafted c.args.draft.now))) c.print.new.page =
    same_text (update-bytes l s c.args.author (drafted c.args.draft.now) c.len.result c.as_slice.result.now
    (c.len.ensures.value ∙ ap length (sym c.as_slice.ensures.value)) (c.as_slice.ensures.value ∙ c.chosen-places.ensures.chosen.are))
    (both c.put.ensures (both c.put_ids.ensures.prints c.print.ensures.prints)) in
    search rules

pub returns-clause-sized : goal.returns-clause-sized
returns-clause-sized c =
    update-sized (book c.args.replica.now) (store_of c.args.replica.now) c.args.author (drafted c.args.draft.now) c.as_slice.result.now
    (c.as_slice.ensures.value ∙ c.chosen-places.ensures.chosen.are) c.put_ids.ensures.sized
