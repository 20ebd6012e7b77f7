-- `write_asked` meets its contract, by the judgement.
use Rattle.std.proofs.Common.{◌∙◌, rules}
use Rattle.ledger_state.specs.View.{book, store_of}
use Rattle.write_asking.proofs.WriteEnds.{Sized, Judged, cut-is, judged-by, ended-refused, ended-short, ended-written}
use Rattle.write_asking.proofs.write_asked.Goals as goal
use Rattle.write_asking.proofs.write_asked.Goals.{After-judge_bytes}

-- once the update is judged
sized : (c : After-judge_bytes) → Sized (book c.args.replica.now) (store_of c.args.replica.now) c.args.author c.args.draft.now
sized c = record { tag_sized = search rules; id_sized = search rules; preds_sized = c.compose-end.ensures.sized }

judged : (c : After-judge_bytes) → Judged (book c.args.replica.now) (store_of c.args.replica.now) c.args.author c.args.draft.now c.compose-end.result c.judge_bytes.result
judged c = judged-by _ _ _ _ c.requires (sized c) c.compose-end.ensures.prints c.compose-end.ensures.small c.judge_bytes.ensures

pub returns-then-out-end : goal.returns-then-out-end
returns-then-out-end c =
    ended-short _ _ _ _ (judged (goal.at.returns-then-out-end c).After-judge_bytes) _ _ c.in-Holds.is c.if-out-end.true

pub returns-else-out-end : goal.returns-else-out-end
returns-else-out-end c =
    ended-written _ _ _ _ (judged (goal.at.returns-else-out-end c).After-judge_bytes) _ _ c.in-Holds.is c.if-out-end.false
    (c.copy_from_slice.ensures.after ∙ cut-is _ c.compose-end.ensures.prints c.compose-end.ensures.small)

pub returns-in-Fails : goal.returns-in-Fails
returns-in-Fails c = ended-refused _ _ _ _ (judged (goal.at.returns-in-Fails c).After-judge_bytes) _ c.in-Fails.is
