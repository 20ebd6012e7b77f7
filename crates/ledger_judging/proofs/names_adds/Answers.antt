-- `names_adds` meets its contract: the walk over the ids of the run.
use Rattle.std.proofs.Common.{refl, ◌∙◌, arith, rules}
use Rattle.std.proofs.lemmas.Iterator.{YieldsList-from_range}
use Rattle.std.proofs.lemmas.Iterator.Search.{all_from_yields_List}
use Rattle.rules.specs.Settle.{is_add}
use Rattle.ledger_state.specs.View.{book, store_of}
use Rattle.ledger_judging.specs.Judge.{names_ancestor}
use Rattle.ledger_judging.proofs.Runs.{test_at, all_ids}
use Rattle.ledger_judging.proofs.names_adds.Goals as goal

pub returns : goal.returns
returns c =
    let p = names_ancestor (book c.args.replica.now) (store_of c.args.replica.now) (is_add c.args.tag.now) c.args.up in
    let n = c.args.count in
    all_from_yields_List (test_at c.args.b.now c.args.at p) _ _ _ c.all.ensures.ran (YieldsList-from_range 0 n n refl (omega arith)) (λ x b q k. search rules)
    ∙ all_ids c.args.b.now c.args.at p n
