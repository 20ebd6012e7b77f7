-- `find` meets its contract: the walk over the taken places.
use Rattle.std.proofs.Common.{refl, sym, ◌∙◌, ℕ, arith, rules}
use Rattle.std.proofs.lemmas.Iterator.{YieldsList-from_range}
use Rattle.std.proofs.lemmas.Iterator.Search.{find_from_yields_List}
use Rattle.bytes_order.specs.Order.{same}
use Rattle.ledger_state.specs.State.{place_at, find_in}
use Rattle.ledger_state.specs.View.{book}
use Rattle.ledger_state.proofs.RangeLaws.{find_range, option-same}
use Rattle.ledger_state.proofs.replica.Replica.find.Goals as goal

pub returns : goal.returns
unfolding find_in
returns c =
    let l = book c.args.self.now in
    let p = λ (k : ℕ). same (place_at l k).id c.args.id.now in
    sym (option-same c.find.result)
    ∙ find_from_yields_List p _ _ _ c.find.ensures.ran (YieldsList-from_range 0 l.used l.used refl (omega arith)) (λ x b q k. search rules)
    ∙ find_range p l.used
