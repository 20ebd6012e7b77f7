-- `antichain` meets its contract: the walk over the taken places.
use Rattle.std.proofs.Common.{refl, ◌∙◌, ℕ, not, ◌||◌, arith, rules}
use Rattle.std.proofs.lemmas.Iterator.{YieldsList-from_range}
use Rattle.std.proofs.lemmas.Iterator.Search.{all_from_yields_List}
use Rattle.bitset.specs.Bits.{has}
use Rattle.ledger_state.specs.View.{book}
use Rattle.ledger_state.proofs.RangeLaws.{all_range}
use Rattle.ledger_judging.specs.Antichain.{clear_below, antichain_at}
use Rattle.ledger_judging.proofs.antichain.Goals as goal

pub returns : goal.returns
unfolding antichain_at
returns c =
    let l = book c.args.replica.now in
    let p = λ (k : ℕ). not (has c.args.set k) || clear_below l c.args.set k in
    all_from_yields_List p _ _ _ c.all.ensures.ran (YieldsList-from_range 0 l.used l.used refl (omega arith)) (λ x b q k. search rules)
    ∙ all_range p l.used
