-- `clear_below` meets its contract: the walk over the lower places.
use Rattle.std.proofs.Common.{refl, ◌∙◌, ℕ, not, ◌||◌, arith, rules}
use Rattle.std.proofs.lemmas.Iterator.{YieldsList-from_range}
use Rattle.std.proofs.lemmas.Iterator.Search.{all_from_yields_List}
use Rattle.rules.specs.CausalOrder.{before_or_after}
use Rattle.bitset.specs.Bits.{has}
use Rattle.ledger_state.specs.PlaceOrder.{order_at}
use Rattle.ledger_state.specs.View.{book}
use Rattle.ledger_state.proofs.RangeLaws.{all_range}
use Rattle.ledger_judging.specs.Antichain.{clear_below}
use Rattle.ledger_judging.proofs.clear_below.Goals as goal

pub returns : goal.returns
unfolding clear_below
returns c =
    let p = λ (q : ℕ). not (has c.args.set q) || not (before_or_after (order_at (book c.args.replica.now) q c.args.k)) in
    all_from_yields_List p _ _ _ c.all.ensures.ran (YieldsList-from_range 0 c.args.k c.args.k refl (omega arith)) (λ x b q k. search rules)
    ∙ all_range p c.args.k
