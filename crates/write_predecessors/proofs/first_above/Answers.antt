use Rattle.std.proofs.Common.{ℕ, rules, ◌∙◌}
use Rattle.std.proofs.lemmas.Iterator.{YieldsList-from_slice}
use Rattle.std.proofs.lemmas.Iterator.Search.{position_from_yields_List}
use Rattle.std.proofs.lemmas.Iterator.Adapters.{serves_from_places}
use Rattle.rules.specs.CausalOrder.{same_or_before}
use Rattle.ledger_state.specs.PlaceOrder.{order_at}
use Rattle.ledger_state.specs.View.{book, store_of}
use Rattle.write_predecessors.proofs.Choosing.{above-position, two_places}
use Rattle.write_predecessors.proofs.first_above.Goals as goal

pub position-requires-clause-callable : goal.position-requires-clause-callable
position-requires-clause-callable c =
    serves_from_places (YieldsList-from_slice c.args.heads.now c.iter.ensures.rest) (λ x q k. search rules)
    (λ x k h e. let two = two_places c.args.heads.now c.args.t x.now k c.requires.is_list c.requires.place_within h e in search rules)

pub returns : goal.returns
returns c =
    position_from_yields_List (λ (h : ℕ). same_or_before (order_at (book c.args.replica.now) c.args.t h)) _ _ c.position.result c.position.ensures.ran
    (YieldsList-from_slice c.args.heads.now c.iter.ensures.rest) (λ x b q k. search rules)
    ∙ above-position (book c.args.replica.now) (store_of c.args.replica.now) c.args.t c.args.heads.now c.requires.are_heads
