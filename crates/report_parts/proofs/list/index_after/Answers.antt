use Prim.Native.Nat.{ℕ, ◌<◌}
use mathlib.Core.List.{List, []}
use mathlib.Core.Path.{sym, subst, ◌∙◌}
use borrow.Author.Rules.{rules}
use Rattle.std.proofs.lemmas.Grind.{get_or_default_zero}
use Rattle.std.proofs.lemmas.Iterator.{YieldsList-from_slice}
use Rattle.std.proofs.lemmas.Iterator.Adapters.{serves_from_places}
use Rattle.std.proofs.lemmas.Iterator.Search.{position_from_yields_List}
use Rattle.ledger_state.specs.State.{places}
use Rattle.ledger_state.specs.View.{book}
use Rattle.report_parts.proofs.Following.{has_id, after-position}
use Rattle.report_parts.proofs.list.index_after.Goals as goal

pub position-requires-clause-callable : goal.position-requires-clause-callable
position-requires-clause-callable c =
    serves_from_places (YieldsList-from_slice c.args.entries.now cc) (λ x q h. search rules)
    (λ x k h e.
    let small : x.now < places = subst (λ (n : ℕ). n < places) (sym (e ∙ get_or_default_zero c.args.entries.now k x.now h)) (c.requires.inside k h) in
    search rules)

pub returns : goal.returns
returns c =
    let l = book c.args.replica.now in
    let xs = c.args.entries.now in
    let found = λ (s : List ℕ). position_from_yields_List (has_id l s c.args.id.now) _ _ c.position.result c.position.ensures.ran (YieldsList-from_slice xs cc) (λ x b q k. search rules) in
    let put = λ (s : List ℕ). after-position l s c.args.id.now xs c.position.result c.map_or.result (found s) c.map_or.ensures (λ x h. search rules) in
    ((put []).0, λ s. (put s).1)
