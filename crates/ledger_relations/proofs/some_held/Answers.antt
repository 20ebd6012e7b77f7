use mathlib.Core.Path.{refl, ◌∙◌}
use Prim.Native.Nat.{ℕ}
use native.Mathlib.Omega.{arith}
use borrow.Author.Rules.{rules}
use Rattle.std.proofs.lemmas.Iterator.{YieldsList-from_range}
use Rattle.std.proofs.lemmas.Iterator.Search.{any_from_yields_List}
use Rattle.ledger_state.specs.State.{place_at}
use Rattle.ledger_state.specs.View.{book, store_of}
use Rattle.ledger_relations.specs.Effects.{held_affects, some_held}
use Rattle.ledger_relations.proofs.Testing.{any-range}
use Rattle.ledger_relations.proofs.some_held.Goals as goal

pub returns : goal.returns
unfolding some_held
returns c =
    let l = book c.args.replica.now in
    let p = λ (q : ℕ). held_affects l.terms (store_of c.args.replica.now) c.args.effect (place_at l c.args.k) c.args.k (place_at l q) q in
    any_from_yields_List p _ _ _ c.any.ensures.ran (YieldsList-from_range 0 l.used l.used refl (omega arith)) (λ x b q k. search rules) ∙ any-range p l.used
