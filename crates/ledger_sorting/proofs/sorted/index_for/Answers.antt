use mathlib.Core.Path.{◌≡◌, sym, ap, ◌∙◌}
use lib.ListN.{length}
use native.Mathlib.Omega.{arith}
use Prim.Native.Nat.{ℕ}
use Rattle.ledger_state.specs.View.{book, store_of}
use Rattle.ledger_sorting.specs.PlaceLists.{ins, keyed_at}
use Rattle.ledger_sorting.proofs.Inserting.{next, passed, ended, below, listed-passes}
use Rattle.ledger_sorting.proofs.Sorting.{less, equal, greater, over}
use Rattle.ledger_sorting.proofs.sorted.index_for.Goals as goal

pub compare-requires : goal.compare-requires
compare-requires c =
    record {
      two_places = record { first_within = c.requires.place_within; second_within = below c.args.places.now c.loop-i.i c.requires.is_list c.loop-i-test.true };
      own_keyed = c.requires.own_keyed;
      other_keyed = listed-passes c.args.places.now c.loop-i.i (keyed_at (book c.args.replica.now) (store_of c.args.replica.now) c.args.key) c.requires.listed-keyed c.loop-i-test.true;
    }

pub returns-in-Less-clause-new : goal.returns-in-Less-clause-new
returns-in-Less-clause-new c = less _ _ _ _ _ c.loop-i.invariant (next _ _ c.loop-i-test.true) (sym c.in-Less.is ∙ c.compare.ensures)

pub returns-in-Equal-clause-listed : goal.returns-in-Equal-clause-listed
returns-in-Equal-clause-listed c = equal _ _ _ _ _ c.loop-i.invariant (next _ _ c.loop-i-test.true) (sym c.in-Equal.is ∙ c.compare.ensures)

pub loop-i-preserved : goal.loop-i-preserved
loop-i-preserved c = greater _ _ _ _ _ c.loop-i.invariant (next _ _ c.loop-i-test.true) (passed _ _ c.loop-i-test.true) (sym c.in-Greater.is ∙ c.compare.ensures)

pub returns-clause-new : goal.returns-clause-new
returns-clause-new c =
    let xs = c.args.places.now in
    let e : c.loop-i.i ≡ length xs = omega arith in
    ap (λ (n : ℕ). ins n c.args.j xs) (sym e) ∙ over _ _ _ c.loop-i.i 0 c.loop-i.invariant (ended xs c.loop-i.i c.loop-i-test.false)
