use mathlib.Core.Path.{sym, ap, ◌∙◌}
use native.Mathlib.Omega.{arith}
use lib.ListN.{length, drop}
use Rattle.bitset.specs.Below.{up_to}
use Rattle.ledger_state.specs.View.{book, store_of}
use Rattle.ledger_sorting.specs.PlaceLists.{key_of, candidate, keyed, sorted_by}
use Rattle.ledger_sorting.proofs.Inserting.{renamed}
use Rattle.ledger_sorting.proofs.Keys.{sorted-keyed}
use Rattle.ledger_sorting.proofs.Sorting.{from_end, from_step, from_all}
use Rattle.ledger_sorting.proofs.sorted.sorted.Goals as goal

pub loop-k-init : goal.loop-k-init
loop-k-init c =
    let b = book c.args.replica.now in
    let s = store_of c.args.replica.now in
    let e = c.new-places.ensures in
    let n = ap length e in
    (omega (arith, n), record { is_list = record { room = omega (arith, n); inside = λ i h. absurd (omega (arith, n)) }; are = e ∙ sym (from_end (key_of b s c.args.key) (candidate b s c.args.key) b.used) })

pub insert_listed-requires : goal.insert_listed-requires
insert_listed-requires c =
    let b = book c.args.replica.now in
    let s = store_of c.args.replica.now in
    record {
      room_for = record {
        is_list = c.loop-k.invariant.1.is_list;
        room = omega (arith, c.loop-k.invariant.0, c.args.replica.now.fits);
        place_within = omega (arith, c.loop-k.invariant.0, c.args.replica.now.fits);
      };
      listed-keyed = ap (keyed b s c.args.key) c.loop-k.invariant.1.are ∙ sorted-keyed b s c.args.key (key_of b s c.args.key) (drop c.loop-k.k (up_to b.used));
    }

pub loop-k-preserved : goal.loop-k-preserved
loop-k-preserved c =
    let b = book c.args.replica.now in
    let s = store_of c.args.replica.now in (
      omega (arith, c.loop-k.invariant.0, c.insert_listed.ensures.1),
      renamed (from_step (key_of b s c.args.key) (candidate b s c.args.key) b.used c.loop-k.k (omega arith) (omega (arith, c.loop-k.invariant.0)) c.loop-k.invariant.1.are) c.insert_listed.ensures.0,
    )

pub returns : goal.returns
unfolding sorted_by
returns c =
    let b = book c.args.replica.now in
    let s = store_of c.args.replica.now in
    renamed (from_all (key_of b s c.args.key) (candidate b s c.args.key) b.used c.loop-k.k (omega arith)) c.loop-k.invariant.1
