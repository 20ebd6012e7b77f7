use Rattle.std.proofs.Common.{arith}
use Rattle.bytes_print.proofs.PrintedLaws.{both, nothing, same_text}
use Rattle.ledger_state.specs.View.{book}
use Rattle.write_layout.proofs.Laying.{ids_none, ids_next, ids_all, none-sized, more-sized, all-sized}
use Rattle.write_layout.proofs.put_ids.Goals as goal

pub loop-k-init : goal.loop-k-init
loop-k-init c = record { at = omega arith; sized = none-sized (book c.args.replica.now) c.args.places.now; printed = same_text (ids_none (book c.args.replica.now) c.args.places.now) (nothing c.args.page.now) }

pub loop-k-preserved : goal.loop-k-preserved
loop-k-preserved c = record {
  at = omega (arith, c.put.ensures.prints.past, c.loop-k.invariant.at);
  sized = more-sized (book c.args.replica.now) c.args.places.now c.loop-k.k-index c.loop-k-test.true c.loop-k.invariant.sized (omega arith);
  printed = same_text (ids_next (book c.args.replica.now) c.args.places.now c.loop-k.k-index c.loop-k-test.true) (both c.loop-k.invariant.printed c.put.ensures);
}

pub returns-clause-prints : goal.returns-clause-prints
returns-clause-prints c = same_text (ids_all (book c.args.replica.now) c.args.places.now c.loop-k.k-index c.loop-k-test.false) c.loop-k.invariant.printed

pub returns-clause-sized : goal.returns-clause-sized
returns-clause-sized c = all-sized (book c.args.replica.now) c.args.places.now c.loop-k.k-index c.loop-k-test.false c.loop-k.invariant.sized
