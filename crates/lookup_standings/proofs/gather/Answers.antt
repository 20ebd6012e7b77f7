use Rattle.std.proofs.Common.{refl, arith, ◌<◌}
use Rattle.ledger_state.specs.State.{places}
use Rattle.ledger_state.specs.View.{book}
use Rattle.lookup_standings.proofs.Laying.{laid_none, laid_more}
use Rattle.lookup_standings.proofs.gather.Goals as goal

pub loop-k-init : goal.loop-k-init
loop-k-init c = laid_none (book c.args.replica.now) c.args.places.now c.args.ids.now c.args.standings.now

pub loop-k-preserved : goal.loop-k-preserved
loop-k-preserved c =
    let within : c.loop-k.k < places = omega (arith, c.requires.is_list.room, c.loop-k-test.true) in
    laid_more (book c.args.replica.now) c.args.places.now c.args.ids.now c.args.standings.now c.loop-k.invariant refl c.loop-k-test.true
    (omega (arith, within, c.requires.id_room, c.loop-k.invariant.ids_size))
    (omega (arith, within, c.requires.byte_room, c.loop-k.invariant.bytes_size))
    c.put.ensures
