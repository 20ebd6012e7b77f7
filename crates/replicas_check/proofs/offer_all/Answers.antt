use Rattle.std.proofs.Common.{[]}
use Rattle.ledger_offering.specs.Calls.{done}
use Rattle.replicas_check.proofs.OfferAll.{offered-next, offered-all}
use Rattle.replicas_check.proofs.offer_all.Goals as goal

pub loop-x-init : goal.loop-x-init
loop-x-init c = rw c.fresh-l.ensures ([], done)

pub loop-x-preserved : goal.loop-x-preserved
loop-x-preserved c = offered-next c.args.xs.now c.loop-x.x-index _ c.loop-x-test.true c.loop-x.invariant c.offer.ensures

pub returns : goal.returns
returns c = offered-all c.args.xs.now c.loop-x.x-index c.loop-x-test.false c.loop-x.invariant
