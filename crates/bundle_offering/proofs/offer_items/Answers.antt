use Rattle.std.proofs.Common.{arith}
use Rattle.bundle_offering.proofs.Items.{reached-none, item-within, reached-next}
use Rattle.bundle_offering.proofs.offer_items.Goals as goal

pub loop-k-init : goal.loop-k-init
loop-k-init c = reached-none c.requires

pub item-x-requires : goal.item-x-requires
item-x-requires c = omega (arith, item-within c.loop-k.invariant c.loop-k-test.true)

pub loop-k-preserved : goal.loop-k-preserved
loop-k-preserved c =
    reached-next c.loop-k.invariant c.loop-k-test.true c.item-x.ensures c.offer_sound-offered.ensures c.put_answer.ensures
