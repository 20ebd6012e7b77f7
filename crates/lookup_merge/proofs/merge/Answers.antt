-- `merge` meets its contract: the walk, and then the asked ids that are left.
use Rattle.lookup_merge.specs.Layout.{stored_in}
use Rattle.lookup_merge.proofs.Finishing.{merges}
use Rattle.lookup_merge.proofs.merge.Goals as goal

pub returns : goal.returns
returns c =
    merges (stored_in c.args.ids.now c.args.standings.now) c.args.asked.now c.args.out.now c.walk-w.ensures c.fill.ensures
