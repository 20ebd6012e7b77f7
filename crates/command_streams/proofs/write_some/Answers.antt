-- `write_some` meets its contract: whatever the last write came to, its error is none that passes, and it took some unless it failed.
use Rattle.command_streams.specs.StreamLaws.{came-at-most, took-takes, lasting-writes}
use Rattle.command_streams.proofs.write_some.Goals as goal

pub returns : goal.returns
returns g c =
    rw c.lasting.ensures
    (lasting-writes _ c.took_some.result (rw c.took_some.ensures (took-takes _ c.came_to.result (rw c.came_to.ensures (came-at-most _ c.again-wrote.result)))))
