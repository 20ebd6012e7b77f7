-- `read_again` meets its contract: whatever the last read came to, its error is none that passes.
use Rattle.command_streams.specs.StreamLaws.{came-at-most, lasting-reads}
use Rattle.command_streams.proofs.read_again.Goals as goal

pub returns : goal.returns
returns g c = rw c.lasting.ensures (lasting-reads _ c.came_to.result (rw c.came_to.ensures (came-at-most _ c.again-read.result)))
