-- `pass_on` meets its contract. The loop's invariant: the first `at` bytes of the chunk were fed, in pieces. The measure is what is left of the chunk: with room
-- for an answer, `feed` consumes some of it.
use Rattle.std.proofs.Common.{◌-◌, length}
use Rattle.command_loop.specs.Command.{Consumes}
use Rattle.command_loop.proofs.pass_on.Given as goal

abbrev pub invariant-loop-at : goal.invariant-loop-at
invariant-loop-at g l = Consumes l.initial.current l.initial.store l.initial.line l.initial.length l.chunk l.at l.current l.store l.line l.length

abbrev pub decreases-loop-at : goal.decreases-loop-at
decreases-loop-at g l = length l.chunk - l.at
