-- `run_on` meets its contract. The loop's invariant: the state was come to by steps from the beginning. The measure is what is left of the limit, with what was read
-- last.
use Rattle.std.proofs.Common.{◌+◌}
use Rattle.command_loop.proofs.RunLaws.{Running}
use Rattle.command_loop.proofs.run_on.Given as goal

abbrev pub invariant-loop-state : goal.invariant-loop-state
invariant-loop-state g l = Running l.initial.store l.initial.line l.state l.store l.line l.chunk

abbrev pub decreases-loop-state : goal.decreases-loop-state
decreases-loop-state g l = l.state.got + l.state.left
