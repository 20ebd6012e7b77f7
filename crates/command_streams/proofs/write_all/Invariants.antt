-- `write_all` meets its contract. The loop's invariant: what was taken is within the bytes. The measure is what is left of them: a write that did not fail took some.
use Rattle.std.proofs.Common.{◌-◌, ◌≤◌, length}
use Rattle.command_streams.proofs.write_all.Given as goal

abbrev pub invariant-loop-at : goal.invariant-loop-at
invariant-loop-at g l = l.at ≤ length l.bytes

abbrev pub decreases-loop-at : goal.decreases-loop-at
decreases-loop-at g l = length l.bytes - l.at
