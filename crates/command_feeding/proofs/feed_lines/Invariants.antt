-- `feed_lines` meets its contract. The loop's invariant: the lines that ended in what is consumed are answered, and the answers are what is written.
use Rattle.std.proofs.Common.{◌-◌, length}
use Rattle.command_feeding.proofs.RunLaws.{Running}
use Rattle.command_feeding.proofs.feed_lines.Given as goal

abbrev pub invariant-loop-consumed : goal.invariant-loop-consumed
invariant-loop-consumed l =
    Running l.initial.state.ledger l.initial.store l.initial.line l.fill l.input l.initial.out l.state.ledger l.store l.line l.out l.length l.consumed l.written

abbrev pub decreases-loop-consumed : goal.decreases-loop-consumed
decreases-loop-consumed l = length l.input - l.consumed
