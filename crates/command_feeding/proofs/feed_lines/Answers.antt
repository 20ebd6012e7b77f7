use Rattle.std.proofs.Common.{arith}
use Rattle.command_feeding.proofs.RunLaws.{run_none, run-text, run-line}
use Rattle.command_feeding.proofs.feed_lines.Goals as goal

pub loop-consumed-init : goal.loop-consumed-init
loop-consumed-init c = run_none

pub loop-consumed-preserved-then-t : goal.loop-consumed-preserved-then-t
loop-consumed-preserved-then-t c =
    run-line c.loop-consumed.invariant c.take_line-t.ensures c.loop-consumed-test.true c.take_line-t.auto.line c.if-t.true
    c.answer_line-state.ensures c.answer_line-state.auto.store c.print_reply-written.ensures.prints c.print_reply-written.ensures.small (omega arith)

pub loop-consumed-preserved : goal.loop-consumed-preserved
loop-consumed-preserved c =
    run-text c.loop-consumed.invariant c.take_line-t.ensures c.loop-consumed-test.true c.take_line-t.auto.line c.if-t.false
