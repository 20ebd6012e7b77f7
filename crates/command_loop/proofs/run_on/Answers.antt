use Rattle.std.proofs.Common.{arith, sym, ◌∙◌}
use Rattle.command_loop.specs.Command.{stopped, ended}
use Rattle.command_loop.proofs.RunLaws.{no-error, running-begun, running-step}
use Rattle.command_loop.proofs.run_on.Goals as goal

pub loop-state-init : goal.loop-state-init
loop-state-init g c = running-begun c.begin-state.ensures

pub loop-state-preserved : goal.loop-state-preserved
loop-state-preserved g c = running-step c.loop-state.invariant c.loop-state-test.true c.step-state.ensures

pub returns-then-is_some : goal.returns-then-is_some
returns-then-is_some g c = stopped _ _ _ c.loop-state.state c.loop-state.invariant.ran (sym c.is_some.ensures ∙ c.if-is_some.true) c.ended_by.ensures

pub returns : goal.returns
returns g c =
    ended _ _ _ c.loop-state.state c.loop-state.store c.loop-state.out _ c.loop-state.invariant.ran (omega arith) (no-error (sym c.is_some.ensures ∙ c.if-is_some.false)) (omega arith) c.end-m.ensures
    c.ended_by-2.ensures
