use Rattle.std.proofs.Common.{sym, ◌∙◌}
use Rattle.command_loop.proofs.PassLaws.{consumes-none, consumes_more, passes-all, passes-part}
use Rattle.command_loop.proofs.pass_on.Goals as goal

pub loop-at-init : goal.loop-at-init
loop-at-init g c = consumes-none

pub returns-then-is_some : goal.returns-then-is_some
returns-then-is_some g c = passes-part (consumes_more c.loop-at.invariant c.hand_on-h.ensures) c.hand_on-h.ensures.writes (sym c.is_some.ensures ∙ c.if-is_some.true)

pub loop-at-preserved : goal.loop-at-preserved
loop-at-preserved g c = consumes_more c.loop-at.invariant c.hand_on-h.ensures

pub returns : goal.returns
returns g c = passes-all c.loop-at.invariant c.loop-at-test.false
