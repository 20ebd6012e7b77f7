use Rattle.std.proofs.Common.{arith, refl}
use Rattle.command_syntax.specs.Syntax.{unhex}
use Rattle.command_syntax.proofs.Digits.{value, digit-small, spelled-next}
use Rattle.command_syntax.proofs.unhex.Goals as goal

pub loop-i-init : goal.loop-i-init
unfolding unhex
loop-i-init c = refl

pub overflow_mul-update : goal.overflow_mul-update
overflow_mul-update c = omega (arith, value _ _ c.digit_value.ensures c.unwrap_or-high.ensures, digit-small)

pub overflow_add-update : goal.overflow_add-update
overflow_add-update c =
    omega (
      arith,
      value _ _ c.digit_value.ensures c.unwrap_or-high.ensures,
      value _ _ c.digit_value-in-loop-i.ensures c.unwrap_or-low.ensures,
      digit-small,
    )

pub loop-i-preserved : goal.loop-i-preserved
loop-i-preserved c =
    spelled-next c.args.line.now c.args.n c.requires.spells c.loop-i.i c.loop-i-test.true c.loop-i.update (omega arith)
    (value _ _ c.digit_value.ensures c.unwrap_or-high.ensures) (value _ _ c.digit_value-in-loop-i.ensures c.unwrap_or-low.ensures) c.loop-i.invariant
