use Rattle.std.proofs.Common.{◌&&◌, Bool, refl, ap, ◌∙◌, is_some}
use Rattle.bytes_order.specs.Member.{all}
use Rattle.command_syntax.proofs.Digits.{digits-next}
use Rattle.command_syntax.proofs.all_digits.Goals as goal

pub loop-b-init : goal.loop-b-init
unfolding all
loop-b-init c = refl

pub loop-b-preserved : goal.loop-b-preserved
loop-b-preserved c =
    ap (λ (b : Bool). c.loop-b.digits && b) (c.is_some-digits.ensures ∙ ap is_some c.digit_value.ensures)
    ∙ digits-next c.args.s.now c.loop-b.b-index c.loop-b-test.true c.loop-b.invariant
