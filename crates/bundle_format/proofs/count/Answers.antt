use Rattle.std.proofs.Common.{◌≡◌, ◌∙◌, sym, true, drop, arith}
use Rattle.bundle_format.specs.Bundle.{first_whole}
use Rattle.bundle_format.proofs.Reading.{whole-within, counted_none, counted_next, counted-cut, counted-many, counted-all}
use Rattle.bundle_format.proofs.count.Goals as goal

pub loop-n-init : goal.loop-n-init
loop-n-init c = (omega arith, counted_none c.args.bundle.now)

pub returns-then-at-bundle : goal.returns-then-at-bundle
returns-then-at-bundle c =
    counted-all c.args.bundle.now c.loop-n.at c.loop-n.n (omega arith) c.loop-n.invariant.1 (omega arith)

pub returns-then-not-whole : goal.returns-then-not-whole
returns-then-not-whole c =
    counted-cut c.args.bundle.now c.loop-n.at c.loop-n.n (omega arith) c.loop-n.invariant.1 (omega arith) (sym c.whole.ensures ∙ c.if-not-whole.true)

pub loop-n-preserved : goal.loop-n-preserved
loop-n-preserved c =
    let w : first_whole (drop c.loop-n.at c.args.bundle.now) ≡ true = sym c.whole.ensures ∙ c.if-not-whole.false in (
      omega (arith, whole-within c.args.bundle.now c.loop-n.at c.loop-n.invariant.0 w, c.length_at.ensures),
      counted_next c.args.bundle.now c.loop-n.at c.loop-n.n (omega arith) c.loop-n.invariant.1 (omega arith) w c.length_at.ensures,
    )

pub returns : goal.returns
returns c = counted-many c.args.bundle.now c.loop-n.at c.loop-n.n (omega arith) c.loop-n.invariant.1
