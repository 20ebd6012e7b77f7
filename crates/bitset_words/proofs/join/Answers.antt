use Rattle.std.proofs.Common.{◌≡◌, length, arith, rules, ap, ◌∙◌}
use Rattle.bitset_words.specs.Run.{number}
use Rattle.bitset_words.proofs.RunLaws.{number-join}
use Rattle.bitset_words.proofs.Joining.{joined_to, join-next, join-all}
use Rattle.bitset_words.proofs.join.Goals as goal

pub loop-i-preserved : goal.loop-i-preserved
loop-i-preserved c = join-next c.args.s.now c.args.t.now (search rules) c.loop-i.i (search rules) c.loop-i.invariant c.join.ensures

pub returns : goal.returns
returns c =
    let s = c.args.s.now in
    let t = c.args.t.now in
    let e : c.loop-i.i ≡ length t = omega arith in
    ap number (c.loop-i.invariant ∙ ap (joined_to s t) e ∙ join-all s t (search rules))
    ∙ number-join s t (search rules) (λ i. (c.type_inv.t i).fits) (search rules)
