use Rattle.std.proofs.Common.{◌≡◌, arith, rules, ap, ◌∙◌}
use Rattle.std.proofs.Math.Seq.{paste}
use Rattle.bitset_words.proofs.Joining.{rows_joined, rows_next, rows_all}
use Rattle.bitset_words.proofs.join_rows.Goals as goal

pub loop-i-preserved : goal.loop-i-preserved
loop-i-preserved c = rows_next c.args.s.now c.args.to c.args.from c.args.n c.requires c.loop-i.i (search rules) c.loop-i.invariant c.join.ensures

pub returns : goal.returns
returns c =
    let s = c.args.s.now in
    let e : c.loop-i.i ≡ c.args.n = omega arith in
    rows_all s c.args.to c.args.from c.args.n c.requires (search rules)
    (c.loop-i.invariant ∙ ap (paste s c.args.to (rows_joined s c.args.to c.args.from c.args.n)) e)
