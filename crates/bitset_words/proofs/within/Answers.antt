use Rattle.std.proofs.Common.{ℕ, ◌+◌, drop, rules, sym, ap, ◌∙◌}
use Rattle.bitset.specs.Bits.{within}
use Rattle.bitset.specs.BitsLaws.{within_none}
use Rattle.bitset_words.specs.Run.{number}
use Rattle.bitset_words.proofs.Reading.{within-next, number-end}
use Rattle.bitset_words.proofs.within.Goals as goal

pub returns-then-not-within : goal.returns-then-not-within
returns-then-not-within c =
    sym
    (sym c.loop-w.invariant
    ∙ within-next c.args.s.now (λ i. (c.type_inv.s i).fits) c.loop-w.w-index (search rules) c.loop-w.left (sym c.if-not-within.true ∙ c.within.ensures))

pub loop-w-preserved : goal.loop-w-preserved
loop-w-preserved c =
    let next = within-next c.args.s.now (λ i. (c.type_inv.s i).fits) c.loop-w.w-index (search rules) c.loop-w.left (sym c.if-not-within.false ∙ c.within.ensures) in
    ap (within (number (drop (c.loop-w.w-index + 1) c.args.s.now))) (search rules) ∙ sym next ∙ c.loop-w.invariant

pub returns : goal.returns
returns c =
    let end = number-end c.args.s.now c.loop-w.w-index (search rules) in
    sym (within_none c.loop-w.left) ∙ ap (λ (w : ℕ). within w c.loop-w.left) (sym end) ∙ c.loop-w.invariant
