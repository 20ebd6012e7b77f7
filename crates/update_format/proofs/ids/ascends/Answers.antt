-- `ascends` meets its contract: it is asked of each id but the first whether it comes after the one before it.
use Rattle.std.proofs.Common.{rules, ◌≡◌, true, false, refl, ◌-◌}
use Rattle.std.proofs.lemmas.Iterator.{cases_from_all, YieldsList-from_range}
use borrow.Author.Tests.{tests}
use Rattle.update_format.proofs.Ascent.{above, walked}
use Rattle.update_format.proofs.ids.ascends.Goals as goal

pub returns : goal.returns
returns c =
    walked c.args.s.now c.args.at c.args.count c.all.result
    (cases_from_all _ _ _
    (λ k. above c.args.s.now c.args.at c.args.count k ≡ true)
    (λ k. above c.args.s.now c.args.at c.args.count k ≡ false)
    c.all.ensures.ran
    (YieldsList-from_range 1 c.args.count (c.args.count - 1) refl refl)
    (λ x q k. search (rules, tests))
    (λ x q k. search (rules, tests)))
