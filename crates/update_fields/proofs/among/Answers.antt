-- `among` meets its contract: the id is asked of each id of the run.
use Rattle.std.proofs.Common.{rules, ◌≡◌, true, false, refl, arith}
use Rattle.std.proofs.lemmas.Iterator.{cases_from_any, YieldsList-from_range}
use borrow.Author.Tests.{tests}
use Rattle.update_fields.proofs.Members.{is_id, walked}
use Rattle.update_fields.proofs.among.Goals as goal

pub returns : goal.returns
returns c =
    walked c.args.b.now c.args.id.now c.args.at c.args.count c.any.result
    (cases_from_any _ _ _
    (λ k. is_id c.args.b.now c.args.id.now c.args.at k ≡ true)
    (λ k. is_id c.args.b.now c.args.id.now c.args.at k ≡ false)
    c.any.ensures.ran
    (YieldsList-from_range 0 c.args.count c.args.count refl (omega arith))
    (λ x q k. search (rules, tests))
    (λ x q k. search (rules, tests)))
