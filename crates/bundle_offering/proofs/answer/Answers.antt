-- `answer` meets its contract, by what counting the items answers, and by whether the answers fit.
use Rattle.std.proofs.Common.{◌≡◌, arith}
use Rattle.std.specs.Prelude.{ℕ, None, Some, Result, Err}
use Rattle.std.proofs.lemmas.Result.{err_from_is_err_and}
use Rattle.ledger_refusals.specs.declared.Refusal.{Refusal}
use Rattle.ledger_refusals.specs.declared.Refusal.TheVariants.{Bundle}
use Rattle.bundle_offering.proofs.Rows.{bundle-none, number-few, bundle-short, bundle-offerable, bundle-answered}
use Rattle.bundle_offering.proofs.answer.Goals as goal

pub returns-in_err-n : goal.returns-in_err-n
returns-in_err-n c =
    let p = err_from_is_err_and c.from_residual.result c.from_residual.ensures.1 in
    let none : c.count.result ≡ None = rw c.in_err-n.was at c.ok_or.ensures.ok_part in
    let bundle : ◌≡◌ {A = Result ℕ Refusal} (Err c.in_err-n.field-0.0) (Err Bundle) = rw (c.in_err-n.was, none) at c.ok_or.ensures.value in
    let is : c.in_err-n.field-0.0 ≡ Bundle = cc in
    rw (p.1, p.2, is)
    (bundle-none c.args.ledger.now c.args.store.now c.args.bundle.now c.args.answers.now c.requires c.count.ensures none)

pub overflow_mul-length : goal.overflow_mul-length
overflow_mul-length c =
    let some : c.count.result ≡ Some c.in_ok-n.n = rw c.in_ok-n.was at c.ok_or.ensures.ok_part in
    omega (arith, number-few c.args.ledger.now c.args.store.now c.args.bundle.now c.args.answers.now c.requires c.count.ensures some)

pub returns-then-answers-length : goal.returns-then-answers-length
returns-then-answers-length c =
    let some : c.count.result ≡ Some c.in_ok-n.n = rw c.in_ok-n.was at c.ok_or.ensures.ok_part in
    bundle-short c.args.ledger.now c.args.store.now c.args.bundle.now c.args.answers.now c.requires c.count.ensures some c.if-answers-length.true

pub offer_items-requires : goal.offer_items-requires
offer_items-requires c =
    let some : c.count.result ≡ Some c.in_ok-n.n = rw c.in_ok-n.was at c.ok_or.ensures.ok_part in
    bundle-offerable c.args.ledger.now c.args.store.now c.args.bundle.now c.args.answers.now c.requires c.count.ensures some
    c.if-answers-length.false

pub returns : goal.returns
returns c =
    let some : c.count.result ≡ Some c.in_ok-n.n = rw c.in_ok-n.was at c.ok_or.ensures.ok_part in
    bundle-answered c.args.ledger.now c.args.store.now c.args.bundle.now c.args.answers.now c.requires c.count.ensures some
    c.if-answers-length.false c.offer_items.ensures
