-- `compare` meets its contract, by what the two reports answer and by whether they are the same.
use Rattle.std.proofs.Common.{◌≡◌, sym, rules}
use Rattle.std.proofs.lemmas.Result.{err_from_is_err_and}
use Rattle.replicas_check.specs.declared.Unreported.TheVariants.{First, Second}
use Rattle.replicas_check.proofs.CompareLaws.{mapped-ok, mapped-err, copy_within, copy-length, first-not, second-not, both-same, both-different}
use Rattle.replicas_check.proofs.compare.Goals as goal

pub returns-in_err-first : goal.returns-in_err-first
returns-in_err-first c =
    let p = err_from_is_err_and c.from_residual.result c.from_residual.ensures.1 in
    let e = mapped-err _ c.report_all.result c.map_err.ensures.cases c.in_err-first.was in
    let is : c.in_err-first.field-0.0 ≡ First e.0 = search rules in
    rw (p.1, p.2, is) (first-not c.report_all.ensures e.1)

pub returns-in_err-second : goal.returns-in_err-second
returns-in_err-second c =
    let p = err_from_is_err_and c.from_residual-in_err-second.result c.from_residual-in_err-second.ensures.1 in
    let first = mapped-ok _ c.report_all.result c.map_err.ensures.cases c.in_ok-first.was in
    let e = mapped-err _ c.report_all-2.result c.map_err-2.ensures.cases c.in_err-second.was in
    let is : c.in_err-second.field-0.0 ≡ Second e.0 = search rules in
    rw (p.1, p.2, is) (second-not (rw first at c.report_all.ensures) c.report_all-2.ensures e.1)

pub slice_bounds-same-end : goal.slice_bounds-same-end
slice_bounds-same-end c = copy_within c.report_all.ensures (mapped-ok _ c.report_all.result c.map_err.ensures.cases c.in_ok-first.was)

pub slice_bounds-same-end-2 : goal.slice_bounds-same-end-2
slice_bounds-same-end-2 c = copy-length c.report_all.ensures (mapped-ok _ c.report_all.result c.map_err.ensures.cases c.in_ok-first.was)

pub returns-then-same : goal.returns-then-same
returns-then-same c =
    let first = mapped-ok _ c.report_all.result c.map_err.ensures.cases c.in_ok-first.was in
    let second = mapped-ok _ c.report_all-2.result c.map_err-2.ensures.cases c.in_ok-second.was in
    both-same (rw first at c.report_all.ensures) c.report_all-2.ensures second (sym c.if-same.ensures)

pub returns-else-same : goal.returns-else-same
returns-else-same c =
    let first = mapped-ok _ c.report_all.result c.map_err.ensures.cases c.in_ok-first.was in
    let second = mapped-ok _ c.report_all-2.result c.map_err-2.ensures.cases c.in_ok-second.was in
    both-different (rw first at c.report_all.ensures) c.report_all-2.ensures second (sym c.if-same.ensures)
