-- `read_line` meets its contract.
use Rattle.std.proofs.Common.{◌≡◌, ◌-◌, take, arith, ◌∙◌, ap, ⊎_elim}
use Rattle.command_syntax.specs.Syntax.{read_line}
use Rattle.command_syntax.specs.Line.{line_for}
use Rattle.command_syntax.proofs.Framing.{too_long, not_there, there}
use Rattle.command_syntax.proofs.read_line.Goals as goal

pub returns-then-fill-gt-MAX_LINE : goal.returns-then-fill-gt-MAX_LINE
returns-then-fill-gt-MAX_LINE c = too_long c.args.line.now c.args.fill (omega arith)

pub returns-in_err-get : goal.returns-in_err-get
returns-in_err-get c =
    c.from_residual.ensures
    ∙ not_there c.args.line.now c.args.fill (omega arith) (⊎_elim (λ h. absurd (omega (arith, h))) (λ h. h) c.in_err-get.ensures.lookup.0)

pub returns : goal.returns
returns c =
    let line = c.args.line.now in
    let found = c.in_ok-get.ensures.lookup.0 in
    let e : c.args.fill - 0 ≡ c.args.fill = omega arith in
    c.read_text.ensures
    ∙ ap (λ xs. line_for (read_line xs)) (found.2 ∙ ap (λ n. take n line) e)
    ∙ there line c.args.fill (omega arith) found.1
