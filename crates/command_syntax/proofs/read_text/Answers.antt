-- `read_text` meets its contract.
use Rattle.std.proofs.Common.{sym, ◌∙◌}
use Rattle.command_syntax.proofs.Framing.{no-word, no-bracket, within-frame, unframed, odd, no-digits, offered}
use Rattle.command_syntax.proofs.read_text.Goals as goal
use Rattle.command_syntax.proofs.read_text.Goals.{then-digits-eq1-via-then-digits-eq1, then-digits-eq1-via-else-digits-eq1+then-not-all_digits}

pub returns-in_err-strip_prefix : goal.returns-in_err-strip_prefix
returns-in_err-strip_prefix c = c.from_residual.ensures ∙ unframed _ (no-word _ c.in_err-strip_prefix.ensures.cases)

pub returns-in_err-digits : goal.returns-in_err-digits
returns-in_err-digits c =
    let p = c.in_ok-strip_prefix.ensures.cases in
    c.from_residual-in_err-digits.ensures ∙ unframed _ (no-bracket _ _ p.0 p.1 c.in_err-digits.ensures.cases)

pub returns-then-digits-eq1 : goal.returns-then-digits-eq1
returns-then-digits-eq1 c =
    let f = within-frame _ _ _ c.in_ok-strip_prefix.ensures.cases c.in_ok-digits.ensures.cases in
    elim c.then-digits-eq1.branch [
      | then-digits-eq1-via-then-digits-eq1 w ↦ odd c.requires f w.if-digits-eq1.true
      | then-digits-eq1-via-else-digits-eq1+then-not-all_digits w ↦ no-digits c.requires f (sym w.all_digits.ensures ∙ w.if-not-all_digits.true)
    ]

pub returns : goal.returns
returns c =
    offered c.requires (within-frame _ _ _ c.in_ok-strip_prefix.ensures.cases c.in_ok-digits.ensures.cases) c.if-digits-eq1.false
    (sym c.all_digits.ensures ∙ c.if-not-all_digits.false)
