use Rattle.std.proofs.Common.{List, ℕ, ap, ◌∙◌}
use Rattle.update_format.specs.Update.{document_bounds}
use Rattle.update_format.specs.Decode.{decode}
use Rattle.bytes_print.proofs.PrintedLaws.{same_text}
use Rattle.ledger_state.specs.State.{place_at}
use Rattle.ledger_state.specs.View.{book, store_of}
use Rattle.report_wording.specs.Lines.{line_by}
use Rattle.report_text.proofs.TextLaws.{line-of}
use Rattle.report_text.proofs.parts.line.Goals as goal

pub returns-clause-prints : goal.returns-clause-prints
returns-clause-prints c =
    let l = book c.args.replica.now in
    same_text
    (ap (λ (b : List ℕ). line_by c.args.part (place_at l c.args.k).id (decode document_bounds b)) c.update.ensures
    ∙ line-of l (store_of c.args.replica.now) c.args.k c.args.part)
    c.line_by.ensures.prints
