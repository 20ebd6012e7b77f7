use Rattle.std.proofs.Common.{List, ℕ, Bool, ◌&&◌, eqb, sym, ap, ◌∙◌}
use Rattle.update_format.specs.Update.{document_bounds}
use Rattle.update_format.specs.Decode.{decode}
use Rattle.update_fields.specs.Fields.{author_in}
use Rattle.ledger_state.specs.View.{book, store_of}
use Rattle.write_highest.proofs.Scanning.{own-is, own-not}
use Rattle.write_highest.proofs.is_own.Goals as goal

pub returns-then-has_standing : goal.returns-then-has_standing
returns-then-has_standing c =
    ap (λ (h : Bool). h && eqb c.author_of.result c.args.author) (sym c.if-has_standing.true)
    ∙ own-is (book c.args.replica.now) (store_of c.args.replica.now) c.args.author c.args.k c.has_standing.ensures
    (c.author_of.ensures.0 ∙ ap (λ (b : List ℕ). author_in (decode document_bounds b)) c.update.ensures)

pub returns-else-has_standing : goal.returns-else-has_standing
returns-else-has_standing c = own-not (book c.args.replica.now) (store_of c.args.replica.now) c.args.author c.args.k c.has_standing.ensures c.if-has_standing.false
