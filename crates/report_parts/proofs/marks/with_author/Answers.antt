use Prim.Native.Nat.{ℕ}
use mathlib.Core.Path.{ap, ◌∙◌}
use mathlib.Core.List.{List}
use native.Mathlib.Omega.{arith}
use Rattle.update_format.specs.Update.{document_bounds}
use Rattle.update_format.specs.Decode.{decode}
use Rattle.bitset.specs.Bits.{word_bits, including_below}
use Rattle.update_fields.specs.Fields.{author_in}
use Rattle.ledger_state.specs.View.{book, store_of}
use Rattle.report_parts.proofs.Marking.{author-added}
use Rattle.report_parts.proofs.marks.with_author.Goals as goal

pub returns-then-is_evidence : goal.returns-then-is_evidence
returns-then-is_evidence c = λ a.
    author-added (book c.args.replica.now) (store_of c.args.replica.now) c.args.evidence word_bits c.args.authors c.args.k a c.is_evidence.ensures c.if-is_evidence.true
    (c.author_of-author.ensures.0 ∙ ap (λ (b : List ℕ). author_in (decode document_bounds b)) c.update.ensures) (omega (arith, c.author_of-author.ensures.1))
    (c.including.ensures ∙ ap (including_below word_bits c.args.authors) c.from.ensures)
