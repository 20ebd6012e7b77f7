use Prim.Native.Nat.{ℕ}
use mathlib.Core.Path.{ap, ◌∙◌}
use mathlib.Core.List.{List}
use borrow.Author.Rules.{rules}
use Rattle.update_format.specs.Update.{document_bounds}
use Rattle.update_format.specs.Decode.{decode}
use Rattle.update_fields.specs.Fields.{anchor_in}
use Rattle.ledger_state.specs.View.{book, store_of}
use Rattle.report_parts.proofs.Ranking.{put_first, put-after}
use Rattle.report_parts.proofs.list.index_of.Goals as goal

-- the anchor in bytes
abbrev anchor : List ℕ → List ℕ
anchor b = anchor_in (decode document_bounds b)

pub returns-then-same : goal.returns-then-same
returns-then-same c =
    (search rules, put_first (book c.args.replica.now) (store_of c.args.replica.now) c.args.k c.args.entries.now c.anchor_of-anchor.result.now (c.anchor_of-anchor.ensures ∙ ap anchor c.update.ensures) c.same.ensures c.if-same.true)

pub returns : goal.returns
returns c =
    (c.index_after.ensures.0, c.index_after.ensures.1 (store_of c.args.replica.now) c.args.k ∙ put-after (book c.args.replica.now) (store_of c.args.replica.now) c.args.k c.args.entries.now c.anchor_of-anchor.result.now (c.anchor_of-anchor.ensures ∙ ap anchor c.update.ensures) c.same.ensures c.if-same.false)
