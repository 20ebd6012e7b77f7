use Rattle.ledger_state.specs.View.{book, store_of}
use Rattle.report_parts.proofs.Marking.{marked_start, marked_more, marked-end}
use Rattle.report_parts.proofs.marks.marked.Goals as goal

pub loop-k-init : goal.loop-k-init
loop-k-init c = marked_start (book c.args.replica.now) (store_of c.args.replica.now) c.args.evidence

pub loop-k-preserved : goal.loop-k-preserved
loop-k-preserved c =
    marked_more (book c.args.replica.now) (store_of c.args.replica.now) c.args.evidence c.loop-k.authors c.with_author-authors.result c.loop-k.k c.loop-k.invariant c.with_author-authors.ensures

pub returns : goal.returns
returns c =
    marked-end (book c.args.replica.now) (store_of c.args.replica.now) c.args.evidence c.loop-k.authors c.loop-k.k c.loop-k.auto.k-end c.loop-k-test.false c.loop-k.invariant
