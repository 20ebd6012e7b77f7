use Rattle.bytes_print.proofs.PrintedLaws.{both, same_text}
use Rattle.ledger_state.specs.View.{book, store_of}
use Rattle.report_text.proofs.TextLaws.{part-is}
use Rattle.report_text.proofs.parts.print.Goals as goal

pub returns-clause-prints : goal.returns-clause-prints
returns-clause-prints c =
    same_text (part-is (book c.args.replica.now) (store_of c.args.replica.now) c.args.part c.args.places.now) (both c.word.ensures.prints (both c.lines.ensures.prints c.put.ensures))
