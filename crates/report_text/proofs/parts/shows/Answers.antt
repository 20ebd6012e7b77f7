-- `shows` meets its contract, by the part.
use Rattle.ledger_state.specs.View.{book, store_of}
use Rattle.ledger_relations.proofs.Testing.{held-is, waiting-is, void-is}
use Rattle.report_text.proofs.parts.shows.Goals as goal

pub returns-in-Held : goal.returns-in-Held
returns-in-Held c = rw c.in-Held.is (held-is (book c.args.replica.now) (store_of c.args.replica.now) c.args.k c.has_standing.ensures)

pub returns-in-Waiting : goal.returns-in-Waiting
returns-in-Waiting c = rw c.in-Waiting.is (waiting-is (book c.args.replica.now) (store_of c.args.replica.now) c.args.k c.has_standing-in-Waiting.ensures)

pub returns-in-Void : goal.returns-in-Void
returns-in-Void c = rw c.in-Void.is (void-is (book c.args.replica.now) (store_of c.args.replica.now) c.args.k c.has_standing-in-Void.ensures)
