use Rattle.ledger_state.specs.View.{book, store_of}
use Rattle.ledger_relations.proofs.Testing.{shown-is}
use Rattle.ledger_relations.proofs.is_shown.Goals as goal

pub returns : goal.returns
returns c = shown-is (book c.args.replica.now) (store_of c.args.replica.now) c.args.k c.some_held.ensures
