use Rattle.ledger_state.specs.View.{book, store_of}
use Rattle.write_highest.proofs.Scanning.{top_start}
use Rattle.write_highest.proofs.top.Goals as goal

pub loop-k-init : goal.loop-k-init
loop-k-init c = top_start (book c.args.replica.now) (store_of c.args.replica.now) c.args.author
