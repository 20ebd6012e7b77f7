use Rattle.std.proofs.Common.{ap, ap₂, ◌∙◌}
use Rattle.std.specs.Ordering.{nat_cmp, is_lt, ordering_then}
use Rattle.ledger_state.specs.View.{book, store_of}
use Rattle.write_highest.proofs.Scanning.{higher-is}
use Rattle.write_highest.proofs.is_higher.Goals as goal

pub returns : goal.returns
returns c =
    c.is_lt.ensures
    ∙ ap is_lt (c.then.ensures ∙ ap₂ ordering_then (c.cmp.ensures ∙ ap₂ nat_cmp c.count.ensures c.count-2.ensures) c.cmp-2.ensures)
    ∙ higher-is (book c.args.replica.now) (store_of c.args.replica.now) c.args.k c.args.j
