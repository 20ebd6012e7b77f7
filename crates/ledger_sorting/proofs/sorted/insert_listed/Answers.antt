use mathlib.Core.Path.{sym, ◌∙◌}
use Rattle.ledger_state.specs.View.{book, store_of}
use Rattle.ledger_sorting.proofs.Keys.{candidate-keyed}
use Rattle.ledger_sorting.proofs.sorted.insert_listed.Goals as goal

pub insert-requires : goal.insert-requires
insert-requires c =
    record {
      room_for = c.requires.room_for;
      own_keyed = candidate-keyed (book c.args.replica.now) (store_of c.args.replica.now) c.args.key c.args.k (sym c.candidate.ensures ∙ c.if-candidate.true);
      listed-keyed = c.requires.listed-keyed;
    }
