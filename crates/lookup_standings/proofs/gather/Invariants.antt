-- `gather` meets its contract: at each turn of the loop `Laid` holds.
use Rattle.ledger_state.specs.View.{book}
use Rattle.lookup_standings.proofs.Laying.{Laid}
use Rattle.lookup_standings.proofs.gather.Given as goal

abbrev pub invariant-loop-k : goal.invariant-loop-k
invariant-loop-k l = Laid (book l.replica) l.places l.initial.ids l.initial.standings l.k l.ids l.standings
