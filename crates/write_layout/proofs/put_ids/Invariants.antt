-- `put_ids` meets its contract. The loop's invariant: the ids of the places so far are printed.
use Rattle.std.proofs.Common.{◌≡◌, ◌+◌, ◌*◌, ℕ, map, take}
use Rattle.update_format.specs.Slices.{SizedIds}
use Rattle.ledger_state.specs.State.{place_at}
use Rattle.update_format.specs.Update.{id_length}
use Rattle.bytes_print.specs.Page.{Printed}
use Rattle.ledger_state.specs.View.{book}
use Rattle.write_layout.proofs.Laying.{ids_of}
use Rattle.write_layout.proofs.put_ids.Given as goal

abbrev pub invariant-loop-k : goal.invariant-loop-k
invariant-loop-k l = record {
  at : l.page.at ≡ l.initial.page.at + id_length * l.k-index;
  sized : SizedIds (map (λ (k : ℕ). (place_at (book l.replica) k).id) (take l.k-index l.places));
  printed : Printed l.initial.page (ids_of (book l.replica) (take l.k-index l.places)) l.page;
}
