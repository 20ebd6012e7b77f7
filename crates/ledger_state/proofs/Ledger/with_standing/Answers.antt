-- `Ledger::with_standing` meets its contract: there is no place k; or the view of the ledger with a place stored in its array.
use native.Mathlib.Omega.{arith}
use lib.ListN.{get_or}
use Rattle.ledger_state.specs.View.{no_place}
use Rattle.ledger_state.proofs.ViewLaws.{stored-view}
use Rattle.ledger_state.proofs.Owning.{places-length}
use Rattle.ledger_state.proofs.Ledger.with_standing.Goals as goal

pub returns : goal.returns
returns c =
    let old = get_or c.args.self.places c.args.k no_place in
    record {
      inside = λ h.
          stored-view c.args.self c.args.self.used c.args.k
          (record { id = old.id; length = old.length; ancestors = c.args.ancestors; standing = c.args.standing })
          (omega (arith, places-length c.args.self _ c.well_formed.0));
      outside = λ h. absurd (omega arith);
    }
