-- `Ledger::taken` meets its contract: no place is free; or the view of the ledger with a place stored in its array.
use Prim.Native.Nat.{◌+◌}
use native.Mathlib.Omega.{arith}
use Rattle.rules.specs.declared.Standing.TheVariants.{Waiting}
use Rattle.ledger_state.proofs.ViewLaws.{stored-view}
use Rattle.ledger_state.proofs.Owning.{places-length}
use Rattle.ledger_state.proofs.Ledger.taken.Goals as goal

pub returns : goal.returns
returns c =
    record {
      free = λ h.
          stored-view c.args.self (c.args.self.used + 1) c.args.self.used (record { id = c.args.id; length = c.args.length; ancestors = 0; standing = Waiting })
          (omega (arith, places-length c.args.self _ c.well_formed.0));
      none_free = λ h. absurd (omega arith);
    }
