use Rattle.std.proofs.Common.{arith}
use Rattle.ledger_settling.proofs.Judging.{roomy_held}
use Rattle.ledger_settling.proofs.settling.Settling.with_held.Goals as goal

pub invariant_of-self : goal.invariant_of-self
invariant_of-self c =
    record {
      roomy =
          roomy_held c.args.self c.args.k c.requires c.args.ancestors
          (c.with_standing-self.ensures.inside (omega (arith, c.requires.taken, c.args.self.roomy.used_within))) c.push.ensures.items;
    }
