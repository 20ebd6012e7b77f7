-- `judged` meets its contract, by the judgement.
use Rattle.std.proofs.Common.{sym, subst, ◌∙◌}
use Rattle.ledger_settling.specs.Worklist.{progress_of, Judged, waits, holds, fails}
use Rattle.ledger_settling.proofs.settling.Settling.judged.Goals as goal

pub returns-in-Holds : goal.returns-in-Holds
returns-in-Holds c =
    subst (Judged c.args.store.now c.args.k (progress_of c.args.self)) (sym c.with_held.ensures) (holds (sym c.judge.ensures ∙ c.in-Holds.is))

pub returns-in-Fails : goal.returns-in-Fails
returns-in-Fails c =
    subst (Judged c.args.store.now c.args.k (progress_of c.args.self)) (sym c.with_void.ensures) (fails (sym c.judge.ensures ∙ c.in-Fails.is))

pub returns-in-Waits : goal.returns-in-Waits
returns-in-Waits c = waits (sym c.judge.ensures ∙ c.in-Waits.is)
