use Rattle.std.proofs.Common.{sym, ap, ◌∙◌, List, ℕ, get_or, arith}
use Rattle.ledger_settling.proofs.Loops.{successors_begun, successor_passed, waits_now, successor_judged}
use Rattle.ledger_settling.proofs.settling.Settling.successors_judged.Goals as goal

pub loop-k-init : goal.loop-k-init
loop-k-init c = successors_begun _ _ _ _ c.requires (ap (λ (ns : List ℕ). get_or ns c.args.i 0) (sym c.as_slice.ensures.value))

pub judged-current-requires : goal.judged-current-requires
judged-current-requires c =
    waits_now _ _ _ _ c.loop-k.invariant (omega arith) (sym c.waits_for.ensures ∙ c.if-waits_for.true)

pub loop-k-preserved : goal.loop-k-preserved
loop-k-preserved c =
    grind (arith, successor_passed _ _ _ _ c.loop-k.invariant, successor_judged _ _ _ _ c.loop-k.invariant)
