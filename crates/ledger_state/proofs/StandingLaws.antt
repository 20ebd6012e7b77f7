-- The standings differ, and two tests tell the third.
use Rattle.std.specs.Prelude.{◌≡◌, refl, false}
use Rattle.std.proofs.Common.{ap, true≢false}
use Rattle.std.proofs.lemmas.Bool.{false≢true}
use Rattle.rules.specs.declared.Standing.{Standing}
use Rattle.rules.specs.declared.Standing.TheVariants.{Held, Waiting, Void}
use Rattle.ledger_state.specs.State.{is_waiting, is_void}

pub held≢waiting : Held ≡ Waiting → ⊥
unfolding is_waiting
held≢waiting e = false≢true (ap is_waiting e)

pub void≢waiting : Void ≡ Waiting → ⊥
unfolding is_waiting
void≢waiting e = false≢true (ap is_waiting e)

pub held≢void : Held ≡ Void → ⊥
unfolding is_void
held≢void e = false≢true (ap is_void e)

pub held-left : (v : Standing) → is_waiting v ≡ false → is_void v ≡ false → v ≡ Held
unfolding is_waiting is_void
held-left Held w x = refl
held-left Waiting w x = absurd (true≢false w)
held-left Void w x = absurd (true≢false x)
