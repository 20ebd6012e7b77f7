use Rattle.std.proofs.Common.{refl, arith}
use Rattle.sha256_fips180.specs.Fips180.{steps}
use Rattle.sha256_compression.proofs.first_steps.Goals as goal

pub loop-t-init : goal.loop-t-init
unfolding steps
loop-t-init c = (omega arith, refl, λ M l. record { scheduled = l; stepped = refl })
