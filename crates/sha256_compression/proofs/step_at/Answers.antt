-- `step_at` meets its contract: one more step of the definition.
use Rattle.sha256_fips180.specs.Fips180.{K}
use Rattle.sha256_compression.proofs.Steps.{step-on}
use Rattle.sha256_compression.proofs.step_at.Goals as goal

pub returns : goal.returns
unfolding K
returns c H e = step-on c.args.t c.args.w.now H e c.step.ensures
