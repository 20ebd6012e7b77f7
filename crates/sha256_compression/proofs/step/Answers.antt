-- `step` meets its contract: the definition, at what the calls ensure.
use Rattle.sha256_fips180.specs.Fips180.{step}
use Rattle.sha256_compression.proofs.step.Goals as goal

pub returns : goal.returns
unfolding step
returns c = rw (c.t1-x.ensures, c.t2-y.ensures)
