-- `small_sigma1` meets its contract: the definition, at what the rotations ensure.
use Rattle.sha256_fips180.specs.Fips180.{σ₁}
use Rattle.sha256_compression.proofs.small_sigma1.Goals as goal

pub returns : goal.returns
unfolding σ₁
returns c = rw (c.rotr.ensures, c.rotr-2.ensures)
