-- `big_sigma0` meets its contract: the rotations nested.
use Rattle.std.proofs.Common.{arith}
use Rattle.sha256_fips180.specs.Fips180.{Σ₀}
use Rattle.sha256_compression.proofs.Identities.{nested}
use Rattle.sha256_compression.proofs.big_sigma0.Goals as goal

pub returns : goal.returns
unfolding Σ₀
returns c = nested 2 11 9 (omega arith) c.ranges.x.fits c.rotr.ensures c.rotr-2.ensures c.rotr-3.ensures
