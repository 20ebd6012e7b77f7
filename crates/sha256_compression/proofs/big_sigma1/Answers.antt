-- `big_sigma1` meets its contract: the rotations nested.
use Rattle.std.proofs.Common.{arith}
use Rattle.sha256_fips180.specs.Fips180.{Σ₁}
use Rattle.sha256_compression.proofs.Identities.{nested}
use Rattle.sha256_compression.proofs.big_sigma1.Goals as goal

pub returns : goal.returns
unfolding Σ₁
returns c = nested 6 5 14 (omega arith) c.ranges.x.fits c.rotr.ensures c.rotr-2.ensures c.rotr-3.ensures
