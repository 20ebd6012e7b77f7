-- `t2` meets its contract: the definition, at what the calls ensure.
use Rattle.sha256_fips180.specs.Fips180.{T₂}
use Rattle.sha256_compression.proofs.t2.Goals as goal

pub returns : goal.returns
unfolding T₂
returns c = rw (c.big_sigma0.ensures, c.maj.ensures)
