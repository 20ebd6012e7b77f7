-- `t1` meets its contract: the definition, at what the calls ensure.
use Rattle.sha256_fips180.specs.Fips180.{T₁}
use Rattle.sha256_compression.proofs.t1.Goals as goal

pub returns : goal.returns
unfolding T₁
returns c = rw (c.big_sigma1.ensures, c.ch.ensures)
