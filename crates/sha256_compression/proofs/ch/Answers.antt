-- `ch` meets its contract: the shorter form.
use Rattle.sha256_compression.proofs.Identities.{Ch-short}
use Rattle.sha256_compression.proofs.ch.Goals as goal

pub returns : goal.returns
returns c = Ch-short c.args.x c.args.y c.args.z c.ranges.x.fits c.ranges.z.fits
