-- `maj` meets its contract: the shorter form.
use Rattle.sha256_compression.proofs.Identities.{Maj-short}
use Rattle.sha256_compression.proofs.maj.Goals as goal

pub returns : goal.returns
returns c = Maj-short c.args.x c.args.y c.args.z
