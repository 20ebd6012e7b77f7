-- `turn` meets its contract: one more word and one more step of the definition.
use Rattle.std.proofs.Common.{arith}
use Rattle.sha256_fips180.specs.Fips180.{K}
use Rattle.sha256_compression.proofs.Steps.{turned}
use Rattle.sha256_compression.proofs.turn.Goals as goal

pub returns : goal.returns
unfolding K
returns c M H u = turned c.args.t (omega arith) u (c.extend_at.ensures M u.scheduled) c.step.ensures
