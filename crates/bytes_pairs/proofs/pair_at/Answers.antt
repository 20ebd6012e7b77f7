-- `pair_at` meets its contract: the first of the two bytes is the higher.
use Rattle.std.proofs.Common.{arith}
use Rattle.bytes_pairs.specs.PairsLaws.{pair-bytes}
use Rattle.bytes_pairs.proofs.pair_at.Goals as goal

pub returns : goal.returns
returns c = omega (arith, pair-bytes c.args.b.now c.args.at c.requires)
