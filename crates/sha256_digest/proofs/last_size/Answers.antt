-- `last_size` meets its contract.
use Rattle.std.proofs.Common.{sym, arith}
use Rattle.sha256_digest.proofs.Padding.{one_block, two_blocks}
use Rattle.sha256_digest.proofs.last_size.Goals as goal

pub returns-then-n-lt56 : goal.returns-then-n-lt56
returns-then-n-lt56 c = (sym (one_block _ c.if-n-lt56.true), omega arith, omega arith)

pub returns-else-n-lt56 : goal.returns-else-n-lt56
returns-else-n-lt56 c = (sym (two_blocks _ c.if-n-lt56.false), omega arith, omega arith)
