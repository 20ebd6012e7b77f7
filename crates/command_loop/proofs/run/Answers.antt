-- `run` meets its contract: what it lends to the loop is as long as the loop needs it.
use Rattle.std.proofs.Common.{rules}
use Rattle.std.proofs.Math.ListN.{replicate}
use Rattle.command_loop.proofs.run.Goals as goal

pub returns : goal.returns
returns g c =
    record {
      store = _;
      line = _;
      out = replicate 65536 0;
      lent = search rules;
      last_store = _;
      last_line = _;
      last_out = _;
      runs = c.run_on.ensures;
    }
