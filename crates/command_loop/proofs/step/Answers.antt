-- `step` meets its contract: where a write failed, nothing more is read.
use Rattle.std.proofs.Common.{refl, None}
use Rattle.command_streams.specs.StreamLaws.{reads_none}
use Rattle.command_loop.proofs.step.Goals as goal

pub returns-then-is_some : goal.returns-then-is_some
returns-then-is_some g c =
    record {
      passed = _;
      passes = c.pass_on-p.ensures;
      read = record { got = 0; left = _; error = None };
      reads = reads_none;
      stops = λ _. refl;
      steps = c.next_state.ensures;
    }
