-- `count` meets its contract. The loop's invariant: n items end at byte `at`, and the number of all is n and that of those from there on.
use Rattle.std.proofs.Common.{◌≤◌, length}
use Rattle.bundle_format.proofs.Reading.{CountedTo}
use Rattle.bundle_format.proofs.count.Given as goal

abbrev pub invariant-loop-n : goal.invariant-loop-n
invariant-loop-n l = (l.at ≤ length l.bundle) × CountedTo l.bundle l.at l.n
