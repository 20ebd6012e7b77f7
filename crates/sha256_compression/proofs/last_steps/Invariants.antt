-- `last_steps` meets its contract: `t` steps are made, and then `i`.
use Rattle.std.proofs.Common.{◌≡◌, ◌+◌, ◌%◌, ◌≤◌}
use Rattle.sha256_fips180.specs.Fips180.{Working, steps}
use Rattle.sha256_compression.specs.Code.{working}
use Rattle.sha256_compression.proofs.last_steps.Given as goal

abbrev pub invariant-loop-t : goal.invariant-loop-t
invariant-loop-t l = (l.t ≤ 64) × (l.t % 8 ≡ 0) × ((H : Working) → working l.fn.s ≡ steps 48 l.w H → working l.v ≡ steps l.t l.w H)

abbrev pub invariant-loop-i : goal.invariant-loop-i
invariant-loop-i l = (H : Working) → working l.fn.s ≡ steps 48 l.w H → working l.v ≡ steps (l.t + l.i) l.w H
