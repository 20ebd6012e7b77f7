-- `first_steps` meets its contract: `t` steps are made, and then `i`, and as many words of the schedule after the block's.
use Rattle.std.proofs.Common.{◌≡◌, ℕ, ◌+◌, ◌%◌, ◌≤◌, List}
use Rattle.sha256_compression.specs.Code.{working, Scheduled, Underway}
use Rattle.sha256_compression.proofs.first_steps.Given as goal

abbrev pub invariant-loop-t : goal.invariant-loop-t
invariant-loop-t l = (l.t ≤ 48) × (l.t % 8 ≡ 0) × ((M : List ℕ) → Scheduled M 0 l.fn.w → Underway M (working l.fn.h) l.t l.w (working l.s))

abbrev pub invariant-loop-i : goal.invariant-loop-i
invariant-loop-i l = (M : List ℕ) → Scheduled M 0 l.fn.w → Underway M (working l.fn.h) (l.t + l.i) l.w (working l.s)
