-- `took_some` meets its contract: what took nothing, and did not fail, is made a failure.
use Rattle.std.proofs.Common.{◌≡◌, refl, ap, sym, ◌∙◌, ℕ, rules, Result, Ok, Err}
use Rattle.command_streams.specs.declared.errors.Errno.{Errno}
use Rattle.command_streams.specs.ErrnoLaws.{same-number}
use Rattle.command_streams.specs.Streams.{took_some}
use Rattle.command_streams.proofs.took_some.Goals as goal

none_taken : {wrote : Result ℕ Errno} {k : ℕ} {e : Errno} → wrote ≡ Ok k → k ≡ 0 → e.number ≡ 5 → Err e ≡ took_some wrote
none_taken w z five = ap Err (same-number _ _ five) ∙ sym (ap took_some w ∙ ap (λ (n : ℕ). took_some (Ok n)) z)

pub returns-in-Ok-eq0 : goal.returns-in-Ok-eq0
returns-in-Ok-eq0 c = none_taken c.in-Ok-eq0.is (search rules) refl
