-- `lasting` meets its contract: an error that passes is made one that does not.
use Rattle.std.proofs.Common.{◌≡◌, refl, ap, sym, ◌∙◌, ℕ, Bool, true, cond, Result, Err}
use Rattle.command_streams.specs.declared.errors.Errno.{Errno}
use Rattle.command_streams.specs.ErrnoLaws.{same-number}
use Rattle.command_streams.specs.Streams.{passing, eio, lasting}
use Rattle.command_streams.proofs.lasting.Goals as goal

passed : {called : Result ℕ Errno} {x e : Errno} → called ≡ Err x → passing x ≡ true → e.number ≡ 5 → Err e ≡ lasting called
passed {x = x} w p five = ap Err (same-number _ _ five) ∙ sym (ap lasting w ∙ ap (λ (b : Bool). cond {A = Result ℕ Errno} b (Err eio) (Err x)) p)

pub returns-in-Err : goal.returns-in-Err
returns-in-Err c = passed c.in-Err.is (sym c.is_passing.ensures ∙ c.if-is_passing.true) refl
