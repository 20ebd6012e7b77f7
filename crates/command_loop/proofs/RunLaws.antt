-- Steps, one after the other, from the beginning to the end.
use Prim.Native.Nat.{ℕ, ◌+◌, ◌≤◌, ◌<◌}
use native.Mathlib.Omega.{arith}
use mathlib.Core.List.{List}
use mathlib.Core.Path.{◌≡◌, refl}
use mathlib.Core.Bool.{false}
use lib.ListN.{length}
use Rattle.std.specs.Prelude.{Option, None, Some, is_some}
use Rattle.command_streams.specs.declared.errors.Errno.{Errno}
use Rattle.command_loop.specs.declared.State.{State}
use Rattle.command_loop.specs.Command.{BeginsRun, Steps, Ran, begun, stepped}
use Rattle.command_loop.specs.CommandLaws.{ran-counted}

-- what holds before each step: it was come to by steps from the beginning
pub record Running (s buffer : List ℕ) (t : State) (s' buffer' chunk : List ℕ) : Type 0 where
  pub fed : List ℕ
  pub put : List ℕ
  pub ran : Ran s buffer fed put t s' buffer' chunk

pub no-error : {error : Option Errno} → is_some error ≡ false → error ≡ None
no-error {error = None} h = refl
no-error {error = Some e} h = cc

pub running-begun : {s buffer chunk : List ℕ} {t : State} → BeginsRun t chunk → Running s buffer t s buffer chunk
running-begun b = record { fed = _; put = _; ran = begun b }

pub running-within : {s buffer s' buffer' chunk : List ℕ} {t : State} → Running s buffer t s' buffer' chunk → t.got ≤ length chunk
running-within u = (ran-counted u.ran).within

module _ {s buffer s₁ buffer₁ s' buffer' chunk₁ chunk' : List ℕ} {t r : State} (u : Running s buffer t s₁ buffer₁ chunk₁) (more : 0 < t.got)
    (p : Steps t s₁ buffer₁ chunk₁ r s' buffer' chunk') where
  -- what is left of the limit, with what was read last, falls
  pub running-less : r.got + r.left < t.got + t.left
  running-less = rw p.steps (omega (arith, p.reads.falls))

  pub running-step : Running s buffer r s' buffer' chunk'
  running-step = record { fed = _; put = _; ran = stepped u.ran more p }
