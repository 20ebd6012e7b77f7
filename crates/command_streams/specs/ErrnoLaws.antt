-- An error is its number.
use Rattle.std.specs.Prelude.{◌≡◌, ℕ, ◌<◌}
use Rattle.std.proofs.Common.{ap, subst}
use Rattle.std.proofs.Math.Bridge.{le_prop}
use Rattle.command_streams.specs.declared.errors.Errno.{Errno}

at : {n : ℕ} (h k : 0 < n) → ◌≡◌ {A = Errno} (record { number = n; failed = h }) (record { number = n; failed = k })
at {n} h k = ap (λ (f : 0 < n). let e : Errno = record { number = n; failed = f } in e) (le_prop h k)

pub same-number : (a b : Errno) → a.number ≡ b.number → a ≡ b
same-number a b e = go b.number e b.failed
  where
    go : (n : ℕ) → a.number ≡ n → (f : 0 < n) → ◌≡◌ {A = Errno} a (record { number = n; failed = f })
    go n e = subst (λ (n : ℕ). (f : 0 < n) → ◌≡◌ {A = Errno} a (record { number = n; failed = f })) e (λ f. at a.failed f)
