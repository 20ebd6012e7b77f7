-- How a line reads, and the bytes that it offers.
use mathlib.Core.Path.{◌≡◌, refl, sym, ap, subst, ◌∙◌}
use Prim.Native.Nat.{ℕ, ◌*◌, ◌≤◌}
use native.Mathlib.Omega.{arith}
use mathlib.Core.List.{List}
use Rattle.std.specs.Prelude.{Option, None, Some}
use lib.ListN.{length, take, drop}
use Rattle.command_syntax.specs.Syntax.{unhex, max_offered}
use Rattle.command_syntax.specs.Line.{line_in, line_for, Spells}
use Rattle.command_syntax.specs.LineLaws.{line_in-spells}

module _ (buffer : List ℕ) (fill : ℕ) {r : Option ℕ} (reads : r ≡ line_for (line_in buffer fill)) where
  read_some : (n : ℕ) → r ≡ Some n → (b : List ℕ) × (line_in buffer fill ≡ Some b) × (length b ≡ n)
  read_some n q = go (line_in buffer fill) (sym reads ∙ q)
    where
      go : (o : Option (List ℕ)) → line_for o ≡ Some n → (b : List ℕ) × (o ≡ Some b) × (length b ≡ n)
      go None e = let z : ◌≡◌ {A = ℕ} 0 1 = cc in absurd (omega arith)
      go (Some b) e = (b, refl, cc)

  -- an offer's digits spell its bytes, of which there are at most max_offered
  pub offer-spells : (n : ℕ) → r ≡ Some n → Spells buffer n × (n ≤ max_offered)
  offer-spells n q =
      let b = read_some n q in
      let s = line_in-spells buffer fill b.1 in
      (subst (Spells buffer) b.2 s.0, omega (arith, s.2, b.2))

  -- the bytes in the update buffer are the offer's
  pub offer-read : (n : ℕ) → r ≡ Some n → (update : List ℕ) → unhex (take (2 * n) (drop 7 buffer)) ≡ Some (take n update)
      → line_in buffer fill ≡ Some (take n update)
  offer-read n q update e =
      let b = read_some n q in
      let s = line_in-spells buffer fill b.1 in
      b.1 ∙ sym s.1 ∙ ap (λ (k : ℕ). unhex (take (2 * k) (drop 7 buffer))) b.2 ∙ e
