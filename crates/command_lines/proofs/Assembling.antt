-- A line goes on with a text, and with the input up to its first newline.
use Prim.Native.Nat.{ℕ, ◌+◌, ◌<◌}
use native.Mathlib.Omega.{arith}
use mathlib.Core.Path.{◌≡◌, ◌∙◌, ap}
use mathlib.Core.List.{List, ◌++◌}
use mathlib.Core.Bool.{true, true≢false}
use lib.ListN.{length, take}
use lib.Seq.{take-add}
use Rattle.command_lines.specs.Lines.{Appends, FirstNewline, TakesLine}

module _ (buffer : List ℕ) (fill : ℕ) (input : List ℕ) {at r : ℕ} {buffer' : List ℕ}
    (f : FirstNewline input at) (a : Appends buffer fill (take at input) r buffer') where
  -- the line ends
  pub takes-line : (at ≡ length input → ⊥) → TakesLine buffer fill input (record { fill = r; consumed = at + 1; ended = true }) buffer'
  takes-line n =
      let h : at < length input = omega (arith, f.within) in
      record {
        text = take at input;
        whole = f.none_before;
        within = omega arith;
        consumes = take-add at 1 input ∙ ap (λ (x : List ℕ). take at input ++ take 1 x) (f.here h);
        goes_on = λ e. absurd (true≢false e);
        some_taken = λ g. omega arith;
        keeps = a.keeps;
      }
