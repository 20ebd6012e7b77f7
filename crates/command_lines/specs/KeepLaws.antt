-- What a line buffer keeps: some line, whatever the length; and a line that is kept reads as the line.
use Rattle.std.specs.Prelude.{ℕ, ◌+◌, ◌-◌, ◌≤◌, ◌<◌, ◌≡◌, refl, ◌⊎◌, List, [], ◌∷◌, ◌++◌, Bool, true, false, cond, ◌&&◌, length, take, drop, leb}
use Rattle.std.proofs.Common.{arith, sym, ◌∙◌, ap, inl, inr, ⊎_elim, length-append, length-take-le, leb-true, leb-false, le-leb}
use Rattle.std.specs.Prelude.{None}
use Rattle.std.proofs.lemmas.Bool.{lt-leb}
use Rattle.command_syntax.specs.Syntax.{unhex, max_line, framed, read_line}
use Rattle.command_syntax.specs.Line.{line_in}
use Rattle.command_lines.specs.Lines.{Keeps}

-- at the start no bytes are kept
pub keeps-none : {buffer : List ℕ} → length buffer ≡ max_line → Keeps buffer 0 []
keeps-none e = record { sized = e; kept = λ h. refl; longer = λ h. absurd (omega arith) }

-- a length is that of a line whose bytes are kept, or of one that is longer
length-cases : (fill : ℕ) → (fill ≤ max_line) ⊎ (max_line < fill)
length-cases fill = go (leb fill max_line) refl
  where
    go : (b : Bool) → leb fill max_line ≡ b → (fill ≤ max_line) ⊎ (max_line < fill)
    go true e = inl (leb-true fill max_line e)
    go false e = inr (leb-false fill max_line e)

-- a line buffer of max_line bytes keeps a line, whatever the length
pub keeps-some : (buffer : List ℕ) (fill : ℕ) → length buffer ≡ max_line → (line : List ℕ) × Keeps buffer fill line
keeps-some buffer fill e =
    ⊎_elim (λ h. (take fill buffer, record { sized = e; kept = λ _. refl; longer = λ g. absurd (omega arith) }))
    (λ h. (
      buffer ++ (0 ∷ []),
      record { sized = e; kept = λ g. absurd (omega arith); longer = λ _. omega (arith, length-append buffer (0 ∷ []), e) },
    ))
    (length-cases fill)

module _ {buffer line : List ℕ} {fill : ℕ} (k : Keeps buffer fill line) where
  -- a line whose bytes are kept has that length
  keeps-length : fill ≤ max_line → length line ≡ fill
  keeps-length h = ap length (sym (k.kept h)) ∙ length-take-le fill buffer (omega (arith, k.sized))

  -- a line that gets too long
  pub keeps-longer : (n : ℕ) → max_line < fill + n → max_line < length line + n
  keeps-longer n h = ⊎_elim (λ g. omega (arith, keeps-length g)) (λ g. omega (arith, k.longer g)) (length-cases fill)

  -- no line is begun where the length is 0, and only there
  pub keeps-unbegun : fill ≡ 0 → length line ≡ 0
  keeps-unbegun e = keeps-length (omega arith) ∙ e

  pub keeps-begun : (fill ≡ 0 → ⊥) → length line ≡ 0 → ⊥
  keeps-begun n e = ⊎_elim (λ g. n (sym (keeps-length g) ∙ e)) (λ g. omega (arith, k.longer g)) (length-cases fill)

-- a line that is kept reads as the line
pub keeps-read : {buffer line : List ℕ} {fill : ℕ} → Keeps buffer fill line → line_in buffer fill ≡ read_line line
unfolding line_in read_line
keeps-read {buffer} {line} {fill} k = step (leb fill max_line) refl
  where
    step : (p : Bool) → leb fill max_line ≡ p
        → cond (p && leb fill (length buffer)) (read_line (take fill buffer)) None
        ≡ cond (leb (length line) max_line && framed line) (unhex (take (length line - 8) (drop 7 line))) None
    step true p =
        let h = leb-true fill max_line p in
        ap (λ (b : Bool). cond b (read_line (take fill buffer)) None) (le-leb fill (length buffer) (omega (arith, k.sized)))
        ∙ ap read_line (k.kept h)
    step false p =
        let h = leb-false fill max_line p in
        sym (ap (λ (b : Bool). cond (b && framed line) (unhex (take (length line - 8) (drop 7 line))) None) (lt-leb (length line) max_line (k.longer h)))
