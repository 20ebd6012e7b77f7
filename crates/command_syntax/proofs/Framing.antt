-- The frame of a line, and how the line reads by its frame and its digits.
use Prim.Native.Nat.{ℕ, ◌+◌, ◌-◌, ◌/◌, ◌%◌, ◌≤◌, ◌<◌}
use native.Mathlib.Omega.{arith}
use mathlib.Core.Path.{◌≡◌, refl, sym, ◌∙◌, ap, ap₂}
use mathlib.Core.List.{List, [], ◌∷◌}
use Rattle.std.specs.Prelude.{Option, None, Some, nat_eq}
use Rattle.std.specs.Cmp.Lexicographic.{pointwise}
use mathlib.Core.Bool.{Bool, true, false, cond, ◌&&◌}
use lib.ListN.{length, take, drop, length-drop}
use lib.Seq.{drop-drop}
use lib.Dec.{leb}
use borrow.Author.Tests.{leb-true, le-leb, lt-leb}
use Rattle.bytes_order.specs.Order.{same}
use Rattle.bytes_order.specs.CompareLaws.{eq_is_same}
use Rattle.bytes_order.specs.Member.{all}
use Rattle.bytes_order.specs.BoolLaws.{true-false}
use Rattle.bytes_ascii.specs.Ascii.{codes, ascii}
use Rattle.command_syntax.specs.Syntax.{unhex, max_line, framed, read_line}
use Rattle.command_syntax.specs.Line.{is_digit, line_in, line_for}
use Rattle.command_syntax.specs.LineLaws.{unhex-length, unhex-digits, unhex-whole}

-- `(offer `
abbrev pub offer_word : List ℕ
offer_word = 40 ∷ 111 ∷ 102 ∷ 102 ∷ 101 ∷ 114 ∷ 32 ∷ []

-- `)`
abbrev pub bracket : List ℕ
bracket = 41 ∷ []

and_false : (a : Bool) → (a && false) ≡ false
and_false true = refl
and_false false = refl

-- the line has another word
pub no-word : (line : List ℕ) → pointwise nat_eq (take 7 line) offer_word ≡ false → framed line ≡ false
unfolding framed ascii codes
no-word line e =
    ap (λ (b : Bool). leb 8 (length line) && (b && same (drop (length line - 1) line) bracket)) (sym (eq_is_same (take 7 line) offer_word) ∙ e)
    ∙ and_false (leb 8 (length line))

-- a line that begins with the word, and the rest of it
module _ (line rest : List ℕ) (word : pointwise nat_eq (take 7 line) offer_word ≡ true) (after : rest ≡ drop 7 line) where
  last : 8 ≤ length line → drop (length rest - 1) rest ≡ drop (length line - 1) line
  last long =
      let e : 7 + (length rest - 1) ≡ length line - 1 = omega (arith, ap length after, length-drop 7 line) in
      ap (λ (xs : List ℕ). drop (length rest - 1) xs) after ∙ drop-drop (length rest - 1) 7 line ∙ ap (λ (i : ℕ). drop i line) e

  framed-by : {p : Bool} → pointwise nat_eq (drop (length rest - 1) rest) bracket ≡ p → 8 ≤ length line → framed line ≡ p
  unfolding framed ascii codes
  framed-by {p} e long =
      ap₂ (λ (a b : Bool). a && (b && same (drop (length line - 1) line) bracket)) (le-leb 8 (length line) long)
      (sym (eq_is_same (take 7 line) offer_word) ∙ word)
      ∙ ap (λ (xs : List ℕ). same xs bracket) (sym (last long))
      ∙ sym (eq_is_same (drop (length rest - 1) rest) bracket)
      ∙ e

  pub no-bracket : pointwise nat_eq (drop (length rest - 1) rest) bracket ≡ false → framed line ≡ false
  unfolding framed
  no-bracket e = step (leb 8 (length line)) refl
    where
      step : (b : Bool) → leb 8 (length line) ≡ b → framed line ≡ false
      step true h = framed-by e (leb-true 8 (length line) h)
      step false h = ap (λ (b : Bool). b && (same (take 7 line) (ascii "(offer ") && same (drop (length line - 1) line) (ascii ")"))) h

-- a line with its frame, and the digits in it
pub record Framed (line digits : List ℕ) : Type 0 where
  pub frame : framed line ≡ true
  pub inside : digits ≡ take (length line - 8) (drop 7 line)

pub within-frame : (line rest digits : List ℕ)
    → (pointwise nat_eq (take 7 line) offer_word ≡ true) × (rest ≡ drop 7 line) × (length rest + 7 ≡ length line)
    → (pointwise nat_eq (drop (length rest - 1) rest) bracket ≡ true) × (digits ≡ take (length rest - 1) rest) × (length digits + 1 ≡ length rest)
    → Framed line digits
within-frame line rest digits p q =
    let e : length rest - 1 ≡ length line - 8 = omega (arith, p.2) in
    record {
      frame = framed-by line rest p.0 p.1 q.0 (omega (arith, p.2, q.2));
      inside = q.1 ∙ ap₂ (λ (n : ℕ) (xs : List ℕ). take n xs) e p.1;
    }

-- a line with no frame
pub unframed : (line : List ℕ) → framed line ≡ false → None ≡ line_for (read_line line)
unfolding read_line
unframed line e = sym (ap (λ (b : Bool). line_for (cond b (unhex (take (length line - 8) (drop 7 line))) None)) (step (leb (length line) max_line) e))
  where
    step : (a : Bool) {b : Bool} → b ≡ false → (a && b) ≡ false
    step true e = e
    step false e = refl

-- .. and by its digits
module _ {line digits : List ℕ} (small : length line ≤ max_line) (f : Framed line digits) where
  by_digits : read_line line ≡ unhex digits
  unfolding read_line
  by_digits =
      ap₂ (λ (a b : Bool). cond (a && b) (unhex (take (length line - 8) (drop 7 line))) None) (le-leb (length line) max_line small) f.frame
      ∙ ap unhex (sym f.inside)

  unspelled : ((b : List ℕ) → unhex digits ≡ Some b → ⊥) → None ≡ line_for (read_line line)
  unspelled h = step (unhex digits) refl ∙ sym (ap line_for by_digits)
    where
      step : (o : Option (List ℕ)) → unhex digits ≡ o → None ≡ line_for o
      step None p = refl
      step (Some b) p = absurd (h b p)

  pub odd : length digits % 2 ≡ 1 → None ≡ line_for (read_line line)
  odd h = unspelled (λ b p. omega (arith, unhex-length digits p))

  pub no-digits : all is_digit digits ≡ false → None ≡ line_for (read_line line)
  no-digits h = unspelled (λ b p. true-false (unhex-digits digits p) h)

  pub offered : (length digits % 2 ≡ 1 → ⊥) → all is_digit digits ≡ true → Some (length digits / 2) ≡ line_for (read_line line)
  offered h d = step (unhex-whole (length digits / 2) digits (omega arith) d)
    where
      step : (bs : List ℕ) × (unhex digits ≡ Some bs) × (length bs ≡ length digits / 2) → Some (length digits / 2) ≡ line_for (read_line line)
      step w = sym (ap line_for (by_digits ∙ w.1) ∙ ap Some w.2)

-- the line in the buffer
module _ (buffer : List ℕ) (fill : ℕ) where
  pub too_long : max_line < fill → None ≡ line_for (line_in buffer fill)
  unfolding line_in
  too_long h = sym (ap (λ (b : Bool). line_for (cond (b && leb fill (length buffer)) (read_line (take fill buffer)) None)) (lt-leb fill max_line h))

  pub not_there : fill ≤ max_line → length buffer < fill → None ≡ line_for (line_in buffer fill)
  unfolding line_in
  not_there h g =
      sym
      (ap₂ (λ (a b : Bool). line_for (cond (a && b) (read_line (take fill buffer)) None)) (le-leb fill max_line h) (lt-leb fill (length buffer) g))

  pub there : fill ≤ max_line → fill ≤ length buffer → line_for (read_line (take fill buffer)) ≡ line_for (line_in buffer fill)
  unfolding line_in
  there h g =
      sym
      (ap₂ (λ (a b : Bool). line_for (cond (a && b) (read_line (take fill buffer)) None)) (le-leb fill max_line h) (le-leb fill (length buffer) g))
