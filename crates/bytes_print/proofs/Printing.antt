-- Printing one text after another.
use Prim.Native.Nat.{ℕ, ◌+◌, ◌≤◌}
use mathlib.Core.Path.{◌≡◌, sym, ap, ap₂, subst, ◌∙◌}
use mathlib.Core.List.{List, [], ◌++◌}
use native.Mathlib.Omega.{arith}
use lib.ListN.{length, take, drop, length-append, take-append-drop}
use Rattle.bytes_copy.specs.Overwritten.{overwritten}
use Rattle.bytes_copy.specs.OverwrittenLaws.{overwritten-length, overwritten-both}
use Rattle.bytes_print.specs.Page.{Prints}

pub both : {p p₁ p₂ t t' : List ℕ} {at n m : ℕ} → Prints p at t p₁ n → Prints p₁ n t' p₂ m → Prints p at (t ++ t') p₂ m
both {p} {p₁} {p₂} {t} {t'} {at} {n} {m} a b =
    record {
      past = omega (arith, a.past, b.past, length-append t t');
      fits = λ h.
          let l : at + length t ≤ length p = omega (arith, a.past, b.past) in
          let e : p₁ ≡ overwritten p at t = a.fits (omega (arith, b.past)) in
          let g : length p₁ ≡ length p = ap length e ∙ overwritten-length p at t l in
          b.fits (omega arith) ∙ ap₂ (λ (q : List ℕ) (k : ℕ). overwritten q k t') e a.past ∙ overwritten-both p at t t' l;
    }

-- no text
pub nothing : (p : List ℕ) (at : ℕ) → Prints p at [] p at
nothing p at =
    let e : at + 0 ≡ at = omega arith in
    record { past = sym e; fits = λ h. sym (ap (λ (m : ℕ). take at p ++ drop m p) e ∙ take-append-drop at p) }

-- a text by another name
pub same_text : {p t t' p₁ : List ℕ} {at n : ℕ} → t ≡ t' → Prints p at t p₁ n → Prints p at t' p₁ n
same_text {p} {t} {t'} {p₁} {at} {n} e a = subst (λ (x : List ℕ). Prints p at x p₁ n) e a

-- the word of a case k, where k is the case j and the text is the word of j
pub same_word : {K : Type 0} (word : K → List ℕ) {k j : K} {p t p₁ : List ℕ} {at n : ℕ} →
    k ≡ j → Prints p at t p₁ n → t ≡ word j → Prints p at (word k) p₁ n
same_word word e a same = same_text (same ∙ ap word (sym e)) a
