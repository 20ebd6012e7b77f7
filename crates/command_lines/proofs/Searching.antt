-- The first newline: what is known of the bytes before it.
use Rattle.std.proofs.Common.{◌≡◌, refl, sym, ap, ◌∙◌, ℕ, zero, suc, ◌+◌, ◌<◌, ◌≤◌, Bool, true, false, ◌||◌, eqb, List, [], ◌∷◌, length, take, drop, get_or, Option, None, Some, unwrap_or, arith, add-one, drop-cons, ap₂}
use Rattle.std.proofs.lemmas.Bool.{eqb-true}
use Rattle.bytes_order.specs.Member.{any}
use Rattle.memchr.specs.Find.{IsFirstByte, is_byte}
use Rattle.command_lines.specs.Lines.{broken, FirstNewline}

-- bytes none of which is a newline
unbroken : (xs : List ℕ) (n : ℕ) → ((k : ℕ) → k < n → eqb (get_or xs k 0) 10 ≡ true → ⊥) → broken (take n xs) ≡ false
unfolding broken any
unbroken xs zero h = refl
unbroken [] (suc n) h = refl
unbroken (x ∷ xs) (suc n) h = step (eqb x 10) refl (unbroken xs n (λ k l e. h (suc k) (omega arith) e))
  where
    step : (b : Bool) → eqb x 10 ≡ b → broken (take n xs) ≡ false → (eqb x 10 || broken (take n xs)) ≡ false
    step true e g = absurd (h 0 (omega arith) e)
    step false e g = ap (λ (b : Bool). b || broken (take n xs)) e ∙ g

pub first : (xs : List ℕ) (o : Option ℕ) → IsFirstByte (is_byte 10) xs o → FirstNewline xs (unwrap_or o (length xs))
first xs None h = record { within = omega arith; none_before = unbroken xs (length xs) (λ k l e. h k (omega arith) l e); here = λ l. absurd (omega arith) }
first xs (Some n) h =
    let k = h.0 in
    record {
      within = omega (arith, k.high);
      none_before = unbroken xs n (λ i l e. k.before i (omega arith) l e);
      here = λ l. drop-cons xs n 0 l ∙ ap₂ (λ (b m : ℕ). b ∷ drop m xs) (eqb-true (get_or xs n 0) 10 h.1) (sym (add-one n));
    }
