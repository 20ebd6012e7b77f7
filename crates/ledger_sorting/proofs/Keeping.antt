-- What passes a test, one number after the other.
use Prim.Native.Nat.{ℕ}
use mathlib.Core.Path.{◌≡◌, sym, ap, ◌∙◌}
use mathlib.Core.List.{List, [], ◌∷◌, ◌++◌, append-nil}
use mathlib.Core.Bool.{Bool, true, false, cond}
use Rattle.bytes_order.specs.Member.{keep}

-- one more at the end
pub keep-yes : (p : ℕ → Bool) (xs : List ℕ) (a : ℕ) {b : Bool} → b ≡ p a → b ≡ true → xs ++ (a ∷ []) ≡ xs ++ keep p (a ∷ [])
unfolding keep
keep-yes p xs a e t = ap (λ (b : Bool). xs ++ cond b (a ∷ []) []) (sym (sym e ∙ t))

pub keep-nothing : (p : ℕ → Bool) (xs : List ℕ) (a : ℕ) {b : Bool} → b ≡ p a → b ≡ false → xs ≡ xs ++ keep p (a ∷ [])
unfolding keep
keep-nothing p xs a e t = sym (append-nil xs) ∙ ap (λ (b : Bool). xs ++ cond b (a ∷ []) []) (sym (sym e ∙ t))

pub keep-no : (p : ℕ → Bool) (a : ℕ) {b : Bool} → b ≡ p a → b ≡ false → [] ≡ keep p (a ∷ [])
unfolding keep
keep-no p a e t = ap (λ (b : Bool). cond b (a ∷ []) []) (sym (sym e ∙ t))

pub keep_one : (p : ℕ → Bool) (a : ℕ) {b : Bool} → b ≡ p a → b ≡ true → a ∷ [] ≡ keep p (a ∷ [])
unfolding keep
keep_one p a e t = ap (λ (b : Bool). cond b (a ∷ []) []) (sym (sym e ∙ t))
