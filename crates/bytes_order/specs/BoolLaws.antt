-- Tests by cases.
use Rattle.std.specs.Prelude.{◌≡◌, refl, ◌⊎◌, Bool, true, false, ◌&&◌, ◌||◌}
use Rattle.std.proofs.Common.{sym, ◌∙◌, ap, inl, inr, true≢false}
use Rattle.std.proofs.lemmas.Bool.{false≢true}

pub bool_cases : (b : Bool) → (b ≡ true) ⊎ (b ≡ false)
bool_cases true = inl refl
bool_cases false = inr refl

pub true-false : {b : Bool} → b ≡ true → b ≡ false → ⊥
true-false p q = true≢false (sym p ∙ q)

pub not-true→false : (b : Bool) → (b ≡ true → ⊥) → b ≡ false
not-true→false true h = absurd (h refl)
not-true→false false h = refl

-- two tests that pass together are equal
pub test-ext : (a b : Bool) → (a ≡ true → b ≡ true) → (b ≡ true → a ≡ true) → a ≡ b
test-ext true b f g = sym (f refl)
test-ext false true f g = g refl
test-ext false false f g = refl

pub or-true→ : (a b : Bool) → (a || b) ≡ true → (a ≡ true) ⊎ (b ≡ true)
or-true→ true b e = inl refl
or-true→ false b e = inr e

pub or_left : (a b : Bool) → a ≡ true → (a || b) ≡ true
or_left true b e = refl
or_left false b e = absurd (false≢true e)

pub or_right : (a b : Bool) → b ≡ true → (a || b) ≡ true
or_right true b e = refl
or_right false b e = e

pub or-false→ : (a b : Bool) → (a || b) ≡ false → (a ≡ false) × (b ≡ false)
or-false→ true b e = absurd (true≢false e)
or-false→ false b e = (refl, e)

pub and-true→ : (a b : Bool) → (a && b) ≡ true → (a ≡ true) × (b ≡ true)
and-true→ true b e = (refl, e)
and-true→ false b e = absurd (false≢true e)

pub and-true : (a b : Bool) → a ≡ true → b ≡ true → (a && b) ≡ true
and-true true b p q = q
and-true false b p q = absurd (false≢true p)

pub and-false-right : (a : Bool) {b : Bool} → b ≡ false → (a && b) ≡ false
and-false-right true e = e
and-false-right false e = refl

-- both tests agree, the second where the first passes
pub and-agrees : (a : Bool) {a' b b' : Bool} → a ≡ a' → (a' ≡ true → b ≡ b') → (a && b) ≡ (a' && b')
and-agrees true {a'} {b} {b'} e h = step a' e h
  where
    step : (c : Bool) → true ≡ c → (c ≡ true → b ≡ b') → b ≡ (c && b')
    step true p g = g refl
    step false p g = absurd (false≢true (sym p))
and-agrees false {a'} {b} {b'} e h = ap (λ (c : Bool). c && b') e
