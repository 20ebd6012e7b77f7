-- The forms in which the code has Ch, Maj, Σ₀ and Σ₁ of 4.1.2: each is equal to the definition at all words.
use Rattle.std.proofs.Common.{◌≡◌, ℕ, zero, suc, ◌+◌, ◌-◌, ◌*◌, ◌/◌, ◌%◌, ◌^◌, ◌<◌, ◌≤◌, sym, refl, ap, ◌∙◌, subst, ap₂, lt_of_le_of_lt, add-zero, add_assoc, mod-lt, mod-eq_of_lt, zero-lt-suc, mul_assoc, add-mul, add_comm, arith, pow_pos, pow-add, shr-shr, shr_lt}
use native.Mathlib.Nat.{mul-mod_left}
use lib.Arith.{bin_ind}
use lib.Pow.{shl-shr, shr_le, split, high, low, mod-pow-add}
use lib.Bits.{bit_and, bit_or, bit_xor, and_comm, xor_comm, and_shr, and_mod, xor_shr, xor_mod, and_self, xor_self, and_mask, xor_add_and, or_lt, or_shifted_r, xor_block, xor_lt}
use Rattle.sha256_fips180.specs.Fips180.{◌⊕◌, complement, ROTR, Ch, Maj}

-- two numbers are equal if their last digits are, and what stands before these
by_digits : {m n : ℕ} → m / 2 ≡ n / 2 → m % 2 ≡ n % 2 → m ≡ n
by_digits h l = omega arith

-- a binary digit is 0 or 1
digit : (P : ℕ → Type 0) → P 0 → P 1 → (n : ℕ) → P (n % 2)
digit P z o n = go (n % 2) (mod-lt n (zero-lt-suc 1))
  where
    go : (d : ℕ) → d < 2 → P d
    go zero h = z
    go (suc zero) h = o
    go (suc (suc d)) h = absurd (omega arith)

three-digits
    : (P : ℕ → ℕ → ℕ → Type 0)
    → P 0 0 0 → P 0 0 1 → P 0 1 0 → P 0 1 1 → P 1 0 0 → P 1 0 1 → P 1 1 0 → P 1 1 1
    → (a b c : ℕ) → P (a % 2) (b % 2) (c % 2)
three-digits P p q r s t u v w a b c =
    digit (λ (x : ℕ). P x (b % 2) (c % 2))
    (digit (λ (y : ℕ). P 0 y (c % 2)) (digit (P 0 0) p q c) (digit (P 0 1) r s c) b)
    (digit (λ (y : ℕ). P 1 y (c % 2)) (digit (P 1 0) t u c) (digit (P 1 1) v w c) b)
    a

-- the operations work digit by digit
xor-before : (a b : ℕ) → (a ⊕ b) / 2 ≡ a / 2 ⊕ b / 2
xor-before a b = xor_shr a b 1

xor-last : (a b : ℕ) → (a ⊕ b) % 2 ≡ a % 2 ⊕ b % 2
xor-last a b = xor_mod a b 1

and-before : (a b : ℕ) → bit_and a b / 2 ≡ bit_and (a / 2) (b / 2)
and-before a b = and_shr a b 1

and_last : (a b : ℕ) → bit_and a b % 2 ≡ bit_and (a % 2) (b % 2)
and_last a b = and_mod a b 1

xor_assoc : (a b c : ℕ) → a ⊕ b ⊕ c ≡ a ⊕ (b ⊕ c)
xor_assoc =
    bin_ind (λ (a : ℕ). (b c : ℕ) → a ⊕ b ⊕ c ≡ a ⊕ (b ⊕ c)) (λ b c. refl) (λ a ih b c.
    by_digits
    (simp xor-before (ih (b / 2) (c / 2)))
    (simp xor-last (three-digits (λ (x y z : ℕ). x ⊕ y ⊕ z ≡ x ⊕ (y ⊕ z)) refl refl refl refl refl refl refl refl a b c)))

and_xor : (a b c : ℕ) → bit_and a (b ⊕ c) ≡ bit_and a b ⊕ bit_and a c
and_xor =
    bin_ind (λ (a : ℕ). (b c : ℕ) → bit_and a (b ⊕ c) ≡ bit_and a b ⊕ bit_and a c) (λ b c. refl) (λ a ih b c.
    by_digits
    (simp (xor-before, and-before) (ih (b / 2) (c / 2)))
    (simp (xor-last, and_last)
    (three-digits (λ (x y z : ℕ). bit_and x (y ⊕ z) ≡ bit_and x y ⊕ bit_and x z) refl refl refl refl refl refl refl refl a b c)))

-- the same, from the right
xor-and : (a b c : ℕ) → bit_and (a ⊕ b) c ≡ bit_and a c ⊕ bit_and b c
xor-and a b c = cc (and_comm (a ⊕ b) c, and_xor c a b, and_comm c a, and_comm c b)

-- the complement of a word has every digit changed
all_ones : {x : ℕ} → x < 2 ^ 32 → bit_and x (2 ^ 32 - 1) ≡ x
all_ones {x} h = and_mask x 32 ∙ mod-eq_of_lt h

complement-xor : (x : ℕ) → x < 2 ^ 32 → complement x ≡ x ⊕ (2 ^ 32 - 1)
complement-xor x h = omega (arith, xor_add_and x (2 ^ 32 - 1), all_ones h)

-- Ch: the digit of z, changed where that of x is 1 and that of y differs
pub Ch-short : (x y z : ℕ) → x < 2 ^ 32 → z < 2 ^ 32 → z ⊕ bit_and x (y ⊕ z) ≡ Ch x y z
Ch-short x y z h l =
    cc (and_xor x y z, xor_comm z (bit_and x y ⊕ bit_and x z), xor_assoc (bit_and x y) (bit_and x z) z, negated)
  where
    negated : bit_and (complement x) z ≡ bit_and x z ⊕ z
    negated = cc (complement-xor x h, xor-and x (2 ^ 32 - 1) z, and_comm (2 ^ 32 - 1) z, all_ones l)

-- y is taken twice, and cancels
xor-cancel : (y a b : ℕ) → y ⊕ (a ⊕ (y ⊕ b)) ≡ a ⊕ b
xor-cancel y a b = cc (xor_assoc a y b, xor_comm a y, xor_assoc y a b, xor_assoc y y (a ⊕ b), xor_self y)

-- Maj: y's digit, changed where both others differ from it
pub Maj-short : (x y z : ℕ) → y ⊕ bit_and (x ⊕ y) (y ⊕ z) ≡ Maj x y z
Maj-short x y z =
    cc (xor-and x y (y ⊕ z), and_xor x y z, and_xor y y z, and_self y, xor-cancel y (bit_and x y ⊕ bit_and x z) (bit_and y z))

ROTR-lt : (n : ℕ) {x : ℕ} → x < 2 ^ 32 → ROTR n x < 2 ^ 32
ROTR-lt n {x} l = or_lt 32 (x / 2 ^ n) ((x * 2 ^ (32 - n)) % 2 ^ 32) (lt_of_le_of_lt (shr_le x n) l) (mod-lt (x * 2 ^ (32 - n)) (pow_pos 32))

-- a rotated word: its n low digits stand above the others
module _ (n : ℕ) (h : n ≤ 32) where
  low_up : (x : ℕ) → (x * 2 ^ (32 - n)) % 2 ^ 32 ≡ x % 2 ^ n * 2 ^ (32 - n)
  low_up x =
      let j = 32 - n in
      let e : n + j ≡ 32 = omega arith in
      ap (λ (w : ℕ). (x * 2 ^ j) % 2 ^ w) (sym e)
      ∙ mod-pow-add (x * 2 ^ j) n j
      ∙ ap₂ (λ (a b : ℕ). a % 2 ^ n * 2 ^ j + b) (shl-shr x j) (mul-mod_left x (2 ^ j))
      ∙ add-zero (x % 2 ^ n * 2 ^ j)

  rest_lt : {x : ℕ} → x < 2 ^ 32 → x / 2 ^ n < 2 ^ (32 - n)
  rest_lt {x} l =
      let e : 32 ≡ 32 - n + n = omega arith in
      shr_lt (32 - n) n (subst (λ (w : ℕ). x < 2 ^ w) e l)

  ROTR-parts : {x : ℕ} → x < 2 ^ 32 → ROTR n x ≡ x % 2 ^ n * 2 ^ (32 - n) + x / 2 ^ n
  ROTR-parts {x} l = ap (bit_or (x / 2 ^ n)) (low_up x) ∙ or_shifted_r (x % 2 ^ n) (32 - n) (x / 2 ^ n) (rest_lt l)

  ROTR-xor : {x y : ℕ} → x < 2 ^ 32 → y < 2 ^ 32 → ROTR n (x ⊕ y) ≡ ROTR n x ⊕ ROTR n y
  ROTR-xor {x} {y} l m =
      ROTR-parts (xor_lt 32 x y l m)
      ∙ ap₂ (λ (a b : ℕ). a * 2 ^ (32 - n) + b) (xor_mod x y n) (xor_shr x y n)
      ∙ sym (xor_block (32 - n) (x % 2 ^ n) (y % 2 ^ n) (x / 2 ^ n) (y / 2 ^ n) (rest_lt l) (rest_lt m))
      ∙ sym (ap₂ bit_xor (ROTR-parts l) (ROTR-parts m))

-- two rotations are one: x has the high digits a, then the m digits of b, then the n digits of c
ROTR-ROTR : (m n : ℕ) {x : ℕ} → m + n ≤ 32 → x < 2 ^ 32 → ROTR m (ROTR n x) ≡ ROTR (m + n) x
ROTR-ROTR m n {x} h l =
    ROTR-parts m (omega arith) (ROTR-lt n l)
    ∙ ap₂ (λ (p q : ℕ). p * 2 ^ (32 - m) + q)
    (ap (λ (p : ℕ). p % 2 ^ m) once ∙ low (c * 2 ^ j + a) m (mod-lt (x / 2 ^ n) (pow_pos m)))
    (ap (λ (p : ℕ). p / 2 ^ m) once ∙ high (c * 2 ^ j + a) m (mod-lt (x / 2 ^ n) (pow_pos m)))
    ∙ regrouped
    ∙ sym (ROTR-parts (m + n) h l ∙ ap₂ (λ (p q : ℕ). p * 2 ^ j + q) (mod-pow-add x m n) high_part)
  where
    j : ℕ
    j = 32 - (m + n)

    a : ℕ
    a = x / 2 ^ n / 2 ^ m

    b : ℕ
    b = x / 2 ^ n % 2 ^ m

    c : ℕ
    c = x % 2 ^ n

    once : ROTR n x ≡ (c * 2 ^ j + a) * 2 ^ m + b
    once =
        let e : 32 - n ≡ j + m = omega arith in
        ROTR-parts n (omega arith) l
        ∙ ap₂ (λ (p q : ℕ). c * 2 ^ p + q) e (sym (split (x / 2 ^ n) m))
        ∙ rw (pow-add 2 j m, add-mul, mul_assoc, add_assoc)

    high_part : x / 2 ^ (m + n) ≡ a
    high_part = ap (λ (p : ℕ). x / 2 ^ p) (add_comm m n) ∙ sym (shr-shr x n m)

    regrouped : b * 2 ^ (32 - m) + (c * 2 ^ j + a) ≡ (b * 2 ^ n + c) * 2 ^ j + a
    regrouped =
        let e : 32 - m ≡ n + j = omega arith in
        ap (λ (p : ℕ). b * 2 ^ p + (c * 2 ^ j + a)) e
        ∙ rw (pow-add 2 n j, add-mul, mul_assoc, add_assoc)

-- Σ₀ and Σ₁, with the rotations nested
pub nested
    : (l m n : ℕ) {x u v r : ℕ}
    → l + m + n ≤ 32
    → x < 2 ^ 32
    → u ≡ ROTR n x
    → v ≡ ROTR m (x ⊕ u)
    → r ≡ ROTR l (x ⊕ v)
    → r ≡ ROTR l x ⊕ ROTR (l + m) x ⊕ ROTR (l + m + n) x
nested l m n {x} h k i j o =
    let f = ROTR-lt n k in
    let g = xor_lt 32 x (ROTR n x) k f in
    cc (
      ROTR-xor l (omega arith) k (ROTR-lt m g),
      ROTR-ROTR l m (omega arith) g,
      ROTR-xor (l + m) (omega arith) k f,
      ROTR-ROTR (l + m) n h k,
      xor_assoc (ROTR l x) (ROTR (l + m) x) (ROTR (l + m + n) x),
    )
