-- The laws of sets of places.
use Rattle.std.specs.Prelude.{ℕ, zero, suc, ◌+◌, ◌-◌, ◌/◌, ◌%◌, ◌^◌, ◌≤◌, ◌<◌, ◌≡◌, refl, ◌⊎◌, Bool, true, false, cond, ◌||◌, eqb, ltb}
use Rattle.std.proofs.Common.{arith, lt_of_lt_of_le, zero-lt-suc, one-mul, mod-lt, pow-suc, eq-or-lt_of_le, lt_of_not-le, lt-suc_self, zero-add, add_comm, div-lt_iff_lt-mul, one-add, sym, ◌∙◌, ap, subst, inl, inr, ⊎_elim, pow_pos, pow_mono, pow-add, shr_lt, eqb-true, eq-eqb, ne_eqb, lt-ltb, le-ltb, ltb-true, ltb-false}
use Rattle.std.proofs.Math.Nat.{div_self, zero-div, div-eq_of_lt, mul-mod_left}
use Rattle.std.proofs.Math.Arith.{lt-one}
use Rattle.std.proofs.Math.Pow.{pow-lt, split, field, mod-mod-pow}
use Rattle.std.proofs.lemmas.Nat.{shl-shr, or_shr, or_mod, or_lt, ones_cat}
use Rattle.std.specs.Int.Bits.{bit_or}
use Rattle.std.specs.Int.Count.{ones, ones_in}
use Rattle.bytes_order.specs.BoolLaws.{bool_cases, true-false}
use Rattle.bitset.specs.Below.{count_below}
use Rattle.bitset.specs.BelowLaws.{count_below-cong, count_below-lt}
use Rattle.bitset.specs.Bits.{has, including, including_below, join, within, count}

-- a binary digit is 0 or 1
digit : (P : ℕ → Type 0) → P 0 → P 1 → (n : ℕ) → P (n % 2)
digit P z o n = go (n % 2) (mod-lt n (zero-lt-suc 1))
  where
    go : (d : ℕ) → d < 2 → P d
    go zero h = z
    go (suc zero) h = o
    go (suc (suc d)) h = absurd (omega arith)

lt-or-le : (a b : ℕ) → (a < b) ⊎ (b ≤ a)
lt-or-le a b = ⊎_elim (λ (e : ltb a b ≡ true). inl (ltb-true a b e)) (λ (e : ltb a b ≡ false). inr (ltb-false a b e)) (bool_cases (ltb a b))

-- a word of n digits has no place at or above n
pub has-beyond : {w n k : ℕ} → w < 2 ^ n → n ≤ k → has w k ≡ false
unfolding has
has-beyond h l = ap (λ (m : ℕ). eqb (m % 2) 1) (div-eq_of_lt (lt_of_lt_of_le h (pow_mono l)))

pub has-none : (k : ℕ) → has 0 k ≡ false
unfolding has
has-none k = ap (λ (m : ℕ). eqb (m % 2) 1) (zero-div (2 ^ k))

-- the places of w below n
pub has-below : (w n k : ℕ) → k < n → has (w % 2 ^ n) k ≡ has w k
unfolding has
has-below w n k h =
    let d = n - suc k in
    let e : n ≡ d + 1 + k = omega arith in
    ap (λ (m : ℕ). eqb (w % 2 ^ m / 2 ^ k % 2) 1) e ∙ ap (λ (m : ℕ). eqb (m % 2) 1) (field w (d + 1) k) ∙ ap (λ (m : ℕ). eqb m 1) (mod-mod-pow (w / 2 ^ k) d 1)

pub has_join : (v w k : ℕ) → has (join v w) k ≡ (has v k || has w k)
unfolding has join
has_join v w k =
    ap (λ (m : ℕ). eqb (m % 2) 1) (or_shr v w k) ∙ ap (λ (m : ℕ). eqb m 1) (or_mod (v / 2 ^ k) (w / 2 ^ k) 1)
    ∙ digit (λ (x : ℕ). eqb (bit_or x (w / 2 ^ k % 2)) 1 ≡ (eqb x 1 || eqb (w / 2 ^ k % 2) 1))
    refl
    (digit (λ (y : ℕ). eqb (bit_or 1 y) 1 ≡ true) refl refl (w / 2 ^ k))
    (v / 2 ^ k)

-- the set of one place
pub has-single : (k j : ℕ) → has (2 ^ k) j ≡ eqb j k
unfolding has
has-single k j =
    ⊎_elim
    (λ (l : j < k). below l)
    (λ (l : k ≤ j).
    ⊎_elim
    (λ (e : k ≡ j). ap (λ (m : ℕ). eqb (2 ^ m / 2 ^ j % 2) 1) e ∙ ap (λ (m : ℕ). eqb (m % 2) 1) (div_self (pow_pos j)) ∙ sym (eq-eqb j k (sym e)))
    (λ (g : k < j). has-beyond (pow-lt (lt-suc_self k)) g ∙ sym (ne_eqb j k (λ (e : j ≡ k). omega arith)))
    (eq-or-lt_of_le l))
    (lt-or-le j k)
  where
    below : j < k → eqb (2 ^ k / 2 ^ j % 2) 1 ≡ eqb j k
    below l =
        let d = k - suc j in
        let e : k ≡ suc d + j = omega arith in
        ap (λ (m : ℕ). eqb (2 ^ m / 2 ^ j % 2) 1) e ∙ ap (λ (m : ℕ). eqb (m / 2 ^ j % 2) 1) (pow-add 2 (suc d) j)
        ∙ ap (λ (m : ℕ). eqb (m % 2) 1) (shl-shr (2 ^ suc d) j ∙ pow-suc 2 d)
        ∙ ap (λ (m : ℕ). eqb m 1) (mul-mod_left (2 ^ d) 2)
        ∙ sym (ne_eqb j k (λ (q : j ≡ k). omega arith))

-- a place is added, where there are n places, if it is below n
pub included : (n w k : ℕ) → k < n → including_below n w k ≡ including w k
unfolding including_below
included n w k h = ap (λ (b : Bool). cond b (including w k) w) (lt-ltb k n h)

pub not-included : (n w k : ℕ) → n ≤ k → including_below n w k ≡ w
unfolding including_below
not-included n w k h = ap (λ (b : Bool). cond b (including w k) w) (le-ltb k n h)

pub has-including : (w k j : ℕ) → has (including w k) j ≡ (has w j || eqb j k)
unfolding including join
has-including w k j = has_join w (2 ^ k) j ∙ ap (λ (b : Bool). has w j || b) (has-single k j)

-- within: no place at or above n, and no digit
pub within→lt : (w n : ℕ) → within w n ≡ true → w < 2 ^ n
unfolding within
within→lt w n e =
    subst (λ (m : ℕ). w < m) (one-mul (2 ^ n)) ((div-lt_iff_lt-mul (pow_pos n)).0 (subst (λ (m : ℕ). m < 1) (sym (eqb-true (w / 2 ^ n) 0 e)) (zero-lt-suc 0)))

pub lt→within : {w : ℕ} (n : ℕ) → w < 2 ^ n → within w n ≡ true
unfolding within
lt→within {w} n h = eq-eqb (w / 2 ^ n) 0 (div-eq_of_lt h)

pub within→ : (w n : ℕ) → within w n ≡ true → (k : ℕ) → n ≤ k → has w k ≡ false
within→ w n e k l = has-beyond (within→lt w n e) l

pub within_more : (w n m : ℕ) → n ≤ m → within w n ≡ true → within w m ≡ true
within_more w n m l e = lt→within m (lt_of_lt_of_le (within→lt w n e) (pow_mono l))

pub within_none : (n : ℕ) → within 0 n ≡ true
within_none n = lt→within n (pow_pos n)

pub within-join : (v w n : ℕ) → within v n ≡ true → within w n ≡ true → within (join v w) n ≡ true
unfolding join
within-join v w n a b = lt→within n (or_lt n v w (within→lt v n a) (within→lt w n b))

pub within-including : (w n k : ℕ) → k < n → within w n ≡ true → within (including w k) n ≡ true
unfolding including join
within-including w n k l e = within-join w (2 ^ k) n e (lt→within n (pow-lt l))

-- count
top_digit : (a c : ℕ) → a < 2 → ones a + c ≡ cond (eqb (a % 2) 1) (c + 1) c
unfolding ones ones_in
top_digit zero c h = zero-add c
top_digit (suc zero) c h = add_comm 1 c
top_digit (suc (suc a)) c h = absurd (omega arith)

-- the places below n are counted, for a set that has no other
pub count-below : (n : ℕ) {w : ℕ} → w < 2 ^ n → count w ≡ count_below n (has w)
unfolding count count_below has ones ones_in
count-below zero h = ap ones (lt-one h)
count-below (suc n) {w} h =
    ap ones (sym (split w n)) ∙ ones_cat n (w / 2 ^ n) (w % 2 ^ n) (mod-lt w (pow_pos n))
    ∙ ap (λ (m : ℕ). ones (w / 2 ^ n) + m) (count-below n (mod-lt w (pow_pos n)) ∙ count_below-cong n (has (w % 2 ^ n)) (has w) (has-below w n))
    ∙ top_digit (w / 2 ^ n) (count_below n (has w)) (shr_lt 1 n (subst (λ (m : ℕ). w < 2 ^ m) (sym (one-add n)) h))

pub count_within : (w n : ℕ) → within w n ≡ true → count w ≡ count_below n (has w)
count_within w n e = count-below n (within→lt w n e)

-- a proper subset has fewer places
pub count-lt : (n : ℕ) {v w : ℕ} → v < 2 ^ n → w < 2 ^ n → ((k : ℕ) → k < n → has v k ≡ true → has w k ≡ true)
    → (k : ℕ) → has v k ≡ false → has w k ≡ true → count v < count w
count-lt n {v} {w} a b f k c d =
    omega (arith, count-below n a, count-below n b, count_below-lt n (has v) (has w) f k (lt_of_not-le (λ (g : n ≤ k). true-false d (has-beyond b g))) c d)
