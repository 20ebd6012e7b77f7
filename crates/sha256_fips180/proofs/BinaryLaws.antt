-- Bits: those of a number and of bytes, and the number that they are.
use Rattle.std.specs.Prelude.{ℕ, zero, suc, ◌+◌, ◌*◌, ◌/◌, ◌%◌, ◌^◌, ◌<◌, ◌≡◌, refl, List, [], ◌∷◌, ◌++◌, length, take, drop, replicate}
use Rattle.std.proofs.Common.{sym, ap, ap₂, ◌∙◌, append_assoc, append-nil, add-zero, add-suc, mul_assoc, pow-suc, div-one, add-one, arith, length-append, take_at, drop_at}
use Rattle.std.proofs.Math.Nat.{pow-succ', div-div-eq-div-mul}
use Rattle.std.proofs.lemmas.List.{replicate-append-replicate}
use Rattle.std.proofs.Math.Pow.{high, low, field, mod-mod-pow}
use Rattle.sha256_fips180.specs.Fips180.{big_endian}
use Rattle.sha256_fips180.specs.Standard.{AllBelow, binary, bits, number}

pub below-append : (n : ℕ) (xs ys : List ℕ) → AllBelow n xs → AllBelow n ys → AllBelow n (xs ++ ys)
below-append n [] ys a b = b
below-append n (x ∷ xs) ys a b = (a.0, below-append n xs ys a.1 b)

pub below-replicate : (n k x : ℕ) → x < n → AllBelow n (replicate k x)
below-replicate n zero x h = tt
below-replicate n (suc k) x h = (h, below-replicate n k x h)

pub below-big_endian : (k n : ℕ) → AllBelow 256 (big_endian k n)
unfolding big_endian
below-big_endian zero n = tt
below-big_endian (suc k) n = below-append 256 (big_endian k (n / 256)) _ (below-big_endian k (n / 256)) (omega arith, tt)

-- ---- the bits of a number

pub length-binary : (k n : ℕ) → length (binary k n) ≡ k
unfolding binary
length-binary zero n = refl
length-binary (suc k) n = rw (length-append, length-binary k (n / 2), add-one)

pub below-binary : (k n : ℕ) → AllBelow 2 (binary k n)
unfolding binary
below-binary zero n = tt
below-binary (suc k) n = below-append 2 (binary k (n / 2)) _ (below-binary k (n / 2)) (omega arith, tt)

-- the last bit counts once, and every other twice as much as without it
number-last : (p : List ℕ) (x : ℕ) → number (p ++ (x ∷ [])) ≡ 2 * number p + x
unfolding number
number-last [] x = omega arith
number-last (y ∷ p) x =
    let l : length (p ++ (x ∷ [])) ≡ suc (length p) = rw (length-append, add-one) in
    ap₂ (λ (n s : ℕ). y * 2 ^ n + s) l (number-last p x) ∙ rw (pow-suc, ← mul_assoc y (2 ^ length p) 2) (omega arith)

pub number-binary : (k n : ℕ) → n < 2 ^ k → number (binary k n) ≡ n
unfolding binary number
number-binary zero n h = omega arith
number-binary (suc k) n h =
    rw (number-last, number-binary k (n / 2) (omega (arith, pow-suc 2 k))) (omega arith)

pub number-below : (p : List ℕ) → AllBelow 2 p → number p < 2 ^ length p
unfolding number
number-below [] b = omega arith
number-below (zero ∷ p) b = omega (arith, pow-suc 2 (length p), number-below p b.1)
number-below (suc zero ∷ p) b = omega (arith, pow-suc 2 (length p), number-below p b.1)
number-below (suc (suc x) ∷ p) b = absurd (omega (arith, b.0))

-- bits of the same number and length are the same
pub number-unique : (p q : List ℕ) → AllBelow 2 p → AllBelow 2 q → length p ≡ length q → number p ≡ number q → p ≡ q
unfolding number
number-unique [] [] a b l e = refl
number-unique [] (y ∷ q) a b l e = absurd (omega arith)
number-unique (x ∷ p) [] a b l e = absurd (omega arith)
number-unique (x ∷ p) (y ∷ q) a b l e =
    let k : length p ≡ length q = omega arith in
    let i : number q < 2 ^ length p = rw k (number-below q b.1) in
    let f : x * 2 ^ length p + number p ≡ y * 2 ^ length p + number q = e ∙ rw k in
    let g : x ≡ y =
    sym (high x (length p) (number-below p a.1)) ∙ ap (λ (s : ℕ). s / 2 ^ length p) f ∙ high y (length p) i
    in
    let h : number p ≡ number q =
    sym (low x (length p) (number-below p a.1)) ∙ ap (λ (s : ℕ). s % 2 ^ length p) f ∙ low y (length p) i
    in
    ap₂ (λ (z : ℕ) (r : List ℕ). z ∷ r) g (number-unique p q a.1 b.1 k h)

-- ---- the bits of bytes

pub bits-append : (xs ys : List ℕ) → bits (xs ++ ys) ≡ bits xs ++ bits ys
unfolding bits
bits-append [] ys = refl
bits-append (x ∷ xs) ys =
    ap (λ (r : List ℕ). binary 8 x ++ r) (bits-append xs ys) ∙ sym (append_assoc (binary 8 x) (bits xs) (bits ys))

pub length-bits : (m : List ℕ) → length (bits m) ≡ 8 * length m
unfolding bits
length-bits [] = omega arith
length-bits (x ∷ m) = length-append (binary 8 x) (bits m) ∙ omega (arith, length-binary 8 x, length-bits m)

pub bits-zeros : (k : ℕ) → bits (replicate k 0) ≡ replicate (8 * k) 0
unfolding bits binary
bits-zeros zero = refl
bits-zeros (suc k) =
    let e : 8 + 8 * k ≡ 8 * suc k = omega arith in
    ap (λ (r : List ℕ). binary 8 0 ++ r) (bits-zeros k) ∙ replicate-append-replicate 8 (8 * k) 0
    ∙ ap (λ (n : ℕ). replicate n 0) e

-- the bits of a number, cut in two: the low k, and those above them
binary-cut : (j k n : ℕ) → binary (j + k) n ≡ binary j (n / 2 ^ k) ++ binary k (n % 2 ^ k)
unfolding binary
binary-cut j zero n = rw (add-zero, div-one, append-nil)
binary-cut j (suc k) n =
    let d : n / 2 / 2 ^ k ≡ n / 2 ^ suc k = div-div-eq-div-mul n 2 (2 ^ k) ∙ rw pow-succ' in
    let f : n / 2 % 2 ^ k ≡ n % 2 ^ suc k / 2 = sym (field n k 1) ∙ rw add-one in
    let l : n % 2 ≡ n % 2 ^ suc k % 2 = sym (mod-mod-pow n k 1) ∙ rw add-one in
    ap (λ (i : ℕ). binary i n) (add-suc j k)
    ∙ ap (λ (p : List ℕ). p ++ (n % 2 ∷ [])) (binary-cut j k (n / 2))
    ∙ append_assoc (binary j (n / 2 / 2 ^ k)) (binary k (n / 2 % 2 ^ k)) (n % 2 ∷ [])
    ∙ rw (d, f, l)

pub bits-big_endian : (k n : ℕ) → bits (big_endian k n) ≡ binary (8 * k) n
unfolding bits binary big_endian
bits-big_endian zero n = refl
bits-big_endian (suc k) n =
    let e : 8 * suc k ≡ 8 * k + 8 = omega arith in
    bits-append (big_endian k (n / 256)) (n % 256 ∷ [])
    ∙ ap₂ (λ (r s : List ℕ). r ++ s) (bits-big_endian k (n / 256)) refl
    ∙ sym (rw (e, binary-cut (8 * k) 8 n))

pub bits-unique : (xs ys : List ℕ) → AllBelow 256 xs → AllBelow 256 ys → bits xs ≡ bits ys → xs ≡ ys
unfolding bits
bits-unique [] [] a b e = refl
bits-unique [] (y ∷ ys) a b e = absurd (omega (arith, ap length e, length-bits (y ∷ ys)))
bits-unique (x ∷ xs) [] a b e = absurd (omega (arith, ap length e, length-bits (x ∷ xs)))
bits-unique (x ∷ xs) (y ∷ ys) a b e =
    let first : binary 8 x ≡ binary 8 y =
    sym (take_at (binary 8 x) (bits xs) 8 (length-binary 8 x)) ∙ ap (take 8) e ∙ take_at (binary 8 y) (bits ys) 8 (length-binary 8 y)
    in
    let others : bits xs ≡ bits ys =
    sym (drop_at (binary 8 x) (bits xs) 8 (length-binary 8 x)) ∙ ap (drop 8) e ∙ drop_at (binary 8 y) (bits ys) 8 (length-binary 8 y)
    in
    ap₂ (λ (z : ℕ) (r : List ℕ). z ∷ r) (sym (number-binary 8 x a.0) ∙ ap number first ∙ number-binary 8 y b.0)
    (bits-unique xs ys a.1 b.1 others)
