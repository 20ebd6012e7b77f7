-- Digits as text: no digit is a separator, hexadecimal digits give back their bytes and decimal ones their number, how long the digits are, and the digits one
-- after another.
use Rattle.std.specs.Prelude.{ℕ, zero, suc, ◌+◌, ◌*◌, ◌/◌, ◌%◌, ◌-◌, ◌^◌, ◌≤◌, ◌<◌, ◌≡◌, refl, Bool, true, false, cond, length, get_or, drop, ltb}
use Rattle.std.proofs.Common.{add-one, arith, sym, ◌∙◌, ap, subst, ⊎_elim, length-append, drop_of_length-le, drop-cons, ltb-true, ltb-false, lt-ltb, le-ltb}
use mathlib.Core.List.Memᴰ
use mathlib.Core.List.{List, [], ◌∷◌, ◌++◌, nil≢cons, cons≢nil, head-eq_of_cons-eq, tail-eq_of_cons-eq}
use Rattle.bytes_order.specs.BoolLaws.{bool_cases}
use Rattle.bytes_order.specs.Member.{◌∈◌, concat_map}
use Rattle.bytes_order.specs.MemberLaws.{∈-cases, append-∈}
use Rattle.bytes_ascii.specs.Ascii.{digit, hex_byte, hex, decimal_in, decimal}

-- bytes that are digits or letters: above every bracket, space and newline
abbrev pub Digits : List ℕ → Type 0
Digits bs = (b : ℕ) → b ∈ bs → 48 ≤ b

pub digits-cons : {b : ℕ} {bs : List ℕ} → 48 ≤ b → Digits bs → Digits (b ∷ bs)
digits-cons {b} {bs} h d c m = ⊎_elim (λ (e : c ≡ b). subst (λ (n : ℕ). 48 ≤ n) (sym e) h) (λ (k : c ∈ bs). d c k) (∈-cases m)

pub digits-nil : Digits []
digits-nil c m = absurd (Memᴰ.not-nil m)

digits_append : {bs cs : List ℕ} → Digits bs → Digits cs → Digits (bs ++ cs)
digits_append {bs} {cs} d e b m = ⊎_elim (λ (k : b ∈ bs). d b k) (λ (k : b ∈ cs). e b k) (append-∈ bs m)

-- one digit
digit-large : (n : ℕ) → 48 ≤ digit n
unfolding digit
digit-large n = step (ltb n 10)
  where
    step : (t : Bool) → 48 ≤ cond t (48 + n) (87 + n)
    step true = omega arith
    step false = omega arith

pub digit-small : (n : ℕ) → n < 16 → digit n ≤ 102
unfolding digit
digit-small n h = step (ltb n 10) refl
  where
    step : (t : Bool) → ltb n 10 ≡ t → cond t (48 + n) (87 + n) ≤ 102
    step true e = let k : n < 10 = ltb-true n 10 e in omega arith
    step false e = omega arith

digit-injective : (m n : ℕ) → digit m ≡ digit n → m ≡ n
unfolding digit
digit-injective m n e = step (ltb m 10) (ltb n 10) refl refl e
  where
    step : (s t : Bool) → ltb m 10 ≡ s → ltb n 10 ≡ t → cond s (48 + m) (87 + m) ≡ cond t (48 + n) (87 + n) → m ≡ n
    step true true p q e = omega arith
    step true false p q e = let h : m < 10 = ltb-true m 10 p in omega arith
    step false true p q e = let h : n < 10 = ltb-true n 10 q in omega arith
    step false false p q e = omega arith

-- hexadecimal digits give back their bytes
pub hex-injective : (bs cs : List ℕ) → hex bs ≡ hex cs → bs ≡ cs
unfolding hex concat_map hex_byte
hex-injective [] [] e = refl
hex-injective [] (c ∷ cs) e = absurd (nil≢cons e)
hex-injective (b ∷ bs) [] e = absurd (cons≢nil e)
hex-injective (b ∷ bs) (c ∷ cs) e = λ i. byte i ∷ hex-injective bs cs (tail-eq_of_cons-eq (tail-eq_of_cons-eq e)) i
  where
    byte : b ≡ c
    byte =
        let p : b / 16 ≡ c / 16 = digit-injective (b / 16) (c / 16) (head-eq_of_cons-eq e) in
        let q : b % 16 ≡ c % 16 = digit-injective (b % 16) (c % 16) (head-eq_of_cons-eq (tail-eq_of_cons-eq e)) in
        omega arith

pub hex-digits : (bs : List ℕ) → Digits (hex bs)
unfolding hex concat_map hex_byte
hex-digits [] = digits-nil
hex-digits (b ∷ bs) = digits-cons (digit-large (b / 16)) (digits-cons (digit-large (b % 16)) (hex-digits bs))

decimal_in-digits : (k n : ℕ) → Digits (decimal_in k n)
unfolding decimal_in
decimal_in-digits zero n = digits-nil
decimal_in-digits (suc k) n = step (ltb n 10) (decimal_in-digits k (n / 10))
  where
    step : (t : Bool) → Digits (decimal_in k (n / 10)) → Digits (cond t (digit n ∷ []) (decimal_in k (n / 10) ++ (digit (n % 10) ∷ [])))
    step true d = digits-cons (digit-large n) digits-nil
    step false d = digits_append d (digits-cons (digit-large (n % 10)) digits-nil)

pub decimal-digits : (n : ℕ) → Digits (decimal n)
unfolding decimal
decimal-digits n = decimal_in-digits 20 n

-- digits end at the first separator
pub cut : (xs ys : List ℕ) {s t : ℕ} {r r' : List ℕ} → Digits xs → Digits ys → s < 48 → t < 48 → xs ++ s ∷ r ≡ ys ++ t ∷ r' → (xs ≡ ys) × (r ≡ r')
cut [] [] d d' hs ht e = (refl, tail-eq_of_cons-eq e)
cut [] (y ∷ ys) {s} d d' hs ht e =
    let h : 48 ≤ y = d' y (Memᴰ.head refl) in
    let q : s ≡ y = head-eq_of_cons-eq e in
    absurd (omega arith)
cut (x ∷ xs) [] {s} {t} d d' hs ht e =
    let h : 48 ≤ x = d x (Memᴰ.head refl) in
    let q : x ≡ t = head-eq_of_cons-eq e in
    absurd (omega arith)
cut (x ∷ xs) (y ∷ ys) d d' hs ht e =
    let q : x ≡ y = head-eq_of_cons-eq e in
    let r = cut xs ys (λ b m. d b (Memᴰ.tail m)) (λ b m. d' b (Memᴰ.tail m)) hs ht (tail-eq_of_cons-eq e) in
    (λ i. q i ∷ r.0 i, r.1)

-- how many digits
pub hex-length : (bs : List ℕ) → length (hex bs) ≡ 2 * length bs
unfolding hex concat_map hex_byte
hex-length [] = refl
hex-length (b ∷ bs) = let e : length (hex bs) ≡ 2 * length bs = hex-length bs in omega arith

-- the digits one after another
pub hex-next : (bs : List ℕ) (i : ℕ) → i < length bs → hex_byte (get_or bs i 0) ++ hex (drop (i + 1) bs) ≡ hex (drop i bs)
unfolding hex concat_map
hex-next bs i h = rw add-one (sym (ap (concat_map hex_byte) (drop-cons bs i 0 h)))

pub hex-end : (bs : List ℕ) (i : ℕ) → length bs ≤ i → [] ≡ hex (drop i bs)
unfolding hex concat_map
hex-end bs i h = sym (ap (concat_map hex_byte) (drop_of_length-le bs {i = i} h))

-- decimal digits: one below ten; from ten on those of a tenth of the number, and one more
pub decimal_in-one : (k n : ℕ) → n < 10 → decimal_in (suc k) n ≡ digit n ∷ []
unfolding decimal_in
decimal_in-one k n h = ap (λ (t : Bool). cond t (digit n ∷ []) (decimal_in k (n / 10) ++ (digit (n % 10) ∷ []))) (lt-ltb n 10 h)

pub decimal_in-more : (k n : ℕ) → 10 ≤ n → decimal_in (suc k) n ≡ decimal_in k (n / 10) ++ (digit (n % 10) ∷ [])
unfolding decimal_in
decimal_in-more k n h = ap (λ (t : Bool). cond t (digit n ∷ []) (decimal_in k (n / 10) ++ (digit (n % 10) ∷ []))) (le-ltb n 10 h)

-- a number from ten on that is below 10 ^ k: k is at least two
pub two_digits : (k n : ℕ) → 10 ≤ n → n < 10 ^ k → 2 ≤ k
two_digits zero n h g = absurd (omega arith)
two_digits (suc zero) n h g = absurd (omega arith)
two_digits (suc (suc k)) n h g = omega arith

-- induction on the digits: what holds of a number below ten, and of one from ten on where it holds of its tenth, holds of every number below 10 ^ k
module _ (P : ℕ → ℕ → Type 0) (one : (k n : ℕ) → n < 10 → P (suc k) n) (more : (k n : ℕ) → 10 ≤ n → P k (n / 10) → P (suc k) n) where
  pub by_digits : (k n : ℕ) → 0 < k → n < 10 ^ k → P k n
  by_digits zero n z h = absurd (omega arith)
  by_digits (suc k) n z h =
      ⊎_elim
      (λ (e : ltb n 10 ≡ true). one k n (ltb-true n 10 e))
      (λ (e : ltb n 10 ≡ false).
      let g : 10 ≤ n = ltb-false n 10 e in
      let p : 2 ≤ suc k = two_digits (suc k) n g h in
      more k n g (by_digits k (n / 10) (omega arith) (omega arith)))
      (bool_cases (ltb n 10))

-- room for more digits than a number has changes nothing
decimal_in-room : (k n : ℕ) → 0 < k → n < 10 ^ k → decimal_in (suc k) n ≡ decimal_in k n
decimal_in-room =
    by_digits (λ k n. decimal_in (suc k) n ≡ decimal_in k n)
    (λ k n h. decimal_in-one (suc k) n h ∙ sym (decimal_in-one k n h))
    (λ k n h e. decimal_in-more (suc k) n h ∙ ap (λ (l : List ℕ). l ++ (digit (n % 10) ∷ [])) e ∙ sym (decimal_in-more k n h))

pub decimal-one : (n : ℕ) → n < 10 → digit n ∷ [] ≡ decimal n
unfolding decimal
decimal-one n h = sym (decimal_in-one 19 n h)

pub decimal-more : (n : ℕ) → 10 ≤ n → n < 10 ^ 20 → decimal n ≡ decimal (n / 10) ++ (digit (n % 10) ∷ [])
unfolding decimal
decimal-more n h g =
    decimal_in-more 19 n h ∙ ap (λ (l : List ℕ). l ++ (digit (n % 10) ∷ [])) (sym (decimal_in-room 19 (n / 10) (omega arith) (omega arith)))

-- how many digits
pub decimal-length : (k n : ℕ) → 0 < k → n < 10 ^ k → length (decimal n) ≤ k
unfolding decimal decimal_in
decimal-length k n z h =
    by_digits (λ k n. (j : ℕ) → length (decimal_in j n) ≤ k) one more k n z h 20
  where
    one : (k n : ℕ) → n < 10 → (j : ℕ) → length (decimal_in j n) ≤ suc k
    one k n h zero = omega arith
    one k n h (suc j) = let e = ap length (decimal_in-one j n h) in omega arith

    more : (k n : ℕ) → 10 ≤ n → ((j : ℕ) → length (decimal_in j (n / 10)) ≤ k) → (j : ℕ) → length (decimal_in j n) ≤ suc k
    more k n h i zero = omega arith
    more k n h i (suc j) =
        let e = ap length (decimal_in-more j n h) ∙ length-append (decimal_in j (n / 10)) (digit (n % 10) ∷ []) in
        omega (arith, i j)

-- a larger number has no fewer digits
decimal_in-longer : (k m n : ℕ) → m ≤ n → length (decimal_in k m) ≤ length (decimal_in k n)
unfolding decimal_in
decimal_in-longer zero m n h = omega arith
decimal_in-longer (suc k) m n h =
    step (ltb m 10) (ltb n 10) refl refl (decimal_in-longer k (m / 10) (n / 10) (omega arith))
    (length-append (decimal_in k (m / 10)) (digit (m % 10) ∷ [])) (length-append (decimal_in k (n / 10)) (digit (n % 10) ∷ []))
  where
    step : (a b : Bool) → ltb m 10 ≡ a → ltb n 10 ≡ b → length (decimal_in k (m / 10)) ≤ length (decimal_in k (n / 10))
        → length (decimal_in k (m / 10) ++ (digit (m % 10) ∷ [])) ≡ length (decimal_in k (m / 10)) + 1
        → length (decimal_in k (n / 10) ++ (digit (n % 10) ∷ [])) ≡ length (decimal_in k (n / 10)) + 1
        → length (cond a (digit m ∷ []) (decimal_in k (m / 10) ++ (digit (m % 10) ∷ []))) ≤ length (cond b (digit n ∷ []) (decimal_in k (n / 10) ++ (digit (n % 10) ∷ [])))
    step true true e f i p q = omega arith
    step true false e f i p q = omega arith
    step false true e f i p q = let x = ltb-false m 10 e in let y = ltb-true n 10 f in absurd (omega arith)
    step false false e f i p q = omega arith

pub decimal-longer : (m n : ℕ) → m ≤ n → length (decimal m) ≤ length (decimal n)
unfolding decimal
decimal-longer m n h = decimal_in-longer 20 m n h

-- the number that decimal digits spell, after digits that spell v
number_from : ℕ → List ℕ → ℕ
number_from v [] = v
number_from v (b ∷ bs) = number_from (10 * v + (b - 48)) bs

number-last : (v : ℕ) (bs : List ℕ) (b : ℕ) → number_from v (bs ++ (b ∷ [])) ≡ 10 * number_from v bs + (b - 48)
unfolding number_from
number-last v [] b = refl
number-last v (x ∷ bs) b = number-last (10 * v + (x - 48)) bs b

digit_value : (n : ℕ) → n < 10 → digit n - 48 ≡ n
unfolding digit
digit_value n h = let e = ap (λ (t : Bool). cond t (48 + n) (87 + n)) (lt-ltb n 10 h) in omega arith

-- decimal digits give back their number
number-decimal : (n : ℕ) → n < 10 ^ 20 → number_from 0 (decimal n) ≡ n
unfolding decimal number_from
number-decimal n = by_digits (λ k n. number_from 0 (decimal_in k n) ≡ n) one more 20 n (omega arith)
  where
    one : (k n : ℕ) → n < 10 → number_from 0 (decimal_in (suc k) n) ≡ n
    one k n h = let e = ap (number_from 0) (decimal_in-one k n h) in let d = digit_value n h in omega arith

    more : (k n : ℕ) → 10 ≤ n → number_from 0 (decimal_in k (n / 10)) ≡ n / 10 → number_from 0 (decimal_in (suc k) n) ≡ n
    more k n h e =
        let f = ap (number_from 0) (decimal_in-more k n h) ∙ number-last 0 (decimal_in k (n / 10)) (digit (n % 10)) in
        let d = digit_value (n % 10) (omega arith) in
        omega arith

pub decimal_injective : (m n : ℕ) → m < 10 ^ 20 → n < 10 ^ 20 → decimal m ≡ decimal n → m ≡ n
decimal_injective m n h g e = sym (number-decimal m h) ∙ ap (number_from 0) e ∙ number-decimal n g

-- examples; 48 is the digit 0

pub decimal-0 : decimal 0 ≡ 48 ∷ []
unfolding decimal decimal_in digit
decimal-0 = refl

pub decimal-7 : decimal 7 ≡ 55 ∷ []
unfolding decimal decimal_in digit
decimal-7 = refl

pub decimal-10 : decimal 10 ≡ 49 ∷ 48 ∷ []
unfolding decimal decimal_in digit
decimal-10 = refl

pub decimal-99 : decimal 99 ≡ 57 ∷ 57 ∷ []
unfolding decimal decimal_in digit
decimal-99 = refl

pub decimal-100 : decimal 100 ≡ 49 ∷ 48 ∷ 48 ∷ []
unfolding decimal decimal_in digit
decimal-100 = refl

pub decimal-255 : decimal 255 ≡ 50 ∷ 53 ∷ 53 ∷ []
unfolding decimal decimal_in digit
decimal-255 = refl

pub decimal-1024 : decimal 1024 ≡ 49 ∷ 48 ∷ 50 ∷ 52 ∷ []
unfolding decimal decimal_in digit
decimal-1024 = refl

pub decimal-9999 : decimal 9999 ≡ 57 ∷ 57 ∷ 57 ∷ 57 ∷ []
unfolding decimal decimal_in digit
decimal-9999 = refl
