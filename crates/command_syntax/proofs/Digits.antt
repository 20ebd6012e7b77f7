-- The digits of a line: their values, the test that all are digits, and the bytes spelled so far.
use Prim.Native.Nat.{ℕ, suc, ◌+◌, ◌-◌, ◌*◌, ◌<◌}
use native.Mathlib.Omega.{arith}
use native.Mathlib.Numerals.{add-one}
use mathlib.Core.Path.{◌≡◌, refl, sym, ◌∙◌, ap, ap₂}
use mathlib.Core.List.{List, [], ◌∷◌, ◌++◌}
use Rattle.std.specs.Prelude.{Option, None, Some, is_some, unwrap_or}
use mathlib.Core.Bool.{Bool, true, false, cond, ◌&&◌}
use lib.ListN.{length, get_or, set, take, drop, length-drop}
use lib.Seq.{take-suc, take-suc-set, take-add, drop-cons, drop-drop, get_or-take, get_or-drop, length-take-le}
use lib.Dec.{leb}
use borrow.Author.Tests.{leb-true}
use Rattle.bytes_order.specs.BoolLaws.{and-true→}
use Rattle.bytes_order.specs.Member.{all}
use Rattle.bytes_order.specs.MemberLaws.{all→∈, get_or-∈}
use Rattle.command_syntax.specs.Syntax.{digit_of, unhex}
use Rattle.command_syntax.specs.Line.{is_digit, digit_value, Spells}
use Rattle.command_syntax.specs.LineLaws.{None≢Some, same-some, unhex-more, unhex-begins, unhex-digits}

-- the value of a digit
pub digit-small : (c : ℕ) → digit_value c < 16
unfolding digit_of
digit-small c = step (leb 48 c && leb c 57) (leb 97 c && leb c 102) refl refl
  where
    step : (p q : Bool) → (leb 48 c && leb c 57) ≡ p → (leb 97 c && leb c 102) ≡ q
        → unwrap_or (cond p (Some (c - 48)) (cond q (Some (c - 87)) None)) 0 < 16
    step true q e f = let h = leb-true c 57 (and-true→ (leb 48 c) (leb c 57) e).1 in omega arith
    step false true e f = let h = leb-true c 102 (and-true→ (leb 97 c) (leb c 102) f).1 in omega arith
    step false false e f = omega arith

-- .. as it is asked for
pub value : (c v : ℕ) {o : Option ℕ} → o ≡ digit_of c → v ≡ unwrap_or o 0 → v ≡ digit_value c
value c v e f = f ∙ ap (λ (o : Option ℕ). unwrap_or o 0) e

all_append : {A : Type 0} (p : A → Bool) (xs ys : List A) → all p (xs ++ ys) ≡ (all p xs && all p ys)
unfolding all
all_append p [] ys = refl
all_append p (x ∷ xs) ys = ap (λ (b : Bool). p x && b) (all_append p xs ys) ∙ and_assoc (p x) (all p xs) (all p ys)
  where
    and_assoc : (a b c : Bool) → (a && (b && c)) ≡ ((a && b) && c)
    and_assoc true b c = refl
    and_assoc false b c = refl

and_last : (a b : Bool) → (a && (b && true)) ≡ (a && b)
and_last true true = refl
and_last true false = refl
and_last false b = refl

-- one byte more is tested
pub digits-next : (xs : List ℕ) (i : ℕ) {d : Bool} → i < length xs → d ≡ all is_digit (take i xs)
    → (d && is_digit (get_or xs i 0)) ≡ all is_digit (take (i + 1) xs)
unfolding all
digits-next xs i {d} h e =
    ap (λ (b : Bool). b && is_digit (get_or xs i 0)) e
    ∙ sym (and_last (all is_digit (take i xs)) (is_digit (get_or xs i 0)))
    ∙ sym (all_append is_digit (take i xs) (get_or xs i 0 ∷ []))
    ∙ ap (all is_digit) (sym (take-suc xs i 0 h))
    ∙ ap (λ (n : ℕ). all is_digit (take n xs)) (sym (add-one i))

-- two digits more spell a byte more
unhex-last : (xs : List ℕ) {bs : List ℕ} (x y : ℕ) → is_digit x ≡ true → is_digit y ≡ true → unhex xs ≡ Some bs
    → unhex (xs ++ (x ∷ y ∷ [])) ≡ Some (bs ++ ((16 * digit_value x + digit_value y) ∷ []))
unfolding unhex
unhex-last [] x y p q e =
    unhex-more x y [] p q refl
    ∙ ap (λ (bs : List ℕ). Some (bs ++ ((16 * digit_value x + digit_value y) ∷ []))) (same-some e)
unhex-last (a ∷ []) x y p q e = absurd (None≢Some e)
unhex-last (a ∷ b ∷ zs) x y p q e =
    let f = unhex-begins a b zs e in
    let last = (16 * digit_value x + digit_value y) ∷ [] in
    unhex-more a b (zs ++ (x ∷ y ∷ [])) f.high f.low (unhex-last zs x y p q f.follows)
    ∙ ap (λ (bs : List ℕ). Some (bs ++ last)) (sym f.whole)

-- the digits of a line that spells n bytes: the two of byte i, and the bytes that are spelled with them
module _ (line : List ℕ) (n : ℕ) (s : Spells line n) (i : ℕ) (h : i < n) where
  spelled-digit : (k : ℕ) → k < 2 * n → is_digit (get_or line (7 + k) 0) ≡ true
  spelled-digit k g =
      let xs = take (2 * n) (drop 7 line) in
      let l : length xs ≡ 2 * n = length-take-le (2 * n) (drop 7 line) (omega (arith, length-drop 7 line, s.room)) in
      ap is_digit (sym (get_or-drop 7 line k 0) ∙ sym (get_or-take (2 * n) (drop 7 line) k 0 g))
      ∙ all→∈ is_digit xs (unhex-digits xs s.digits) (get_or xs k 0) (get_or-∈ xs k 0 (omega arith))

  high_digit : is_digit (get_or line (7 + 2 * i) 0) ≡ true
  high_digit = spelled-digit (2 * i) (omega arith)

  low_digit : is_digit (get_or line (8 + 2 * i) 0) ≡ true
  low_digit =
      let e : 8 + 2 * i ≡ 7 + (2 * i + 1) = omega arith in
      ap (λ (k : ℕ). is_digit (get_or line k 0)) e ∙ spelled-digit (2 * i + 1) (omega arith)

  -- the two digits, as they stand in the line
  two-more : take (2 * (i + 1)) (drop 7 line) ≡ take (2 * i) (drop 7 line) ++ (get_or line (7 + 2 * i) 0 ∷ get_or line (8 + 2 * i) 0 ∷ [])
  two-more =
      let m = 7 + 2 * i in
      let e : 2 * (i + 1) ≡ 2 * i + 2 = omega arith in
      let k : suc m ≡ 8 + 2 * i = omega arith in
      let d : drop m line ≡ get_or line m 0 ∷ get_or line (suc m) 0 ∷ drop (suc (suc m)) line =
      drop-cons line m 0 (omega (arith, s.room))
      ∙ ap (λ (x : List ℕ). get_or line m 0 ∷ x) (drop-cons line (suc m) 0 (omega (arith, s.room))) in
      ap (λ (j : ℕ). take j (drop 7 line)) e
      ∙ take-add (2 * i) 2 (drop 7 line)
      ∙ ap (λ (x : List ℕ). take (2 * i) (drop 7 line) ++ take 2 x) (drop-drop (2 * i) 7 line ∙ d)
      ∙ ap (λ (j : ℕ). take (2 * i) (drop 7 line) ++ (get_or line m 0 ∷ get_or line j 0 ∷ [])) k

  pub spelled-next : (update : List ℕ) {v w : ℕ} → i < length update
      → v ≡ digit_value (get_or line (7 + 2 * i) 0) → w ≡ digit_value (get_or line (8 + 2 * i) 0)
      → unhex (take (2 * i) (drop 7 line)) ≡ Some (take i update)
      → unhex (take (2 * (i + 1)) (drop 7 line)) ≡ Some (take (i + 1) (set update i (16 * v + w)))
  spelled-next update {v} {w} g e f u =
      ap unhex two-more
      ∙ unhex-last (take (2 * i) (drop 7 line)) (get_or line (7 + 2 * i) 0) (get_or line (8 + 2 * i) 0) high_digit low_digit u
      ∙ ap₂ (λ (a b : ℕ). Some (take i update ++ ((16 * a + b) ∷ []))) (sym e) (sym f)
      ∙ ap Some (sym (take-suc-set update i (16 * v + w) g) ∙ ap (λ (j : ℕ). take j (set update i (16 * v + w))) (sym (add-one i)))
