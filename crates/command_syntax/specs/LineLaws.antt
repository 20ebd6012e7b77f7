-- The laws of lines in a buffer: the digits of one that reads as an offer spell its bytes.
use Rattle.std.specs.Prelude.{ℕ, ◌+◌, ◌-◌, ◌*◌, ◌≤◌, ◌≡◌, refl, List, [], ◌∷◌, Bool, true, false, cond, ◌&&◌, length, take, drop, leb, ltb}
use Rattle.std.proofs.Common.{arith, sym, ◌∙◌, ap, ap₂, length-drop, take-append-drop, length-take-le, leb-true, lt-ltb}
use Rattle.std.specs.Prelude.{Option, None, Some, is_some, unwrap_or}
use Rattle.bytes_order.specs.Member.{all}
use Rattle.bytes_order.specs.BoolLaws.{and-true→, and-true}
use Rattle.bytes_copy.specs.OverwrittenLaws.{slice-append}
use Rattle.command_syntax.specs.Syntax.{digit_of, byte_of, with_byte, unhex, max_line, max_offered, framed, read_line}
use Rattle.command_syntax.specs.Line.{is_digit, digit_value, line_in, Spells}

-- a digit reads as its value, and no other byte does
pub digit-read : (c : ℕ) → digit_of c ≡ cond (is_digit c) (Some (digit_value c)) None
digit-read c = read (digit_of c)
  where
    read : (o : Option ℕ) → o ≡ cond (is_some o) (Some (unwrap_or o 0)) None
    read None = refl
    read (Some n) = refl

-- two digits and what follows them
pub unhex-more : (x y : ℕ) (zs : List ℕ) {bs : List ℕ} → is_digit x ≡ true → is_digit y ≡ true → unhex zs ≡ Some bs
    → unhex (x ∷ y ∷ zs) ≡ Some ((16 * digit_value x + digit_value y) ∷ bs)
unfolding unhex byte_of with_byte
unhex-more x y zs p q e =
    ap₂ (λ (a b : Option ℕ). with_byte (byte_of a b) (unhex zs))
    (digit-read x ∙ ap (λ (b : Bool). cond b (Some (digit_value x)) None) p)
    (digit-read y ∙ ap (λ (b : Bool). cond b (Some (digit_value y)) None) q)
    ∙ ap (with_byte (Some (16 * digit_value x + digit_value y))) e

-- what is spelled is spelled by two digits first
pub record TwoDigitsFirst (x y : ℕ) (zs bs : List ℕ) : Type 0 where
  pub high : is_digit x ≡ true
  pub low : is_digit y ≡ true
  pub rest : List ℕ
  pub follows : unhex zs ≡ Some rest
  pub whole : bs ≡ (16 * digit_value x + digit_value y) ∷ rest

-- none is no list
pub None≢Some : {b : List ℕ} → None ≡ Some b → ⊥
None≢Some e = let z : ◌≡◌ {A = ℕ} 0 1 = cc in omega arith

pub same-some : {b c : List ℕ} → Some b ≡ Some c → b ≡ c
same-some e = cc

-- none is no list
pub none≢some : {b : List ℕ} → ◌≡◌ {A = Option (List ℕ)} None (Some b) → ⊥
none≢some e = cc

pub unhex-begins : (x y : ℕ) (zs : List ℕ) {bs : List ℕ} → unhex (x ∷ y ∷ zs) ≡ Some bs → TwoDigitsFirst x y zs bs
unfolding unhex byte_of with_byte
unhex-begins x y zs {bs} e =
    step (is_digit x) (is_digit y) (unhex zs) refl refl refl
    (ap₂ (λ (a b : Option ℕ). with_byte (byte_of a b) (unhex zs)) (sym (digit-read x)) (sym (digit-read y)) ∙ e)
  where
    step : (p q : Bool) (r : Option (List ℕ)) → is_digit x ≡ p → is_digit y ≡ q → unhex zs ≡ r
        → with_byte (byte_of (cond p (Some (digit_value x)) None) (cond q (Some (digit_value y)) None)) r ≡ Some bs → TwoDigitsFirst x y zs bs
    step true true (Some rest) p q r e =
        record { high = p; low = q; rest = rest; follows = r; whole = sym (same-some e) }
    step true true None p q r e = absurd (None≢Some e)
    step true false r p q f e = absurd (None≢Some e)
    step false q r p f g e = absurd (None≢Some e)

-- two digits spell a byte
pub unhex-length : (xs : List ℕ) {bs : List ℕ} → unhex xs ≡ Some bs → length xs ≡ 2 * length bs
unfolding unhex
unhex-length [] e = ap (λ (bs : List ℕ). 2 * length bs) (same-some e)
unhex-length (x ∷ []) e = absurd (None≢Some e)
unhex-length (x ∷ y ∷ zs) e =
    let b = unhex-begins x y zs e in
    omega (arith, unhex-length zs b.follows, ap length b.whole)

-- only digits spell
pub unhex-digits : (xs : List ℕ) {bs : List ℕ} → unhex xs ≡ Some bs → all is_digit xs ≡ true
unfolding unhex all
unhex-digits [] e = refl
unhex-digits (x ∷ []) e = absurd (None≢Some e)
unhex-digits (x ∷ y ∷ zs) e =
    let b = unhex-begins x y zs e in
    and-true (is_digit x) (all is_digit (y ∷ zs)) b.high (and-true (is_digit y) (all is_digit zs) b.low (unhex-digits zs b.follows))

-- digits, even in number, spell half as many bytes
pub unhex-whole : (m : ℕ) (xs : List ℕ) → length xs ≡ 2 * m → all is_digit xs ≡ true → (bs : List ℕ) × (unhex xs ≡ Some bs) × (length bs ≡ m)
unfolding unhex all
unhex-whole m [] e d = ([], refl, omega arith)
unhex-whole m (x ∷ []) e d = absurd (omega arith)
unhex-whole m (x ∷ y ∷ zs) e d =
    let h = and-true→ (is_digit x) (all is_digit (y ∷ zs)) d in
    let k = and-true→ (is_digit y) (all is_digit zs) h.1 in
    let w = unhex-whole (m - 1) zs (omega arith) k.1 in
    ((16 * digit_value x + digit_value y) ∷ w.0, unhex-more x y zs h.0 k.0 w.1, omega (arith, w.2))

-- a line that reads as an offer
pub record Offers (line b : List ℕ) : Type 0 where
  pub short : length line ≤ max_line
  pub frame : framed line ≡ true
  pub spelled : unhex (take (length line - 8) (drop 7 line)) ≡ Some b

pub framed-long : (line : List ℕ) → framed line ≡ true → 8 ≤ length line
unfolding framed
framed-long line e = leb-true 8 (length line) (and-true→ (leb 8 (length line)) _ e).0

pub read_line-offers : (line : List ℕ) {b : List ℕ} → read_line line ≡ Some b → Offers line b
unfolding read_line
read_line-offers line {b} e = step (leb (length line) max_line) (framed line) refl refl e
  where
    step : (p q : Bool) → leb (length line) max_line ≡ p → framed line ≡ q
        → cond (p && q) (unhex (take (length line - 8) (drop 7 line))) None ≡ Some b → Offers line b
    step true true p q e = record { short = leb-true _ _ p; frame = q; spelled = e }
    step true false p q e = absurd (None≢Some e)
    step false q p f e = absurd (None≢Some e)

-- the digits of the line in the buffer, from its eighth byte on
pub line_in-offers : (buffer : List ℕ) (fill : ℕ) {b : List ℕ} → line_in buffer fill ≡ Some b → (fill ≤ length buffer) × Offers (take fill buffer) b
unfolding line_in
line_in-offers buffer fill {b} e = step (leb fill max_line) (leb fill (length buffer)) refl e
  where
    step : (p q : Bool) → leb fill (length buffer) ≡ q → cond (p && q) (read_line (take fill buffer)) None ≡ Some b
        → (fill ≤ length buffer) × Offers (take fill buffer) b
    step true true q e = (leb-true _ _ q, read_line-offers (take fill buffer) e)
    step true false q e = absurd (None≢Some e)
    step false q f e = absurd (None≢Some e)

pub line_in-spells : (buffer : List ℕ) (fill : ℕ) {b : List ℕ} → line_in buffer fill ≡ Some b
    → Spells buffer (length b) × (unhex (take (2 * length b) (drop 7 buffer)) ≡ Some b) × (length b ≤ max_offered)
line_in-spells buffer fill {b} e =
    let r = line_in-offers buffer fill e in
    let o = r.1 in
    let t = take fill buffer in
    let n : length t ≡ fill = length-take-le fill buffer r.0 in
    let long : 8 ≤ length t = framed-long t o.frame in
    let same-part : take (length t - 8) (drop 7 t) ≡ take (length t - 8) (drop 7 buffer) =
    sym (slice-append t (drop fill buffer) 7 (length t - 8) (omega arith)) ∙ ap (λ (x : List ℕ). take (length t - 8) (drop 7 x)) (take-append-drop fill buffer) in
    let u : unhex (take (length t - 8) (drop 7 buffer)) ≡ Some b = ap unhex (sym same-part) ∙ o.spelled in
    let l : length t - 8 ≡ 2 * length b = part_length t b long o.spelled in
    let v : unhex (take (2 * length b) (drop 7 buffer)) ≡ Some b = ap (λ (m : ℕ). unhex (take m (drop 7 buffer))) (sym l) ∙ u in
    (record { room = omega (arith, r.0); bytes = b; digits = v }, v, omega (arith, o.short))
  where
    part_length : (t b : List ℕ) → 8 ≤ length t → unhex (take (length t - 8) (drop 7 t)) ≡ Some b → length t - 8 ≡ 2 * length b
    part_length t b long e =
        sym (length-take-le (length t - 8) (drop 7 t) (omega (arith, length-drop 7 t))) ∙ unhex-length (take (length t - 8) (drop 7 t)) e
