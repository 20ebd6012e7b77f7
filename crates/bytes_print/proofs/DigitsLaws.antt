-- The digits that the libraries write are those of `bytes_ascii`.
use Rattle.std.proofs.Common.{ℕ, zero, suc, ◌/◌, ◌%◌, ◌^◌, ◌≤◌, ◌<◌, ◌≡◌, refl, true, false, eqb, List, [], ◌∷◌, ◌++◌, map, get_or, arith, sym, ap, ap₂, ◌∙◌, eq-eqb, ne_eqb, append_assoc, append-nil}
use Rattle.std.proofs.lemmas.List.FromFn.{get_or-map-range_with_len}
use Rattle.std.specs.Fmt as fmt
use Rattle.std.specs.List.{range_with_len}
use Rattle.hex.specs.Hex.{lower_digits, encode_with, encode_lower}
use Rattle.bytes_order.specs.Member.{concat_map}
use Rattle.bytes_ascii.specs.Ascii.{digit, hex_byte, hex, decimal_in, decimal}
use Rattle.bytes_ascii.specs.AsciiLaws.{decimal_in-one, decimal_in-more, by_digits}

-- one hexadecimal digit
all_digits : lower_digits ≡ map digit (range_with_len 0 16)
unfolding digit
all_digits = refl

lower : (d : ℕ) → d < 16 → get_or lower_digits d 0 ≡ digit d
lower d h = ap (λ (l : List ℕ). get_or l d 0) all_digits ∙ get_or-map-range_with_len digit 0 16 d d 0 h (omega arith)

pub lower-hex : (bs : List ℕ) → ((i : ℕ) → get_or bs i 0 < 2 ^ 8) → encode_lower bs ≡ hex bs
unfolding encode_with hex hex_byte concat_map
lower-hex [] h = refl
lower-hex (b ∷ bs) h =
    let x = h 0 in
    let r = lower-hex bs (λ i. h (suc i)) in
    cc (lower (b / 16) (omega arith), lower (b % 16) (omega arith), r)

-- decimal digits, before others
pub fmt-decimal : (n : ℕ) → n < 10 ^ 20 → fmt.decimal n ≡ decimal n
unfolding fmt.digits decimal digit
fmt-decimal n h = by_digits P one more 20 n (omega arith) h 64 [] (omega arith) ∙ append-nil (decimal_in 20 n)
  where
    P : ℕ → ℕ → Type 0
    P k n = (m : ℕ) (r : List ℕ) → k ≤ m → fmt.digits_onto m 10 false n r ≡ decimal_in k n ++ r

    one : (k n : ℕ) → n < 10 → P (suc k) n
    one k n h zero r l = absurd (omega arith)
    one k n h (suc m) r l =
        let q : eqb (n / 10) 0 ≡ true = eq-eqb (n / 10) 0 (omega arith) in
        let e : n % 10 ≡ n = omega arith in
        rw (q, e) (ap (λ (d : List ℕ). d ++ r) (sym (decimal_in-one k n h)))

    more : (k n : ℕ) → 10 ≤ n → P k (n / 10) → P (suc k) n
    more k n h i zero r l = absurd (omega arith)
    more k n h i (suc m) r l =
        let q : eqb (n / 10) 0 ≡ false = ne_eqb (n / 10) 0 (λ e. omega arith) in
        rw (q, decimal_in-more k n h, append_assoc) (i m (digit (n % 10) ∷ r) (omega arith))
