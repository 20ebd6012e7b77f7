-- The short report's text from the full one's bytes. Whatever the ids are, nothing before the full report's marks reads `(marks`: a bracket opens each line, and
-- what follows it there is a digit, a separator or another word.
use Rattle.std.specs.Prelude.{ℕ, ◌/◌, ◌%◌, ◌≤◌, ◌<◌, ◌≡◌, List, [], ◌∷◌, ◌++◌, Bool, false, cond, ◌&&◌, eqb}
use Prim.Native.String.{String}
use Rattle.std.proofs.Common.{arith, sym, ◌∙◌, ap, append_assoc, ne_eqb}
use Rattle.std.proofs.Math.Path.{refl}
use mathlib.Core.List.Memᴰ
use Rattle.bytes_order.specs.BoolLaws.{and-false-right}
use Rattle.bytes_order.specs.Member.{concat_map}
use Rattle.bytes_ascii.specs.Ascii.{codes, ascii, digit, hex_byte, hex, decimal}
use Rattle.bytes_ascii.specs.AsciiLaws.{Digits, digit-small, hex-digits, decimal-digits}
use Rattle.update_format.specs.Update.{Update}
use Rattle.rules.specs.Standing.{Rules}
use Rattle.rules.specs.declared.Form.TheVariants.{Full, Short}
use Rattle.rules.specs.Parts.{Parts}
use Rattle.rules.specs.Report.{author_line, update_line, bytes_line, id_line, part_text, heads_text, waiting_text, void_text, standings_text, read_offs_text, opening, report_text, starts_with, from_marks}

-- nothing in xs, and nothing that begins in it, reads `(marks`
record Passed (xs : List ℕ) : Type 0 where
  passes : (rest : List ℕ) → from_marks (xs ++ rest) ≡ from_marks rest

passed-nil : Passed []
passed-nil = record { passes = λ rest. refl }

passed-append : (xs : List ℕ) {ys : List ℕ} → Passed xs → Passed ys → Passed (xs ++ ys)
passed-append xs {ys} p q = record { passes = λ rest. ap from_marks (append_assoc xs ys rest) ∙ p.passes (ys ++ rest) ∙ q.passes rest }

-- the rest of the word and its newline
abbrev marks_rest : List ℕ
marks_rest = 109 ∷ 97 ∷ 114 ∷ 107 ∷ 115 ∷ 10 ∷ []

-- a byte that is no opening bracket
passed-other : (b : ℕ) {xs : List ℕ} → (40 ≡ b → ⊥) → Passed xs → Passed (b ∷ xs)
unfolding from_marks starts_with ascii codes
passed-other b {xs} n p =
    record {
      passes = λ rest.
          ap (λ (t : Bool). cond (t && starts_with marks_rest (xs ++ rest)) (b ∷ (xs ++ rest)) (from_marks (xs ++ rest))) (ne_eqb 40 b n) ∙ p.passes rest;
    }

passed-digits : (xs : List ℕ) → Digits xs → Passed xs
passed-digits [] d = passed-nil
passed-digits (x ∷ xs) d =
    let h : 48 ≤ x = d x (Memᴰ.head refl) in
    passed-other x (λ e. omega arith) (passed-digits xs (λ b m. d b (Memᴰ.tail m)))

passed-end : Passed (41 ∷ 10 ∷ [])
passed-end = passed-other 41 (λ e. omega arith) (passed-other 10 (λ e. omega arith) passed-nil)

-- An opening bracket before hexadecimal digits and a separator. `marks` does not follow: its fourth letter is no hexadecimal digit, and with fewer than four digits
-- the separator, which is no letter, comes before that.
hex-not-marks : (bs : List ℕ) (s : ℕ) → s < 48 → (t : List ℕ) → starts_with marks_rest (hex bs ++ s ∷ t) ≡ false
unfolding starts_with hex concat_map hex_byte
hex-not-marks [] s h t = ap (λ (x : Bool). x && starts_with (97 ∷ 114 ∷ 107 ∷ 115 ∷ 10 ∷ []) t) (ne_eqb 109 s (λ e. omega arith))
hex-not-marks (b ∷ []) s h t =
    and-false-right (eqb 109 (digit (b / 16))) (and-false-right (eqb 97 (digit (b % 16))) (ap (λ (x : Bool). x && starts_with (107 ∷ 115 ∷ 10 ∷ []) t) (ne_eqb 114 s (λ e. omega arith))))
hex-not-marks (b ∷ c ∷ bs) s h t =
    let k : digit (c % 16) ≤ 102 = digit-small (c % 16) (omega arith) in
    and-false-right (eqb 109 (digit (b / 16)))
    (and-false-right (eqb 97 (digit (b % 16)))
    (and-false-right (eqb 114 (digit (c / 16)))
    (ap (λ (x : Bool). x && starts_with (115 ∷ 10 ∷ []) (hex bs ++ s ∷ t)) (ne_eqb 107 (digit (c % 16)) (λ e. omega arith)))))

passed-open : (bs : List ℕ) (s : ℕ) {t : List ℕ} → s < 48 → Passed t → (40 ≡ s → ⊥) → Passed (40 ∷ (hex bs ++ s ∷ t))
unfolding from_marks starts_with ascii codes
passed-open bs s {t} h p n =
    record {
      passes = λ rest.
          ap (λ (x : Bool). cond x (40 ∷ ((hex bs ++ s ∷ t) ++ rest)) (from_marks ((hex bs ++ s ∷ t) ++ rest)))
          (ap (starts_with marks_rest) (append_assoc (hex bs) (s ∷ t) rest) ∙ hex-not-marks bs s h (t ++ rest))
          ∙ (passed-append (hex bs) (passed-digits (hex bs) (hex-digits bs)) (passed-other s n p)).passes rest;
    }

author-line-passed : (bs : List ℕ) (a : ℕ) → Passed (author_line bs a)
unfolding ascii codes
author-line-passed bs a =
    passed-open bs 32 (omega arith) (passed-append (decimal a) (passed-digits (decimal a) (decimal-digits a)) passed-end) (λ e. omega arith)

bytes-line-passed : (bs : List ℕ) → Passed (bytes_line bs)
unfolding bytes_line ascii codes
bytes-line-passed bs = passed-open bs 41 (omega arith) (passed-other 10 (λ e. omega arith) passed-nil) (λ e. omega arith)

lines-passed : {A : Type 0} (line : A → List ℕ) → ((x : A) → Passed (line x)) → (xs : List A) → Passed (concat_map line xs)
unfolding concat_map
lines-passed line p [] = passed-nil
lines-passed line p (x ∷ xs) = passed-append (line x) (p x) (lines-passed line p xs)

part-passed : {A : Type 0} (word : String) (line : A → List ℕ) (xs : List A) (rest : List ℕ) → Passed (ascii word) → ((x : A) → Passed (line x))
    → from_marks (part_text word line xs rest) ≡ from_marks rest
unfolding part_text ascii codes
part-passed word line xs rest w p =
    w.passes (concat_map line xs ++ (41 ∷ 10 ∷ rest)) ∙ (lines-passed line p xs).passes (41 ∷ 10 ∷ rest) ∙ passed-end.passes rest

module _ (rules : Rules) (P : Parts) where
  update-passed : (u : Update) → Passed (update_line rules u)
  unfolding update_line
  update-passed u = author-line-passed (rules.ident u) u.author

  id-passed : (u : Update) → Passed (id_line rules u)
  unfolding id_line
  id-passed u = bytes-line-passed (rules.ident u)

  standings-passed : (rest : List ℕ) → from_marks (opening ++ standings_text rules P rest) ≡ from_marks rest
  unfolding from_marks starts_with ascii codes
  standings-passed rest =
      part-passed "(held\n" (update_line rules) P.held (heads_text rules P (waiting_text rules P (void_text rules P rest))) (record { passes = λ r. refl }) update-passed
      ∙ part-passed "(heads\n" (id_line rules) P.heads (waiting_text rules P (void_text rules P rest)) (record { passes = λ r. refl }) id-passed
      ∙ part-passed "(waiting\n" (update_line rules) P.waiting (void_text rules P rest) (record { passes = λ r. refl }) update-passed
      ∙ part-passed "(void\n" (update_line rules) P.void rest (record { passes = λ r. refl }) update-passed

  marks-found : from_marks (read_offs_text P) ≡ read_offs_text P
  unfolding from_marks starts_with part_text ascii codes
  marks-found = refl

-- the short text is the first line, and what the full one has from its marks to its end
pub short-text : (rules : Rules) (P : Parts) → report_text Short rules P ≡ opening ++ from_marks (report_text Full rules P)
unfolding report_text
short-text rules P = ap (λ (t : List ℕ). opening ++ t) (sym (standings-passed rules P (read_offs_text P) ∙ marks-found rules P))
