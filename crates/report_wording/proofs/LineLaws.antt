-- The lines of the report in bytes, as they are printed.
use Prim.Native.Nat.{ℕ}
use mathlib.Core.Path.{◌≡◌, refl, ap, ◌∙◌}
use mathlib.Core.List.{List, [], ◌∷◌, ◌++◌, append_assoc}
use Rattle.update_format.specs.Decode.{Decoded}
use Rattle.bytes_ascii.specs.Ascii.{codes, ascii, hex, decimal}
use Rattle.rules.specs.declared.MarkKind.{MarkKind}
use Rattle.rules.specs.Report.{set_line, bytes_line, mark_line}
use Rattle.update_fields.specs.Fields.{author_in, tag_in, set_entry_in}
use Rattle.report_wording.specs.Lines.{mark_end, author_line_by}

-- 40, 41, 32 and 10 are the brackets, the space and the newline

pub open-bytes : (bs : List ℕ) → (40 ∷ []) ++ hex bs ≡ ascii "(" ++ hex bs
unfolding ascii codes
open-bytes bs = refl

pub bytes-line : (bs : List ℕ) → (ascii "(" ++ hex bs) ++ (41 ∷ 10 ∷ []) ≡ bytes_line bs
unfolding bytes_line ascii codes
bytes-line bs = append_assoc (40 ∷ []) (hex bs) (41 ∷ 10 ∷ [])

pub mark-line : (a : ℕ) (k : MarkKind) → (40 ∷ []) ++ (decimal a ++ mark_end k) ≡ mark_line (record { author = a; kind = k })
unfolding mark_line ascii codes
mark-line a k = refl

pub author-line : (bs : List ℕ) (d : Decoded) (a : ℕ) → a ≡ author_in d →
    (ascii "(" ++ hex bs) ++ ((32 ∷ []) ++ (decimal a ++ (41 ∷ 10 ∷ []))) ≡ author_line_by bs d
unfolding ascii codes
author-line bs d a e =
    append_assoc (40 ∷ []) (hex bs) ((32 ∷ []) ++ (decimal a ++ (41 ∷ 10 ∷ [])))
    ∙ ap (λ (x : ℕ). 40 ∷ (hex bs ++ (32 ∷ (decimal x ++ (41 ∷ 10 ∷ []))))) e

-- the line of a set entry
pub set_line_lem : (d : Decoded) {t : List ℕ} → t ≡ tag_in d → author_line_by t d ≡ set_line (set_entry_in d)
unfolding set_line
set_line_lem d e = ap (λ (t : List ℕ). author_line_by t d) e
