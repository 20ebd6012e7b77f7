-- The part of the marks, one author after the other.
use Prim.Native.Nat.{ℕ, ◌+◌, ◌≤◌}
use mathlib.Core.Path.{◌≡◌, refl, sym, ap, ◌∙◌}
use mathlib.Core.List.{List, [], ◌∷◌, ◌++◌, map, append-nil}
use mathlib.Core.Bool.{Bool}
use Rattle.std.specs.Prelude.{Option, None, Some, option_to_list}
use native.Mathlib.Numerals.{add-one}
use native.Mathlib.Omega.{arith}
use Rattle.bytes_order.specs.Member.{concat_map}
use Rattle.bytes_order.specs.MemberLaws.{concat_map-append}
use Rattle.bytes_ascii.specs.Ascii.{codes, ascii}
use Rattle.bitset.specs.Below.{up_to}
use Rattle.rules.specs.declared.MarkKind.{MarkKind}
use Rattle.rules.specs.Mark.{Mark, kinds_by, marks_by}
use Rattle.rules.specs.Report.{mark_line}
use Rattle.report_parts.specs.PlaceParts.{author_marks}
use Rattle.report_text.specs.Parts.{marks_part}

module _ (fork fault : ℕ → Bool) where
  -- the marks of author a, by two tests of it
  abbrev marks_for : ℕ → List Mark
  marks_for a = marks_by a (fork a) (fault a)

  -- the lines of the authors below a
  unfoldable pub lines_below : ℕ → List ℕ
  lines_below a = concat_map mark_line (concat_map marks_for (up_to a))

  pub lines_start : [] ≡ lines_below 0
  unfolding lines_below up_to concat_map
  lines_start = refl

  lines_more : (a : ℕ) → lines_below a ++ concat_map mark_line (marks_for a) ≡ lines_below (a + 1)
  unfolding lines_below up_to concat_map
  lines_more a =
      sym (concat_map-append mark_line (concat_map marks_for (up_to a)) (marks_for a))
      ∙ ap (λ (ms : List Mark). concat_map mark_line (concat_map marks_for (up_to a) ++ ms)) (sym (append-nil (marks_for a)))
      ∙ ap (concat_map mark_line) (sym (concat_map-append marks_for (up_to a) (a ∷ [])))
      ∙ sym (ap lines_below (add-one a))

  -- the line of author a, by what it is marked for
  lines_by : (a : ℕ) (ks : List MarkKind) → ks ≡ kinds_by (fork a) (fault a) → concat_map mark_line (map (λ (k : MarkKind). record { author = a; kind = k }) ks) ≡ concat_map mark_line (marks_for a)
  unfolding marks_by
  lines_by a ks e = ap (λ (qs : List MarkKind). concat_map mark_line (map (λ (k : MarkKind). record { author = a; kind = k }) qs)) e

  pub lines_marked : (a : ℕ) {o : Option MarkKind} {k : MarkKind} → option_to_list o ≡ kinds_by (fork a) (fault a) → o ≡ Some k
      → lines_below a ++ mark_line (record { author = a; kind = k }) ≡ lines_below (a + 1)
  unfolding concat_map
  lines_marked a {o} {k} is e =
      ap (λ (t : List ℕ). lines_below a ++ t) (sym (append-nil (mark_line (record { author = a; kind = k }))) ∙ lines_by a (k ∷ []) (sym (ap option_to_list e) ∙ is)) ∙ lines_more a

  pub lines_left : (a : ℕ) {o : Option MarkKind} → option_to_list o ≡ kinds_by (fork a) (fault a) → o ≡ None → lines_below a ≡ lines_below (a + 1)
  unfolding concat_map
  lines_left a is e = sym (append-nil (lines_below a)) ∙ ap (λ (t : List ℕ). lines_below a ++ t) (lines_by a [] (sym (ap option_to_list e) ∙ is)) ∙ lines_more a

  pub lines-all : (n a : ℕ) → a ≤ n → n ≤ a → lines_below a ≡ concat_map mark_line (author_marks n fork fault)
  unfolding lines_below
  lines-all n a h g = let e : a ≡ n = omega arith in ap (λ (m : ℕ). concat_map mark_line (concat_map marks_for (up_to m))) e

-- 40 .. 10 is the word, 41 and 10 are the closing bracket and the newline
pub marks-is : (marks : List Mark) →
    (40 ∷ 109 ∷ 97 ∷ 114 ∷ 107 ∷ 115 ∷ 10 ∷ []) ++ (concat_map mark_line marks ++ (41 ∷ 10 ∷ [])) ≡ marks_part marks
unfolding marks_part ascii codes
marks-is marks = refl
