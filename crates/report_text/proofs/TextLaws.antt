-- The text of the report, piece by piece as it is printed.
use Prim.Native.Nat.{ℕ, ◌+◌, ◌≤◌, ◌<◌}
use mathlib.Core.Path.{◌≡◌, refl, sym, ap, ◌∙◌}
use mathlib.Core.List.{List, [], ◌∷◌, ◌++◌, append-nil}
use mathlib.Core.Bool.{Bool, true, false}
use lib.ListN.{length, get_or, take}
use lib.Seq.{take_all}
use Rattle.std.proofs.lemmas.List.{take_more}
use Rattle.bytes_order.specs.MemberLaws.{keep_append, concat_map-append}
use Rattle.ledger_sorting.proofs.Keeping.{keep_one, keep-no}
use Rattle.bytes_order.specs.Member.{keep, concat_map}
use Rattle.bytes_ascii.specs.Ascii.{codes, ascii}
use Rattle.rules.specs.declared.Form.{Form}
use Rattle.ledger_state.specs.State.{Book, decoded_at}
use Rattle.report_wording.specs.declared.Part.{Part}
use Rattle.report_wording.specs.declared.Part.TheVariants.{Held, Heads, Waiting, Void, Set, List as Entries}
use Rattle.ledger_relations.specs.PlaceTests.{id_at, author_at, id_order}
use Rattle.report_parts.specs.PlaceParts.{marks_of, set_entry_at, set_order, entries_of, value_at}
use Rattle.report_wording.specs.Lines.{word_of, line_by}
use Rattle.report_text.specs.Parts.{marks_part, update_line_at, listed_in, line_of, part_lines, part_of}
use Rattle.report_text.specs.Text.{standings, read_offs, standings_in, text_of}

-- the line of a place
pub line-of : (l : Book) (s : List ℕ) (k : ℕ) (p : Part) → line_by p (id_at l s k) (decoded_at l s k) ≡ line_of l s p k
unfolding update_line_at author_at set_entry_at value_at
line-of l s k Held = refl
line-of l s k Heads = refl
line-of l s k Waiting = refl
line-of l s k Void = refl
line-of l s k Set = refl
line-of l s k Entries = refl

module _ (l : Book) (s : List ℕ) where
  -- the lines of a part, one place after the other
  module _ (p : Part) (xs : List ℕ) where
    pub lines_none : [] ≡ part_lines l s p (take 0 xs)
    unfolding part_lines concat_map keep
    lines_none = refl

    module _ (i : ℕ) (h : i < length xs) where
      lines_more : part_lines l s p (take i xs) ++ part_lines l s p (get_or xs i 0 ∷ []) ≡ part_lines l s p (take (i + 1) xs)
      unfolding part_lines
      lines_more =
          sym (concat_map-append (line_of l s p) (keep (listed_in l s p) (take i xs)) (keep (listed_in l s p) (get_or xs i 0 ∷ [])))
          ∙ ap (concat_map (line_of l s p)) (sym (keep_append (listed_in l s p) (take i xs) (get_or xs i 0 ∷ [])))
          ∙ ap (part_lines l s p) (sym (take_more xs i 0 h))

      pub lines_yes : {b : Bool} → b ≡ listed_in l s p (get_or xs i 0) → b ≡ true → part_lines l s p (take i xs) ++ line_of l s p (get_or xs i 0) ≡ part_lines l s p (take (i + 1) xs)
      unfolding part_lines concat_map
      lines_yes e f =
          ap (λ (t : List ℕ). part_lines l s p (take i xs) ++ t) (sym (append-nil (line_of l s p (get_or xs i 0))) ∙ ap (concat_map (line_of l s p)) (keep_one (listed_in l s p) (get_or xs i 0) e f))
          ∙ lines_more

      pub lines_no : {b : Bool} → b ≡ listed_in l s p (get_or xs i 0) → b ≡ false → part_lines l s p (take i xs) ≡ part_lines l s p (take (i + 1) xs)
      unfolding part_lines concat_map
      lines_no e f =
          sym (append-nil (part_lines l s p (take i xs)))
          ∙ ap (λ (ks : List ℕ). part_lines l s p (take i xs) ++ concat_map (line_of l s p) ks) (keep-no (listed_in l s p) (get_or xs i 0) e f)
          ∙ lines_more

    pub lines_all : (i : ℕ) → length xs ≤ i → part_lines l s p (take i xs) ≡ part_lines l s p xs
    lines_all i h = ap (part_lines l s p) (take_all i xs h)

  pub part-is : (p : Part) (xs : List ℕ) → word_of p ++ (part_lines l s p xs ++ (41 ∷ 10 ∷ [])) ≡ part_of l s p xs
  unfolding part_of ascii codes
  part-is p xs = refl

  pub standings-is :
      part_of l s Held (id_order l s) ++ (part_of l s Heads (id_order l s) ++ (part_of l s Waiting (id_order l s) ++ part_of l s Void (id_order l s))) ≡ standings l s
  unfolding standings
  standings-is = refl

  pub read-offs-is :
      marks_part (marks_of l s) ++ (part_of l s Set (set_order l s) ++ (part_of l s Entries (entries_of l s) ++ (41 ∷ 10 ∷ []))) ≡ read_offs l s
  unfolding read_offs ascii codes
  read-offs-is = refl

  -- 40 .. 10 is the opening line
  pub text-is : (form : Form)
      → (40 ∷ 108 ∷ 101 ∷ 100 ∷ 103 ∷ 101 ∷ 114 ∷ 32 ∷ 49 ∷ 10 ∷ []) ++ (standings_in l s form ++ read_offs l s) ≡ text_of l s form
  unfolding text_of ascii codes
  text-is form = refl
