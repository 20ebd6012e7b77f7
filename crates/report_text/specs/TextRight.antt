-- For a ledger that stands, the text in each form is the report that the rules give for its updates.
use Rattle.std.specs.Prelude.{◌≡◌, refl, List, ◌++◌, ℕ}
use Rattle.std.proofs.Common.{ap, ap₂, ◌∙◌, append_assoc}
use Prim.Native.String.{String}
use Rattle.update_format.specs.Update.{Update}
use Rattle.bytes_order.specs.Member.{concat_map}
use Rattle.rules.specs.declared.Form.{Form}
use Rattle.rules.specs.declared.Form.TheVariants.{Full, Short}
use Rattle.rules.specs.Parts.{Parts}
use Rattle.rules.specs.Settle.{parts_in, parts_of}
use Rattle.bytes_ascii.specs.Ascii.{ascii}
use Rattle.rules.specs.Report.{update_line, set_line, bytes_line, id_line, mark_line, part_text, standings_text, read_offs_text, opening, report_text, report_of}
use Rattle.ledger_state.specs.Stands.{rules, Stands}
use Rattle.ledger_state.specs.State.{Book}
use Rattle.ledger_relations.specs.PlaceTests.{id_order}
use Rattle.report_parts.specs.PlacePartsLaws.{marks-part}
use Rattle.report_wording.specs.declared.Part.TheVariants.{Held, Heads, Waiting, Void}
use Rattle.report_text.specs.Parts.{marks_part, part_of}
use Rattle.report_text.specs.Text.{standings, read_offs, text_of}
use Rattle.report_text.specs.PartLaws.{held-part, heads-part, waiting-part, void-part, set-part, list-part}

-- a part with these lines, and what follows it
part_then : {A : Type 0} (word : String) (line : A → List ℕ) (xs : List A) {lines rest rest' : List ℕ} → lines ≡ concat_map line xs → rest ≡ rest'
    → (ascii word ++ (lines ++ ascii ")\n")) ++ rest ≡ part_text word line xs rest'
unfolding part_text
part_then word line xs {lines} {rest} e f =
    append_assoc (ascii word) (lines ++ ascii ")\n") rest
    ∙ ap (λ (x : List ℕ). ascii word ++ x) (append_assoc lines (ascii ")\n") rest)
    ∙ ap₂ (λ (x y : List ℕ). ascii word ++ (x ++ (ascii ")\n" ++ y))) e f

regroup : (a b c d r : List ℕ) → (a ++ (b ++ (c ++ d))) ++ r ≡ a ++ (b ++ (c ++ (d ++ r)))
regroup a b c d r = simp append_assoc

module _ {l : Book} {s : List ℕ} {us : List Update} (stands : Stands l s us) where
  abbrev P : Parts
  P = parts_of rules us

  standings-right : {rest rest' : List ℕ} → rest ≡ rest' → standings l s ++ rest ≡ standings_text rules P rest'
  unfolding standings part_of
  standings-right {rest} e =
      regroup (part_of l s Held (id_order l s)) (part_of l s Heads (id_order l s)) (part_of l s Waiting (id_order l s)) (part_of l s Void (id_order l s)) rest
      ∙ part_then "(held\n" (update_line rules) P.held (held-part stands)
      (part_then "(heads\n" (id_line rules) P.heads (heads-part stands)
      (part_then "(waiting\n" (update_line rules) P.waiting (waiting-part stands)
      (part_then "(void\n" (update_line rules) P.void (void-part stands) e)))

  read-offs-right : read_offs l s ≡ read_offs_text P
  unfolding read_offs marks_part part_of parts_of parts_in
  read-offs-right =
      part_then "(marks\n" mark_line P.marks (ap (concat_map mark_line) (marks-part stands))
      (part_then "(set\n" set_line P.set (set-part stands)
      (part_then "(list\n" bytes_line P.list (list-part stands) refl))

pub text-right : (form : Form) (l : Book) (s : List ℕ) (us : List Update) → Stands l s us → text_of l s form ≡ report_of form rules us
unfolding text_of report_of report_text
text-right Full l s us stands = ap (λ (t : List ℕ). opening ++ t) (standings-right stands (read-offs-right stands))
text-right Short l s us stands = ap (λ (t : List ℕ). opening ++ t) (read-offs-right stands)
