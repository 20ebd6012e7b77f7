-- The report: it is laid out from the parts that the definitions give; the same members give the same bytes in each form; equal bytes of the full form show the same ids,
-- and equal sets where no two updates share an id; each marked author has one line; the order of its set entries; that equal bytes of either form show the same set
-- entries, marks and list; the short form from the full one; its length.
use Rattle.rules.specs.ReportLaws.{document-size}
use Rattle.std.specs.Prelude.{◌≡◌, refl, true, ◌⊎◌, List, [], ◌∷◌, ◌++◌, map, ℕ, ◌+◌, ◌-◌, ◌*◌, ◌≤◌, ◌<◌, min, length}
use Rattle.std.proofs.Common.{sym, ◌∙◌, subst, inl, inr, le_trans, mul-le-mul, mul-le-mul_left, mul-le-mul_right, arith}
use Rattle.std.proofs.Math.Path.{ap}
use mathlib.Core.List.Memᴰ
use Rattle.std.proofs.Math.Nat.{le-min, min-le_left, min-le_right}
use Rattle.std.proofs.lemmas.List.{length-map}
use Rattle.bytes_order.specs.Member.{◌∈◌, SameMembers, keep, concat_map}
use Rattle.bytes_order.specs.MemberLaws.{∈-cast, ∈-map, map-∈, map_injective, ∈-append-right}
use Rattle.bytes_order.specs.Distinct.{Distinct}
use Rattle.bytes_order.specs.DistinctLaws.{distinct-identifies, distinct-same-length, distinct-length, distinct-split}
use Rattle.bytes_order.specs.Order.{before}
use Rattle.bytes_order.specs.Sort.{sort}
use Rattle.bytes_order.specs.Ascending.{Ascending}
use Rattle.bytes_order.specs.SortLaws.{ascending-head, ascending-tail, same-sort}
use Rattle.update_format.specs.declared.Bounds.{Bounds}
use Rattle.update_format.specs.Update.{document_bounds, Id, id_length, tag_length, Update, Bounded}
use Rattle.rules.specs.declared.Form.{Form}
use Rattle.rules.specs.declared.Form.TheVariants.{Full, Short}
use Rattle.rules.specs.declared.MarkKind.{MarkKind}
use Rattle.rules.specs.Standing.{Rules, Held, Void, Waiting}
use Rattle.rules.specs.SetEntry.{SetEntry, entry_key, entry_before}
use Rattle.rules.specs.Mark.{Mark, mark_key}
use Rattle.rules.specs.ReadOff.{MarkedFor}
use Rattle.rules.specs.Parts.{Parts, ReadFrom}
use Rattle.rules.specs.Settle.{Table, is_insert, rounds, start, start_all, settled_table, heads, marks, set_entries, walk, entries, list, parts_in, parts_of}
use Rattle.bytes_ascii.specs.Ascii.{codes, ascii, decimal}
use Rattle.bytes_ascii.specs.AsciiLaws.{decimal-length}
use Rattle.rules.specs.Terms.{Terms, places, document_terms, allowed}
use Rattle.rules.specs.Room.{RoomForAll}
use Rattle.rules.proofs.TermsLaws.{allowed→, places-least, authors-printed}
use Rattle.rules.specs.Report.{set_line, mark_line, part_text, opening, report_text, report_of, from_marks, author_digits, report_size, longest, report_per_place}
use Rattle.rules.proofs.Decides.{Decides}
use Rattle.rules.proofs.LeastSets.{held-stored, void-stored}
use Rattle.rules.proofs.Settling.{settled-decides, covers}
use Rattle.rules.proofs.SetEntryLaws.{entry-order}
use Rattle.rules.proofs.TableLaws.{add-sized}
use Rattle.rules.proofs.ReadOffLaws.{entry-right, entry_once}
use Rattle.rules.proofs.MarkLaws.{marked-stored}
use Rattle.rules.proofs.PartsLaws.{exactly-once, read_right, read-unique}
use Rattle.rules.proofs.ShortLaws.{short-text}
use Rattle.rules.proofs.TextLaws.{set-line-injective, mark-line-injective, SameReadOffs, SameShown, text-shows, text-shows-read-offs}
use Rattle.rules.proofs.ReportLengthLaws.{SizedTable, text_length, short-text-length}

-- the report is laid out from the parts that the definitions give
pub report-laid-out : (form : Form) (rules : Rules) (S : List Update) → Distinct rules.ident S → {parts : Parts} → ReadFrom rules S parts
    → report_of form rules S ≡ report_text form rules parts
unfolding report_of
report-laid-out form rules S d f = ap (report_text form rules) (read-unique rules S d (read_right rules S d) f)

-- only the set counts, in each form
pub same-report : (form : Form) (rules : Rules) (S S' : List Update) → Distinct rules.ident S → Distinct rules.ident S' → SameMembers S S'
    → report_of form rules S ≡ report_of form rules S'
unfolding report_of parts_of settled_table start_all
same-report form rules S S' d d' s =
    λ i. report_text form rules (parts_in (rounds (distinct-same-length d d' s i) (map (start rules) (same-sort rules.ident (distinct-identifies d) s i))))

-- the full report shows its set
pub report-shows-ids : (rules : Rules) (S S' : List Update) → Distinct rules.ident S → Distinct rules.ident S'
    → report_of Full rules S ≡ report_of Full rules S' → (u : Update) → u ∈ S → (v : Update) × (v ∈ S') × (rules.ident v ≡ rules.ident u)
unfolding report_of
report-shows-ids rules S S' d d' e u m = step (covers rules S d u m)
  where
    P : ReadFrom rules S (parts_of rules S)
    P = read_right rules S d

    Q : ReadFrom rules S' (parts_of rules S')
    Q = read_right rules S' d'

    same : SameShown rules (parts_of rules S) (parts_of rules S')
    same = text-shows rules (parts_of rules S) (parts_of rules S') e

    -- a member of one part has its id in the other
    shown : {xs ys : List Update} → map rules.ident xs ≡ map rules.ident ys → u ∈ xs → (v : Update) × (v ∈ ys) × (rules.ident v ≡ rules.ident u)
    shown {xs} {ys} q k = map-∈ rules.ident ys (subst (λ (is : List Id). rules.ident u ∈ is) q (∈-map rules.ident k))

    step : Held rules S u ⊎ (Waiting rules S u ⊎ Void rules S u) → (v : Update) × (v ∈ S') × (rules.ident v ≡ rules.ident u)
    step (inl h) = let r = shown same.held_ids (P.held.all u h) in (r.0, held-stored rules S' (Q.held.right r.0 r.1), r.2)
    step (inr (inl h)) = let r = shown same.waiting_ids (P.waiting.all u h) in (r.0, (Q.waiting.right r.0 r.1).stored, r.2)
    step (inr (inr h)) = let r = shown same.void_ids (P.void.all u h) in (r.0, void-stored rules S' (Q.void.right r.0 r.1), r.2)

pub report-shows-set : (rules : Rules) (S S' : List Update) → Distinct rules.ident S → Distinct rules.ident S'
    → ((u v : Update) → u ∈ S → v ∈ S' → rules.ident u ≡ rules.ident v → u ≡ v) → report_of Full rules S ≡ report_of Full rules S' → SameMembers S S'
report-shows-set rules S S' d d' one e =
    record {
      forth = λ u m. let r = report-shows-ids rules S S' d d' e u m in ∈-cast (one u r.0 m r.1 (sym r.2)) r.1;
      back = λ v m. let r = report-shows-ids rules S' S d' d (sym e) v m in ∈-cast (sym (one r.0 v r.1 m r.2)) r.1;
    }

-- Document 02, E7: a marked author has one line, with its word
pub mark-shown-once : {rules : Rules} {S : List Update} {parts : Parts} → ReadFrom rules S parts → (k : MarkKind) (a : ℕ) → MarkedFor rules S k a
    → (ms ns : List Mark) × (parts.marks ≡ ms ++ (record { author = a; kind = k } ∷ ns)) × ((m : Mark) → m ∈ ms ++ ns → m.author ≡ a → ⊥)
unfolding mark_key
mark-shown-once reads k a h =
    let f = distinct-split (exactly-once reads.marks) (reads.marks.all (record { author = a; kind = k }) h) in
    (f.0, f.1, f.2, λ m n e. f.3 m n (ap (λ (b : ℕ). b ∷ []) e))

-- Document 02, E5: the entries of a set of well-formed updates

module _ {b : Bounds} {rules : Rules} {S : List Update} (bounded : (u : Update) → u ∈ S → Bounded b u) {parts : Parts} (reads : ReadFrom rules S parts) where
  set-entry-tag : (e : SetEntry) → e ∈ parts.set → length e.tag ≡ tag_length
  set-entry-tag e m =
      let p = reads.set.right e m in
      add-sized (bounded p.add (held-stored rules S p.add-held)).op_bounded p.is-add

  set-entry-author : (e : SetEntry) → e ∈ parts.set → e.author < b.authors
  set-entry-author e m =
      let p = reads.set.right e m in
      subst (λ (a : ℕ). a < b.authors) p.added-by (bounded p.add (held-stored rules S p.add-held)).author_small

  -- "ordered by tag, then author": of two entries the one that is shown first comes before the other
  pub set-ordered : (es : List SetEntry) (e : SetEntry) (fs : List SetEntry) → parts.set ≡ es ++ (e ∷ fs) → (f : SetEntry) → f ∈ fs → entry_before e f ≡ true
  set-ordered es e fs q f m =
      sym (entry-order e f (sized e (Memᴰ.head refl) ∙ sym (sized f (Memᴰ.tail m))))
      ∙ following es (subst (Ascending entry_key) q reads.set.ascending)
    where
      sized : (x : SetEntry) → x ∈ e ∷ fs → length x.tag ≡ tag_length
      sized x n = set-entry-tag x (subst (λ (xs : List SetEntry). x ∈ xs) (sym q) (∈-append-right es n))

      following : (xs : List SetEntry) → Ascending entry_key (xs ++ (e ∷ fs)) → before (entry_key e) (entry_key f) ≡ true
      following [] a = ascending-head a f m
      following (x ∷ xs) a = following xs (ascending-tail a)

  mark-author : (m : Mark) → m ∈ parts.marks → m.author < b.authors
  mark-author m n =
      let f = marked-stored rules S m.kind m.author (reads.marks.right m n) in
      subst (λ (a : ℕ). a < b.authors) f.2 (bounded f.0 f.1).author_small

-- The lines show what they are of: equal reports, of either form, have the same list, set entries and marks.
module _ (form : Form) (rules : Rules) (S S' : List Update) (e : report_of form rules S ≡ report_of form rules S') where
  abbrev P : Parts
  P = parts_of rules S

  abbrev P' : Parts
  P' = parts_of rules S'

  shown : SameReadOffs P P'
  unfolding report_of
  shown = text-shows-read-offs form rules P P' e

  pub report-shows-list : P.list ≡ P'.list
  report-shows-list = map_injective (λ (v : List ℕ). v) P.list P'.list (λ v w m n q. q) shown.list_values

  -- authors of well-formed updates are told apart by their digits
  module _ (d : Distinct rules.ident S) (d' : Distinct rules.ident S') (t : Terms) (terms : allowed t ≡ true)
      (bounded : (u : Update) → u ∈ S → Bounded t.bounds u) (bounded' : (u : Update) → u ∈ S' → Bounded t.bounds u) where
    pub report-shows-entries : P.set ≡ P'.set
    report-shows-entries =
        map_injective set_line P.set P'.set
        (λ x y m n. set-line-injective x y (le_trans (set-entry-author bounded (read_right rules S d) x m) (authors-printed t terms))
        (le_trans (set-entry-author bounded' (read_right rules S' d') y n) (authors-printed t terms)))
        shown.set_lines

    pub report-shows-marks : P.marks ≡ P'.marks
    report-shows-marks =
        map_injective mark_line P.marks P'.marks
        (λ x y m n. mark-line-injective x y (le_trans (mark-author bounded (read_right rules S d) x m) (authors-printed t terms))
        (le_trans (mark-author bounded' (read_right rules S' d') y n) (authors-printed t terms)))
        shown.mark_lines

-- Document 02, E10: the short report is the first line, and what the full one has from its marks to its end
pub short-from-full : (rules : Rules) (S : List Update) → report_of Short rules S ≡ opening ++ from_marks (report_of Full rules S)
unfolding report_of
short-from-full rules S = short-text rules (parts_of rules S)

-- the report of no update
pub empty-text : (rules : Rules)
    → report_of Full rules [] ≡ ascii "(ledger 1\n(held\n)\n(heads\n)\n(waiting\n)\n(void\n)\n(marks\n)\n(set\n)\n(list\n)\n)\n"
unfolding report_of parts_of parts_in settled_table start_all rounds sort report_text part_text keep concat_map heads marks set_entries list entries walk ascii codes
empty-text rules = refl

pub empty-short-text : (rules : Rules) → report_of Short rules [] ≡ ascii "(ledger 1\n(marks\n)\n(set\n)\n(list\n)\n)\n"
unfolding report_of parts_of parts_in settled_table start_all rounds sort report_text part_text keep concat_map marks set_entries list entries walk ascii codes
empty-short-text rules = refl

-- "The empty report is 72 bytes; none passes 12,000."
pub empty-length : (rules : Rules) → length (report_of Full rules []) ≡ 72
unfolding ascii codes
empty-length rules = ap length (empty-text rules)

pub empty-short-length : (rules : Rules) → length (report_of Short rules []) ≡ 36
unfolding ascii codes
empty-short-length rules = ap length (empty-short-text rules)

module _ (rules : Rules) (S : List Update) (d : Distinct rules.ident S) where
  abbrev T : Table
  T = settled_table rules S

  D : Decides rules S T
  D = settled-decides rules S d

  table-few : length T ≤ length S
  table-few =
      let rows = distinct-length D.once (map rules.ident S) (λ r m. ∈-cast (D.has-id r m) (∈-map rules.ident (D.of_set r m))) in
      let size = length-map S rules.ident in
      omega arith

  table-sized : {b : Bounds} → ((u : Update) → u ∈ S → Bounded b u) → SizedTable b T
  unfolding is_insert
  table-sized bounded =
      record {
        bounded = λ r m. bounded r.update (D.of_set r m);
        entry_row = λ r m. (entry-right rules S T d D r m).0;
        entry_insert = λ r m. ap is_insert (entry-right rules S T d D r m).2.is-insert;
        entry_once = entry_once rules S T d D;
      }

-- a report of more updates may be longer
pub size-grows : (b : Bounds) (form : Form) {m n : ℕ} → m ≤ n → report_size b m form ≤ report_size b n form
unfolding report_size
size-grows b form {m} {n} h = step form
  where
    lines : (w : ℕ) → w * m ≤ w * n
    lines w = mul-le-mul_left w h

    marked : (w : ℕ) → w * min b.authors m ≤ w * min b.authors n
    marked w = mul-le-mul_left w (le-min (min-le_left b.authors m) (le_trans (min-le_right b.authors m) h))

    step : (form : Form) → report_size b m form ≤ report_size b n form
    step Full = omega (arith, lines (68 + author_digits b), lines (36 + author_digits b), marked (9 + author_digits b))
    step Short = omega (arith, lines (36 + author_digits b), marked (9 + author_digits b))

-- no report of bounded updates is longer than their number allows
pub report-length : (form : Form) (rules : Rules) → ((u : Update) → length (rules.ident u) ≡ id_length) → {b : Bounds} (S : List Update) → Distinct rules.ident S
    → ((u : Update) → u ∈ S → Bounded b u) → length (report_of form rules S) ≤ report_size b (length S) form
unfolding report_of parts_of
report-length form rules sized {b} S d bounded = le_trans (step form) (size-grows b form (table-few rules S d))
  where
    step : (form : Form) → length (report_text form rules (parts_in (settled_table rules S))) ≤ report_size b (length (settled_table rules S)) form
    step Full = text_length rules sized b (settled_table rules S) (table-sized rules S d bounded)
    step Short = short-text-length rules sized b (settled_table rules S) (table-sized rules S d bounded)

-- no report of updates for which there is room is longer than the terms allow
pub terms-report-length : (t : Terms) (form : Form) (rules : Rules) → ((u : Update) → length (rules.ident u) ≡ id_length) → (S : List Update) → Distinct rules.ident S
    → RoomForAll t S → ((u : Update) → u ∈ S → Bounded t.bounds u) → length (report_of form rules S) ≤ report_size t.bounds t.places form
terms-report-length t form rules sized S d room bounded = le_trans (report-length form rules sized S d bounded) (size-grows t.bounds form room.few)

-- "none passes 12,000": of at most 64 updates within document 01's bounds
pub document-report-length : (form : Form) (rules : Rules) → ((u : Update) → length (rules.ident u) ≡ id_length) → (S : List Update) → Distinct rules.ident S
    → RoomForAll document_terms S → ((u : Update) → u ∈ S → Bounded document_bounds u) → length (report_of form rules S) ≤ longest form
document-report-length form rules sized S d room bounded = le_trans (terms-report-length document_terms form rules sized S d room bounded) (document-size form)

-- document 02, E6: "a report fits in 256 bytes a place", at all allowed terms
pub allowed-size : (t : Terms) → allowed t ≡ true → (form : Form) → report_size t.bounds t.places form ≤ report_per_place * t.places
unfolding report_size author_digits
allowed-size t e form = step form
  where
    small : author_digits t.bounds ≤ 3
    small = decimal-length 3 (t.bounds.authors - 1) (omega arith) (omega (arith, (allowed→ t e).within.authors_most))

    updates : (68 + author_digits t.bounds) * t.places ≤ 71 * t.places
    updates = mul-le-mul_right t.places (omega (arith, small))

    shown : (36 + author_digits t.bounds) * t.places ≤ 39 * t.places
    shown = mul-le-mul_right t.places (omega (arith, small))

    marked : (9 + author_digits t.bounds) * min t.bounds.authors t.places ≤ 12 * t.places
    marked = mul-le-mul (omega (arith, small)) (min-le_right t.bounds.authors t.places)

    step : (form : Form) → report_size t.bounds t.places form ≤ report_per_place * t.places
    step Full = omega (arith, updates, shown, marked, places-least (allowed→ t e))
    step Short = omega (arith, shown, marked, places-least (allowed→ t e))
