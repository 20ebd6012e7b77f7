-- How long a report is, in each form: the lines of each part are bounded, and each row of a table shows in few of them. In order: lines; parts; how often a row shows: by its
-- one verdict, as a head, as an Add or an Insert; a table of bounded updates (`SizedTable`). Main laws, at the end: `text_length` and `short-text-length`, by the number of rows.
-- That no report of a set passes its bound is `report-length` of `ReportLaws`.
use Rattle.std.specs.Prelude.{ℕ, zero, suc, ◌+◌, ◌-◌, ◌*◌, ◌≤◌, ◌<◌, min, ◌≡◌, Bool, true, cond}
use Rattle.std.proofs.Common.{zero-le, not-suc-le-zero, le_of_suc-le-suc, le_refl, eq-or-lt_of_le, add-le-add, mul-add, mul-le-mul_left, mul-le-mul_right, sym, ◌∙◌, ap, ⊎_elim, length-append}
use Prim.Native.String.{String}
use Rattle.std.proofs.Math.Nat.{le_trans, le-min}
use native.Mathlib.Omega.{arith}
use Rattle.std.proofs.Math.Path.{refl, subst}
use mathlib.Core.List.Memᴰ
use mathlib.Core.List.{List, [], ◌∷◌, ◌++◌, map}
use Rattle.std.proofs.Math.ListN.{length, length-map}
use Rattle.bytes_order.specs.Member.{◌∈◌, keep, concat_map}
use Rattle.bytes_order.specs.MemberLaws.{∈-singleton, map-∈, ∈-keep, keep-∈, keep-length, concat_map-∈}
use Rattle.bytes_order.specs.Distinct.{Distinct}
use Rattle.bytes_order.specs.DistinctLaws.{distinct-length, distinct-subset-length}
use Rattle.bytes_order.specs.SortLaws.{sort-∈, sort-length, sort-distinct}
use Rattle.update_format.specs.declared.Bounds.{Bounds}
use Rattle.update_format.specs.Update.{id_length, tag_length, Operation, Add, Remove, Insert, Delete, BoundedOperation, add, remove, insert, delete, Update, Bounded}
use Rattle.rules.specs.Standing.{Rules}
use Rattle.rules.specs.declared.Form.TheVariants.{Full, Short}
use Rattle.rules.specs.declared.MarkKind.{MarkKind}
use Rattle.rules.specs.declared.MarkKind.TheVariants.{Fork, Fault, Both}
use Rattle.rules.specs.SetEntry.{SetEntry, entry_key}
use Rattle.rules.specs.Mark.{Mark, mark_key}
use Rattle.rules.specs.Settle.{Row, Table, Standing, held, waiting, void, is_held, is_waiting, is_void, is_insert, heads, marks_in, marks, tags_of, set_entries_from, set_entries, entries, values_of, list, updates_in, parts_in}
use Rattle.bytes_ascii.specs.Ascii.{codes, ascii, hex, decimal}
use Rattle.bytes_ascii.specs.AsciiLaws.{hex-length, decimal-longer}
use Rattle.rules.proofs.TableLaws.{add-sized, set_entries_from-∈}
use Rattle.rules.proofs.MarkLaws.{marks-by-author, marks-by-few}
use Rattle.rules.specs.Report.{pair_line, author_line, update_line, set_line, bytes_line, id_line, mark_word, mark_line, part_text, read_offs_text, report_text, author_digits, report_size}
use Rattle.bytes_order.specs.CountLaws.{one_if, keep-three-length, concat_map-length, keep-concat_map-length}

-- lines

pair-line-length : (x y : List ℕ) → length (pair_line x y) ≡ 4 + length x + length y
unfolding ascii codes
pair-line-length x y =
    let e = length-append y (ascii ")\n") in
    let f = length-append x (ascii " " ++ (y ++ ascii ")\n")) in
    omega arith

mark-word-length : (k : MarkKind) → length (mark_word k) ≤ 5
unfolding mark_word ascii codes
mark-word-length Fork = omega arith
mark-word-length Fault = omega arith
mark-word-length Both = omega arith

-- an author's digits are no more than those of the largest
pub author-digits : (b : Bounds) (a : ℕ) → a < b.authors → length (decimal a) ≤ author_digits b
unfolding author_digits
author-digits b a h = decimal-longer a (b.authors - 1) (omega arith)

pub mark-line-length : (b : Bounds) (m : Mark) → m.author < b.authors → length (mark_line m) ≤ 9 + author_digits b
unfolding mark_line
mark-line-length b m h =
    let d = author-digits b m.author h in
    let w = mark-word-length m.kind in
    let e = pair-line-length (decimal m.author) (mark_word m.kind) in
    omega arith

pub bytes-line-length : (bs : List ℕ) → length (bytes_line bs) ≡ 3 + 2 * length bs
unfolding bytes_line ascii codes
bytes-line-length bs =
    let x = hex-length bs in
    let e = length-append (hex bs) (ascii ")\n") in
    omega arith

pub author-line-length : (b : Bounds) (bs : List ℕ) (a : ℕ) → a < b.authors → length (author_line bs a) ≤ 4 + author_digits b + 2 * length bs
author-line-length b bs a h =
    let d = author-digits b a h in
    let x = hex-length bs in
    let e = pair-line-length (hex bs) (decimal a) in
    omega arith

update-line-length : (b : Bounds) (rules : Rules) (u : Update) → length (rules.ident u) ≡ id_length → u.author < b.authors → length (update_line rules u) ≤ 68 + author_digits b
unfolding update_line
update-line-length b rules u h a = let e = author-line-length b (rules.ident u) u.author a in omega arith

set-line-length : (b : Bounds) (e : SetEntry) → length e.tag ≡ tag_length → e.author < b.authors → length (set_line e) ≤ 36 + author_digits b
unfolding set_line
set-line-length b e h a = let f = author-line-length b e.tag e.author a in omega arith

-- lines of at most w bytes: three lists of them that are together n, and two of which the second's are shorter
pub three-lines : (w a b c : ℕ) {n : ℕ} → a + b + c ≤ n → w * a + w * b + w * c ≤ w * n
three-lines w a b c {n} h =
    subst (λ (k : ℕ). k ≤ w * n) (mul-add w (a + b) c ∙ ap (λ (k : ℕ). k + w * c) (mul-add w a b)) (mul-le-mul_left w h)

pub two-lines : (w a b : ℕ) {v n : ℕ} → v ≤ w → a + b ≤ n → w * a + v * b ≤ w * n
two-lines w a b {v} {n} l h =
    le_trans (add-le-add (le_refl (w * a)) (mul-le-mul_right b l)) (subst (λ (k : ℕ). k ≤ w * n) (mul-add w a b) (mul-le-mul_left w h))

-- at most n bytes
record AtMost (bs : List ℕ) (n : ℕ) : Type 0 where
  at_most : length bs ≤ n

-- a part, whose word has w bytes and whose lines have n
part-at-most : {A : Type 0} (word : String) (line : A → List ℕ) (xs : List A) {rest : List ℕ} {w n m : ℕ} → length (ascii word) ≡ w
    → length (concat_map line xs) ≤ n → AtMost rest m → AtMost (part_text word line xs rest) (w + n + 2 + m)
unfolding part_text ascii codes
part-at-most word line xs {rest} p h k =
    let a = length-append (ascii word) (concat_map line xs ++ (ascii ")\n" ++ rest)) in
    let b = length-append (concat_map line xs) (ascii ")\n" ++ rest) in
    let c = k.at_most in
    record { at_most = omega arith }

-- the numbers below n, as keys
below : ℕ → List (List ℕ)
below zero = []
below (suc n) = (n ∷ []) ∷ below n

below_length : (n : ℕ) → length (below n) ≡ n
unfolding below
below_length zero = refl
below_length (suc n) = ap suc (below_length n)

∈-below : (a n : ℕ) → a < n → (a ∷ []) ∈ below n
unfolding below
∈-below a zero h = absurd (not-suc-le-zero h)
∈-below a (suc n) h = ⊎_elim (λ (e : a ≡ n). Memᴰ.head (ap (λ (k : ℕ). k ∷ []) e)) (λ (k : a < n). Memᴰ.tail (∈-below a n k)) (eq-or-lt_of_le (le_of_suc-le-suc h))

-- no two of the tests of a standing are passed
pub one-standing : (v : Standing) → one_if (is_held v) + one_if (is_waiting v) + one_if (is_void v) ≤ 1
unfolding is_held is_waiting is_void
one-standing held = omega arith
one-standing waiting = omega arith
one-standing void = omega arith

by-verdict : (T : Table)
    → length (keep (λ (r : Row). is_held r.verdict) T) + length (keep (λ (r : Row). is_waiting r.verdict) T) + length (keep (λ (r : Row). is_void r.verdict) T) ≤ length T
by-verdict T = keep-three-length (λ (r : Row). is_held r.verdict) (λ (r : Row). is_waiting r.verdict) (λ (r : Row). is_void r.verdict) T (λ r. one-standing r.verdict)

-- an update is an Add or an Insert, not both
insert_row : Row → Bool
insert_row r = is_insert r.update.op

adds-inserts : (T : Table) → length (concat_map (λ (r : Row). set_entries_from r.update) T) + length (keep insert_row T) ≤ length T
unfolding concat_map keep set_entries_from tags_of is_insert insert_row
adds-inserts [] = zero-le
adds-inserts (r ∷ T) = step r.update.op (concat_map (λ (q : Row). set_entries_from q.update) T) (keep insert_row T) (adds-inserts T)
  where
    step : (o : Operation) (es : List SetEntry) (is : Table) → length es + length is ≤ length T
        → length (map (λ (t : List ℕ). record { tag = t; author = r.update.author }) (tags_of o) ++ es) + length (cond (is_insert o) (r ∷ is) is) ≤ suc (length T)
    step (Add t) es is h = omega arith
    step (Remove t named) es is h = omega arith
    step (Insert a v) es is h = omega arith
    step (Delete i) es is h = omega arith

values-few : (o : Operation) → length (values_of o) ≤ 1
unfolding values_of
values-few (Add t) = omega arith
values-few (Remove t named) = omega arith
values-few (Insert a v) = omega arith
values-few (Delete i) = omega arith

value-sized : {o : Operation} {v : List ℕ} → BoundedOperation o → v ∈ values_of o → length v ≡ tag_length
unfolding values_of
value-sized (add h) m = absurd (Memᴰ.not-nil m)
value-sized (remove h is) m = absurd (Memᴰ.not-nil m)
value-sized (insert h k) m = ap length (∈-singleton m) ∙ k
value-sized (delete h) m = absurd (Memᴰ.not-nil m)

-- a table of bounded updates, whose entries are Inserts of its own, each once
pub record SizedTable (b : Bounds) (T : Table) : Type 0 where
  pub bounded : (r : Row) → r ∈ T → Bounded b r.update
  pub entry_row : (r : Row) → r ∈ entries T → r ∈ T
  pub entry_insert : (r : Row) → r ∈ entries T → is_insert r.update.op ≡ true
  pub entry_once : Distinct (λ (r : Row). r.id) (entries T)

module _ (rules : Rules) (id_sized : (u : Update) → length (rules.ident u) ≡ id_length) (b : Bounds) (T : Table) (sized : SizedTable b T) where
  abbrev digits : ℕ
  digits = author_digits b

  updates-length : (p : Row → Bool) → length (concat_map (update_line rules) (updates_in (keep p T))) ≤ (68 + digits) * length (keep p T)
  updates-length p =
      rw (← length-map (keep p T) (λ (r : Row). r.update))
      (concat_map-length (update_line rules) (68 + digits) (updates_in (keep p T))
      (λ u m. update-line-length b rules u (id_sized u) (kept-bounded u m).author_small))
    where
      kept-bounded : (u : Update) → u ∈ updates_in (keep p T) → Bounded b u
      kept-bounded u m =
          let f = map-∈ (λ (r : Row). r.update) (keep p T) m in
          subst (Bounded b) f.2 (sized.bounded f.0 (keep-∈ p T f.1).0)

  heads-length : length (concat_map (id_line rules) (updates_in (heads T))) ≤ 67 * length (heads T)
  unfolding id_line
  heads-length =
      rw (← length-map (heads T) (λ (r : Row). r.update)) (concat_map-length (id_line rules) 67 (updates_in (heads T)) (λ u m. line u (id_sized u)))
    where
      line : (u : Update) → length (rules.ident u) ≡ id_length → length (bytes_line (rules.ident u)) ≤ 67
      line u h = let e = bytes-line-length (rules.ident u) in omega arith

  heads-few : length (heads T) ≤ length T
  unfolding heads
  heads-few = keep-length _ T

  mark-small : (m : Mark) → m ∈ marks T → m.author < b.authors
  unfolding marks marks_in
  mark-small m n =
      let r = concat_map-∈ (λ (r : Row). marks_in T r.update.author) T (sort-∈ mark_key _ n) in
      subst (λ (a : ℕ). a < b.authors) (sym (marks-by-author r.0.update.author _ _ r.2)) (sized.bounded r.0 r.1).author_small

  -- no author is marked twice, and each by one of its updates
  marks-few : length (marks T) ≤ b.authors
  unfolding marks mark_key
  marks-few =
      subst (λ (n : ℕ). length (marks T) ≤ n) (below_length b.authors)
      (distinct-length distinct (below b.authors) (λ m n. ∈-below m.author b.authors (mark-small m n)))
    where
      distinct : Distinct mark_key (marks T)
      distinct = sort-distinct mark_key _

  marks-rows : length (marks T) ≤ length T
  unfolding marks marks_in
  marks-rows =
      omega (
        arith,
        sort-length mark_key (concat_map (λ (r : Row). marks_in T r.update.author) T),
        concat_map-length (λ (r : Row). marks_in T r.update.author) 1 T (λ r m. marks-by-few r.update.author _ _),
      )

  abbrev marked_most : ℕ
  marked_most = min b.authors (length T)

  marks-length : length (concat_map mark_line (marks T)) ≤ (9 + digits) * marked_most
  marks-length =
      le_trans (concat_map-length mark_line (9 + digits) (marks T) (λ m n. mark-line-length b m (mark-small m n)))
      (mul-le-mul_left (9 + digits) (le-min marks-few marks-rows))

  set-length : length (concat_map set_line (set_entries T)) ≤ (36 + digits) * length (set_entries T)
  unfolding set_entries
  set-length = concat_map-length set_line (36 + digits) (set_entries T) line
    where
      line : (e : SetEntry) → e ∈ set_entries T → length (set_line e) ≤ 36 + digits
      line e m =
          let r = concat_map-∈ (λ (r : Row). set_entries_from r.update) _ (sort-∈ entry_key _ m) in
          let w = sized.bounded r.0 (keep-∈ _ T r.1).0 in
          let f = set_entries_from-∈ r.0.update r.2 in
          set-line-length b e (add-sized w.op_bounded f.0) (subst (λ (a : ℕ). a < b.authors) f.1 w.author_small)

  -- no more entries than Adds
  set-few : length (set_entries T) ≤ length (concat_map (λ (r : Row). set_entries_from r.update) T)
  unfolding set_entries
  set-few = le_trans (sort-length entry_key _) (keep-concat_map-length (λ (r : Row). set_entries_from r.update) _ T)

  list_length : length (concat_map bytes_line (list T)) ≤ 35 * length (list T)
  unfolding list
  list_length = concat_map-length bytes_line 35 (list T) line
    where
      line : (v : List ℕ) → v ∈ list T → length (bytes_line v) ≤ 35
      line v m =
          let r = concat_map-∈ (λ (r : Row). values_of r.update.op) _ m in
          let h = value-sized (sized.bounded r.0 (sized.entry_row r.0 (keep-∈ _ (entries T) r.1).0)).op_bounded r.2 in
          let e = bytes-line-length v in
          omega arith

  -- no more values than Inserts
  list-few : length (list T) ≤ length (keep insert_row T)
  unfolding list insert_row
  list-few =
      let h : length (list T) ≤ length (concat_map (λ (r : Row). values_of r.update.op) (entries T)) = keep-concat_map-length (λ (r : Row). values_of r.update.op) _ (entries T) in
      let k = concat_map-length (λ (r : Row). values_of r.update.op) 1 (entries T) (λ r m. values-few r.update.op) in
      let d = distinct-subset-length sized.entry_once (keep insert_row T) (λ r m. ∈-keep insert_row (sized.entry_row r m) (sized.entry_insert r m)) in
      omega arith

  -- the parts of both forms
  read-offs-at-most : AtMost (read_offs_text (parts_in T)) (26 + (9 + digits) * marked_most + ((36 + digits) * length (set_entries T) + 35 * length (list T)))
  unfolding parts_in ascii codes
  read-offs-at-most =
      let l = part-at-most "(list\n" bytes_line (list T) refl list_length end in
      let s = part-at-most "(set\n" set_line (set_entries T) refl set-length l in
      let m = part-at-most "(marks\n" mark_line (marks T) refl marks-length s in
      let all = m.at_most in
      record { at_most = omega arith }
    where
      end : AtMost (ascii ")\n") 2
      end = record { at_most = omega arith }

  -- no more entries and values than Adds and Inserts
  read-offs-few : length (set_entries T) + length (list T) ≤ length T
  read-offs-few =
      let shown-entries = set-few in
      let shown-values = list-few in
      let shown = adds-inserts T in
      omega arith

  read-offs-lines : (36 + digits) * length (set_entries T) + 35 * length (list T) ≤ (36 + digits) * length T
  read-offs-lines = two-lines (36 + digits) (length (set_entries T)) (length (list T)) (omega arith) read-offs-few

  -- all of the full form, by the number of rows
  pub text_length : length (report_text Full rules (parts_in T)) ≤ report_size b (length T) Full
  unfolding report_text parts_in ascii codes report_size
  text_length =
      let v = part-at-most "(void\n" (update_line rules) (parts_in T).void refl (updates-length (λ r. is_void r.verdict)) read-offs-at-most in
      let w = part-at-most "(waiting\n" (update_line rules) (parts_in T).waiting refl (updates-length (λ r. is_waiting r.verdict)) v in
      let t = part-at-most "(heads\n" (id_line rules) (parts_in T).heads refl heads-length w in
      let h = part-at-most "(held\n" (update_line rules) (parts_in T).held refl (updates-length (λ r. is_held r.verdict)) t in
      let all = h.at_most in
      let rows = three-lines (68 + digits) (length (keep (λ (r : Row). is_held r.verdict) T)) (length (keep (λ (r : Row). is_waiting r.verdict) T))
      (length (keep (λ (r : Row). is_void r.verdict) T)) (by-verdict T) in
      let tops = heads-few in
      let shown = read-offs-lines in
      omega arith

  -- .. and of the short one
  pub short-text-length : length (report_text Short rules (parts_in T)) ≤ report_size b (length T) Short
  unfolding report_text ascii codes report_size
  short-text-length =
      let all = read-offs-at-most.at_most in
      let shown = read-offs-lines in
      omega arith
