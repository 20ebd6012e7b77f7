-- What is computed from a settled table is what `ReadOff` defines: heads, set and list. (Marks: `MarkLaws`.)
use Rattle.std.specs.Prelude.{ℕ, ◌≡◌, true, ◌&&◌, length}
use Rattle.std.proofs.Common.{arith, ◌∙◌, subst}
use Rattle.std.proofs.Math.Path.{sym, ap}
use mathlib.Core.List.{List}
use Rattle.std.proofs.Math.Bool.{Bool, not}
use Rattle.bytes_order.specs.Member.{◌∈◌, keep, concat_map}
use Rattle.bytes_order.specs.MemberLaws.{∈-cast, ∈-concat_map, concat_map-∈}
use Rattle.bytes_order.specs.BoolLaws.{true-false}
use Rattle.bytes_order.specs.OrderLaws.{same→eq}
use Rattle.bytes_order.specs.SortLaws.{sort-∈, ∈-sort}
use Rattle.bytes_order.specs.Distinct.{Distinct}
use Rattle.update_format.specs.Update.{Id, Update}
use Rattle.rules.specs.declared.CausalOrder.TheVariants.{Before}
use Rattle.rules.specs.Standing.{Rules, beginning, Ancestor, Held}
use Rattle.rules.specs.SetEntry.{SetEntry, entry_key}
use Rattle.rules.specs.ReadOff.{Head, Removed, Present, Rank, InsertAt, Walk, Shown, Listed}
use Rattle.rules.specs.CausalOrder.{is_before}
use Rattle.rules.specs.Settle.{Row, Table, held, order_in, held_row, covered, heads, removed, names, set_entries_from, set_entries, list, entries, rank, updates_in}
use Rattle.rules.proofs.Decides.{Decides}
use Rattle.rules.proofs.CausalLaws.{is_before→}
use Rattle.rules.proofs.SetEntryLaws.{entry-key-identifies}
use Rattle.rules.proofs.TableLaws.{not-true→, not-true, set_entries_from-∈, ∈-set_entries_from, names→, →names, HeldRow, any-held→, →any-held, keep-held→, →keep-held, row-held, row-id, row-rank, held-row, row-order, rank-bound}
use Rattle.rules.proofs.WalkLaws.{Entry, at_beginning, first_rows, siblings-∈, walk-entry, walk-all, walk-distinct}
use Rattle.rules.proofs.ListedLaws.{first_right, walk-right, shown-right, siblings-unique, walk-unique, shown-unique}

module _ (rules : Rules) (S : List Update) (T : Table) (distinct : Distinct rules.ident S) (decides : Decides rules S T) where
  -- heads

  covered→ : (r : Row) → HeldRow T r → covered T r ≡ true → (v : Update) × Held rules S v × Ancestor rules S r.update v
  unfolding covered
  covered→ r h e =
      let f = any-held→ T (λ (q : Row). is_before (order_in T r.id q.id)) e in
      (f.0.update, row-held distinct decides f.1, (row-order distinct decides h f.1).right Before (is_before→ (order_in T r.id f.0.id) f.2))

  →covered : (r : Row) → HeldRow T r → (v : Update) → Held rules S v → Ancestor rules S r.update v → covered T r ≡ true
  unfolding covered is_before
  →covered r h v k a =
      let f = held-row distinct decides k in
      →any-held T (λ (q : Row). is_before (order_in T r.id q.id)) f.1
      (ap is_before ((row-order distinct decides h f.1).all Before (subst (Ancestor rules S r.update) (sym f.2) a)))

  pub head-right : (r : Row) → r ∈ heads T → Head rules S r.update
  unfolding heads
  head-right r m =
      let f = keep-held→ T (λ (q : Row). not (covered T q)) m in
      record { is-held = row-held distinct decides f.0; on-top = λ v k a. true-false (→covered r f.0 v k a) (not-true→ (covered T r) f.1) }

  pub head-all : (u : Update) → Head rules S u → (r : Row) × (r ∈ heads T) × (r.update ≡ u)
  unfolding heads
  head-all u h =
      let f = held-row distinct decides h.is-held in (
        f.0,
        →keep-held T (λ (q : Row). not (covered T q)) f.1
            (not-true (covered T f.0) (λ e. let c = covered→ f.0 f.1 e in h.on-top c.0 c.1 (subst (λ (x : Update). Ancestor rules S x c.0) f.2 c.2))),
        f.2,
      )

  -- the set

  removed→ : {r : Row} → HeldRow T r → removed T r.id ≡ true → Removed rules S (rules.ident r.update)
  unfolding removed
  removed→ {r} h e =
      let f = any-held→ T (λ (q : Row). names r.id q.update.op) e in
      let g = names→ r.id f.0.update.op f.2 in
      record { by = f.0.update; by-held = row-held distinct decides f.1; tag = g.0; named = g.1; is-remove = g.2; names = ∈-cast (sym (row-id distinct decides h)) g.3 }

  →removed : {r : Row} → HeldRow T r → Removed rules S (rules.ident r.update) → removed T r.id ≡ true
  unfolding removed
  →removed {r} h k =
      let f = held-row distinct decides k.by-held in
      →any-held T (λ (q : Row). names r.id q.update.op) f.1
      (→names (ap (λ (u : Update). u.op) f.2 ∙ k.is-remove) (∈-cast (row-id distinct decides h) k.names))

  pub set-entry-right : (e : SetEntry) → e ∈ set_entries T → Present rules S e.tag e.author
  unfolding set_entries
  set-entry-right e m =
      let p : Row → Bool = λ (r : Row). not (removed T r.id) in
      let F : Row → List SetEntry = λ (r : Row). set_entries_from r.update in
      let k = concat_map-∈ F (keep (λ (r : Row). held_row r && p r) T) (sort-∈ entry_key (concat_map F (keep (λ (r : Row). held_row r && p r) T)) m) in
      let f = keep-held→ T p k.1 in
      let a = set_entries_from-∈ k.0.update k.2 in
      record {
        add = k.0.update;
        add-held = row-held distinct decides f.0;
        is-add = a.0;
        added-by = a.1;
        kept = λ x. true-false (→removed f.0 x) (not-true→ (removed T k.0.id) f.1);
      }

  pub set-entry-all : (e : SetEntry) → Present rules S e.tag e.author → e ∈ set_entries T
  unfolding set_entries
  set-entry-all e h =
      let f = held-row distinct decides h.add-held in
      ∈-sort entry_key (entry-key-identifies _)
      (∈-concat_map (λ (r : Row). set_entries_from r.update)
      (→keep-held T (λ (r : Row). not (removed T r.id)) f.1 (not-true (removed T f.0.id) (λ e. h.kept (subst (λ (u : Update). Removed rules S (rules.ident u)) f.2 (removed→ f.1 e)))))
      (∈-set_entries_from f.0.update (ap (λ (u : Update). u.op) f.2 ∙ h.is-add) (ap (λ (u : Update). u.author) f.2 ∙ h.added-by)))

  -- the list

  pub rank_right : (r : Row) → r ∈ T → r.verdict ≡ held → Rank rules S r.update (rank r)
  rank_right r m e = row-rank distinct decides (record { row-in = m; ruled_held = e })

  first_entry : (r : Row) → r ∈ first_rows T → Entry T r
  first_entry r m = (siblings-∈ distinct decides at_beginning m).0

  entries-∈ : (r : Row) → r ∈ entries T → Entry T r
  unfolding entries
  entries-∈ r m = walk-entry distinct decides (length T) (first_rows T) first_entry m

  -- each held Insert is met exactly once
  pub entry-right : (r : Row) → r ∈ entries T → (r ∈ T) × (a : Id) × InsertAt rules S a r.update
  entry-right r m =
      let e = entries-∈ r m in
      (e.row.row-in, e.anchor, record { is-held = row-held distinct decides e.row; value = e.value; is-insert = e.is-insert })

  pub entry-all : (a : Id) (u : Update) → InsertAt rules S a u → (r : Row) × (r ∈ entries T) × (r.update ≡ u)
  unfolding entries
  entry-all a u h =
      let f = held-row distinct decides h.is-held in
      let e : Entry T f.0 = record { row = f.1; anchor = a; value = h.value; is-insert = ap (λ (v : Update). v.op) f.2 ∙ h.is-insert } in
      (f.0, walk-all distinct decides (length T) f.0 e (rank-bound distinct decides f.1), f.2)

  pub entry_once : Distinct (λ (r : Row). r.id) (entries T)
  unfolding entries
  entry_once = walk-distinct distinct decides (length T) at_beginning (λ a b p q. same→eq a beginning p ∙ sym (same→eq b beginning q))

  pub list_right : Listed rules S (list T)
  unfolding list entries
  list_right = record {
    first = updates_in (first_rows T);
    walk = updates_in (entries T);
    siblings = first_right distinct decides;
    walked = walk-right distinct decides (length T) (first_rows T) (λ e m. (first_entry e m).row) (λ e m. omega arith);
    shows = shown-right distinct decides (entries T) entries-∈;
  }

-- the definition determines the list
pub listed-unique : (rules : Rules) (S : List Update) → Distinct rules.ident S → {vs ws : List (List ℕ)} → Listed rules S vs → Listed rules S ws → vs ≡ ws
listed-unique rules S distinct {vs} l m =
    let w = walk-unique (subst (λ (es : List Update). Walk rules S es l.walk) (siblings-unique l.siblings m.siblings) l.walked) m.walked in
    shown-unique (subst (λ (es : List Update). Shown rules S es vs) w l.shows) m.shows
