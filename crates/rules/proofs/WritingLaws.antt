-- A written update is laid out, is held where it is offered next, and so is then no fault, and forms no fork with the held updates of an author without a fork.
use Rattle.std.specs.Prelude.{◌≡◌, refl, ◌⊎◌, ℕ, ◌≤◌, ◌<◌, List, [], ◌∷◌, ◌++◌, true, false}
use Rattle.std.proofs.Common.{sym, ◌∙◌, inl, inr, ⊎_elim, le_trans}
use Rattle.std.proofs.Math.Path.{ap, subst}
use mathlib.Core.List.Memᴰ
use Rattle.std.proofs.Math.ListN.{length}
use Rattle.std.proofs.lemmas.List.{length-map}
use Rattle.bytes_order.specs.Member.{◌∈◌}
use Rattle.bytes_order.specs.BoolLaws.{true-false}
use Rattle.bytes_order.specs.MemberLaws.{∈-singleton, ∈-cast, ∈-append-right, ∈-map, map-∈}
use Rattle.bytes_order.specs.Distinct.{Distinct, distinct_nil, distinct_cons}
use Rattle.bytes_order.specs.DistinctLaws.{distinct-eq, distinct_append}
use Rattle.bytes_order.specs.SortLaws.{Ascending→ascending}
use Rattle.update_format.specs.declared.Bounds.{Bounds}
use Rattle.update_format.specs.Update.{Id, id_length, Operation, Add, Update, Bounded, BoundedOperation}
use Rattle.rules.specs.Standing.{Rules, Ancestor, Known, Fine, Held, PredsHeld, Void}
use Rattle.rules.specs.ReadOff.{Head, Forked, Fault}
use Rattle.rules.specs.Settle.{held, Row, Table, settled_table, heads, valid_op}
use Rattle.rules.proofs.Decides.{Decides}
use Rattle.rules.proofs.LeastSets.{held-stored, held-not-void}
use Rattle.rules.proofs.Growth.{extended, added_more, Reached, grow-ancestor, grow-ready, grow-broken, held-cases, held_kept}
use Rattle.rules.proofs.SettlingTable.{PredecessorsHeld, preds-known, preds-held, valid→, →valid}
use Rattle.rules.proofs.Settling.{settled-ascending, settled-decides}
use Rattle.rules.proofs.TableLaws.{decides-sound, row-eq, row-id, held-row, above→ancestor}
use Rattle.rules.proofs.ReadOffLaws.{head-right, head-all}
use Rattle.rules.proofs.MarkLaws.{held-no-fault}
use Rattle.rules.proofs.ChoiceLaws.{row_id, chosen-all, chosen-few, chosen-ascending, chosen-head, chosen-some, head-row, some-head, named}
use Rattle.rules.specs.Writing.{chosen, written_in, writable_in, written_of, writable_of}

module _ (rules : Rules) (most : ℕ) (S : List Update) (distinct : Distinct rules.ident S) (a : ℕ) (o : Operation) where
  abbrev table : Table
  table = settled_table rules S

  decides : Decides rules S table
  decides = settled-decides rules S distinct

  -- the row of a predecessor
  pred-head : {i : Id} → i ∈ (written_of rules most S a o).preds → (r : Row) × (r ∈ heads table) × (r.id ≡ i)
  unfolding written_of written_in
  pred-head m = let f = map-∈ row_id (chosen most table a) m in (f.0, chosen-head most table a f.1, f.2)

  -- it is bounded, so that it decodes to itself
  pub written-bounded : {bounds : Bounds} → most ≤ bounds.predecessors → ((u : Update) → length (rules.ident u) ≡ id_length) → a < bounds.authors → BoundedOperation o
      → Bounded bounds (written_of rules most S a o)
  unfolding written_of written_in
  written-bounded {bounds} within sized small op =
      record {
        author_small = small;
        preds_bounded = record {
          few = subst (λ (n : ℕ). n ≤ bounds.predecessors) (sym (length-map (chosen most table a) row_id)) (le_trans (chosen-few most table a) within);
          sized = λ i m. let f = pred-head m in ap length (sym f.2 ∙ row-id distinct decides (head-row distinct decides f.1)) ∙ sized f.0.update;
          ordered = Ascending→ascending (chosen-ascending most table a (settled-ascending rules S));
        };
        op_bounded = op;
      }

  -- it names heads only, and all of them where they are at most as many as an update may name
  pub written-heads : (i : Id) → i ∈ (written_of rules most S a o).preds → (u : Update) × Head rules S u × (rules.ident u ≡ i)
  written-heads i m =
      let f = pred-head m in
      (f.0.update, head-right rules S table distinct decides f.0 f.1, sym (row-id distinct decides (head-row distinct decides f.1)) ∙ f.2)

  pub written-all-heads : length (heads (settled_table rules S)) ≤ most → (u : Update) → Head rules S u → rules.ident u ∈ (written_of rules most S a o).preds
  unfolding written_of written_in
  written-all-heads few u h =
      let f = head-all rules S table distinct decides u h in
      let m : f.0 ∈ chosen most table a = subst (λ (rs : Table). f.0 ∈ rs) (sym (chosen-all most table a few)) f.1 in
      ∈-cast (sym (row-id distinct decides (head-row distinct decides f.1) ∙ ap rules.ident f.2)) (∈-map row_id m)

  -- the predecessors are held, and none is an ancestor of a held update

  ready : PredecessorsHeld table (written_of rules most S a o)
  ready =
      record {
        held-row = λ i m. let f = pred-head m in let k = head-row distinct decides f.1 in (f.0, k.row-in, f.2, k.ruled_held);
      }

  known : Known rules S (written_of rules most S a o)
  known = preds-known (decides-sound decides) ready

  below : PredsHeld rules S (written_of rules most S a o)
  below = preds-held (decides-sound decides) ready

  pred-on-top : {x : Update} → x ∈ S → rules.ident x ∈ (written_of rules most S a o).preds → (v : Update) → Held rules S v → Ancestor rules S x v → ⊥
  pred-on-top {x} m p v k b =
      let f = written-heads (rules.ident x) p in
      f.1.on-top v k (subst (λ (y : Update). Ancestor rules S y v) (distinct-eq distinct m (held-stored rules S f.1.is-held) (sym f.2)) b)

  -- writable is fine

  writable-fine : writable_of rules most S a o ≡ true → Fine rules S (written_of rules most S a o)
  unfolding written_of written_in writable_of writable_in
  writable-fine e =
      record { antichain = λ x y m n p q. pred-on-top m p y (below y n q); valid = valid→ (decides-sound decides) ready o e }

  fine-writable : Fine rules S (written_of rules most S a o) → writable_of rules most S a o ≡ true
  unfolding written_of written_in writable_of writable_in
  fine-writable f = →valid (decides-sound decides) ready o f.valid

  -- no stored update has its id
  abbrev New : Type 0
  New = (u : Update) → u ∈ S → rules.ident u ≡ rules.ident (written_of rules most S a o) → ⊥

  added-distinct : New → Distinct rules.ident (extended S (written_of rules most S a o))
  added-distinct new =
      distinct_append distinct (distinct_cons (λ y m. absurd (Memᴰ.not-nil m)) distinct_nil)
      (λ x y m k e. new x m (e ∙ ap rules.ident (∈-singleton k)))

  -- offered next, where no stored update has its id, it is held exactly when it was writable
  pub written_held : ((u : Update) → u ∈ S → rules.ident u ≡ rules.ident (written_of rules most S a o) → ⊥) → writable_of rules most S a o ≡ true
      → Held rules (S ++ (written_of rules most S a o ∷ [])) (written_of rules most S a o)
  written_held new e =
      let w : Update = written_of rules most S a o in
      grow-ready rules S (extended S w) (added_more S w) (added-distinct new) (∈-append-right S (Memᴰ.head refl)) known below
      (λ v m p. held_kept rules S w (added-distinct new) (below v m p)) (writable-fine e)

  -- and so it is no fault
  pub written-no-fault : ((u : Update) → u ∈ S → rules.ident u ≡ rules.ident (written_of rules most S a o) → ⊥) → writable_of rules most S a o ≡ true
      → Fault rules (S ++ (written_of rules most S a o ∷ [])) (written_of rules most S a o) → ⊥
  written-no-fault new e = held-no-fault rules (S ++ (written_of rules most S a o ∷ [])) (written_held new e)

  -- void otherwise
  pub written-void : ((u : Update) → u ∈ S → rules.ident u ≡ rules.ident (written_of rules most S a o) → ⊥) → writable_of rules most S a o ≡ false
      → Void rules (S ++ (written_of rules most S a o ∷ [])) (written_of rules most S a o)
  written-void new e =
      let w : Update = written_of rules most S a o in
      grow-broken rules S (extended S w) (added_more S w) (added-distinct new) (∈-append-right S (Memᴰ.head refl)) known below
      (λ f. true-false (fine-writable f) e)

  pub unwritable-void : ((u : Update) → u ∈ S → rules.ident u ≡ rules.ident (written_of rules most S a o) → ⊥) → writable_of rules most S a o ≡ false
      → Held rules (S ++ (written_of rules most S a o ∷ [])) (written_of rules most S a o) → ⊥
  unwritable-void new e h = held-not-void rules (S ++ (written_of rules most S a o ∷ [])) h (written-void new e)

  -- a writable one is not stored: a stored update with its id is another update
  pub written_new : 0 < most → writable_of rules most S a o ≡ true → written_of rules most S a o ∈ S → ⊥
  unfolding written_of written_in
  written_new one e m =
      let h : Held rules S (written_of rules most S a o) = Held.held m known below (writable-fine e) in
      let r = held-row distinct decides h in
      let c = chosen-some most table a one (some-head distinct decides r.1).1 in
      let k = head-row distinct decides (chosen-head most table a c.1) in
      let n : c.0.update ∈ S = decides.of_set c.0 k.row-in in
      let p : rules.ident c.0.update ∈ (written_of rules most S a o).preds = ∈-cast (sym (row-id distinct decides k)) (∈-map row_id c.1) in
      pred-on-top n p (written_of rules most S a o) h (Ancestor.direct n p)

  -- every held update of an author without a fork is its ancestor: it forms no fork, also where the author has a fault
  pub written-no-fork : 0 < most → (Forked rules S a → ⊥) → (u : Update) → Held rules S u → u.author ≡ a → Ancestor rules S u (written_of rules most S a o)
  unfolding written_of written_in
  written-no-fork one n u k e =
      let r = held-row distinct decides k in
      let f = named distinct decides (settled-ascending rules S) a most one n r.1 (ap (λ (v : Update). v.author) r.2 ∙ e) in
      let m : f.0.update ∈ S = decides.of_set f.0 f.2.row-in in
      let p : rules.ident f.0.update ∈ (written_of rules most S a o).preds = ∈-cast (sym (row-id distinct decides f.2)) (∈-map row_id f.1) in
      subst (λ (v : Update). Ancestor rules S v (written_of rules most S a o)) r.2
      (⊎_elim
      (λ (i : f.0.id ≡ r.0.id).
      subst (λ (q : Row). Ancestor rules S q.update (written_of rules most S a o)) (row-eq distinct decides f.2.row-in r.1.row-in i) (Ancestor.direct m p))
      (λ (i : r.0.id ∈ f.0.above). Ancestor.further m p (above→ancestor distinct decides r.1 f.2 i)) f.3)

  -- Offered next, where no stored update has its id, it forms no fork either: a held update of its author is then an ancestor of it, is the update itself, or has it as an
  -- ancestor. (Updates that waited for it may be held with it; of those two of the author may fork, or one be a fault.)
  pub written-no-fork-next : ((u : Update) → u ∈ S → rules.ident u ≡ rules.ident (written_of rules most S a o) → ⊥) → 0 < most → (Forked rules S a → ⊥)
      → (u : Update) → Held rules (S ++ (written_of rules most S a o ∷ [])) u → u.author ≡ a
      → Ancestor rules (S ++ (written_of rules most S a o ∷ [])) u (written_of rules most S a o) ⊎ Reached rules S (written_of rules most S a o) u
  written-no-fork-next new one n u h e =
      let w : Update = written_of rules most S a o in
      ⊎_elim
      (λ (k : Held rules S u). inl (grow-ancestor rules S (extended S w) (added_more S w) (added-distinct new) (written-no-fork one n u k e)))
      inr
      (held-cases rules S w (added-distinct new) h)

-- an Add is always writable
pub add-writable : (rules : Rules) (most : ℕ) (S : List Update) (a : ℕ) (t : List ℕ) → writable_of rules most S a (Add t) ≡ true
unfolding writable_of writable_in valid_op
add-writable rules most S a t = refl
