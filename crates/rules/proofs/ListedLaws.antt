-- The walk of a settled table, and the values it shows, are those that `ReadOff` defines; and `ReadOff` defines one list.
use Prim.Native.Nat.{ℕ, zero, suc, ◌+◌, ◌≤◌, ◌<◌}
use Rattle.std.proofs.Common.{arith, sym, ◌∙◌, subst₂, inl, inr, ⊎_elim}
use Rattle.std.specs.Prelude.{◌≡◌, ◌⊎◌, true, false, cond, not, ◌&&◌}
use Rattle.std.proofs.Math.Path.{refl, ap, subst}
use mathlib.Core.List.Memᴰ
use mathlib.Core.List.{List, [], ◌∷◌, ◌++◌, reverse_aux, map-append}
use Rattle.std.proofs.Math.Bool.{Bool}
use Rattle.std.proofs.Math.ListN.{length}
use Rattle.bytes_order.specs.Order.{before}
use Rattle.bytes_order.specs.Member.{◌∈◌, keep, concat_map, SameMembers}
use Rattle.bytes_order.specs.MemberLaws.{∈-cases, ∈-cast, ∈-map, map-∈}
use Rattle.bytes_order.specs.BoolLaws.{true-false}
use Rattle.bytes_order.specs.OrderLaws.{same→eq, eq→same, before-asym}
use Rattle.bytes_order.specs.Distinct.{Distinct}
use Rattle.bytes_order.specs.DistinctLaws.{distinct-same-length}
use Rattle.bytes_order.specs.Ascending.{Ascending, ascending-nil, ascending-cons}
use Rattle.bytes_order.specs.SortLaws.{sort-∈, sort-ascending}
use Rattle.update_format.specs.Update.{Id, Delete, Update}
use Rattle.rules.specs.Standing.{Rules, beginning}
use Rattle.rules.specs.ReadOff.{Deleted, Rank, InsertAt, Sooner, Ordered, Siblings, AtBeginning, Under, Walk, Shown}
use Rattle.rules.specs.Settle.{Row, Table, held_row, rank, anchored, siblings, under, walk, deletes, deleted, values_of, sibling_key, updates_in}
use Rattle.rules.proofs.Decides.{Decides}
use Rattle.rules.proofs.TableLaws.{deletes→, →deletes, insert-value, insert-values, HeldRow, any-held→, →any-held, keep-held→, row-held, row-id, row-rank, held-row, rank-bound}
use Rattle.rules.proofs.WalkLaws.{Entry, at_beginning, first_rows, siblings-∈, ∈-siblings, child-held, child-rank, under→, →under}

module _ {rules : Rules} {S : List Update} {T : Table} (distinct : Distinct rules.ident S) (decides : Decides rules S T) where
  -- siblings are in order

  sooner : {r q : Row} → HeldRow T r → HeldRow T q → before (sibling_key q) (sibling_key r) ≡ true → Sooner rules S r.update q.update
  sooner {r} {q} h k e = record {
    rank-u = rank r;
    rank-v = rank q;
    is-rank-u = row-rank distinct decides h;
    is-rank-v = row-rank distinct decides k;
    larger = subst₂ (λ (i j : Id). before (rank q ∷ i) (rank r ∷ j) ≡ true) (row-id distinct decides k) (row-id distinct decides h) e;
  }

  ordered-reverse_aux : {xs : Table} → Ascending sibling_key xs → (es : Table) → Ordered rules S (updates_in es)
      → ((r : Row) → r ∈ xs → HeldRow T r) → ((r : Row) → r ∈ es → HeldRow T r)
      → ((r q : Row) → r ∈ xs → q ∈ es → before (sibling_key q) (sibling_key r) ≡ true) → Ordered rules S (updates_in (reverse_aux xs es))
  ordered-reverse_aux ascending-nil es o h k l = o
  ordered-reverse_aux (ascending-cons {x = x} {xs = xs} b a) es o h k l =
      let hx : HeldRow T x = h x (Memᴰ.head refl) in
      ordered-reverse_aux a (x ∷ es)
      (Ordered.first (λ v m. let f = map-∈ (λ (r : Row). r.update) es m in
      subst (Sooner rules S x.update) f.2 (sooner hx (k f.0 f.1) (l x f.0 (Memᴰ.head refl) f.1))) o)
      (λ r i. h r (Memᴰ.tail i)) (λ r i. ⊎_elim (λ (q : r ≡ x). subst (HeldRow T) (sym q) hx) (λ (j : r ∈ es). k r j) (∈-cases i))
      (λ r q i j. ⊎_elim (λ (e : q ≡ x). subst (λ (y : Row). before (sibling_key y) (sibling_key r) ≡ true) (sym e) (b r i))
      (λ (m : q ∈ es). l r q (Memᴰ.tail i) m) (∈-cases j))

  siblings-ordered : (p : Id → Bool) → Ordered rules S (updates_in (siblings T p))
  unfolding siblings
  siblings-ordered p =
      let P : Row → Bool = λ (q : Row). anchored p q.update.op in
      let K : Table = keep (λ (q : Row). held_row q && P q) T in
      ordered-reverse_aux (sort-ascending sibling_key K) [] Ordered.none
      (λ r i. (keep-held→ T P (sort-∈ sibling_key K i)).0) (λ r i. absurd (Memᴰ.not-nil i)) (λ r q i j. absurd (Memᴰ.not-nil j))

  siblings-right : (p : Id → Bool) (At : Update → Type 0) → ((u : Update) → At u → (a : Id) × InsertAt rules S a u × (p a ≡ true))
      → ((a : Id) (u : Update) → InsertAt rules S a u → p a ≡ true → At u) → Siblings rules S At (updates_in (siblings T p))
  siblings-right p At to from = record {
    ordered = siblings-ordered p;
    all_in = λ u h.
        let t = to u h in
        let f = held-row distinct decides t.1.is-held in
        let k : Entry T f.0 = record { row = f.1; anchor = t.0; value = t.1.value; is-insert = ap (λ (v : Update). v.op) f.2 ∙ t.1.is-insert } in
        ∈-cast (sym f.2) (∈-map (λ (r : Row). r.update) (∈-siblings distinct decides p k t.2));
    only = λ u m.
        let f = map-∈ (λ (r : Row). r.update) (siblings T p) m in
        let k = siblings-∈ distinct decides p f.1 in
        subst At f.2 (from k.0.anchor f.0.update (record { is-held = row-held distinct decides k.0.row; value = k.0.value; is-insert = k.0.is-insert }) k.1);
  }

  pub first_right : Siblings rules S (AtBeginning rules S) (updates_in (first_rows T))
  first_right =
      siblings-right at_beginning (AtBeginning rules S) (λ u h. (beginning, h, eq→same beginning beginning refl))
      (λ a u h e. subst (λ (b : Id). InsertAt rules S b u) (same→eq a beginning e) h)

  under-right : {e : Row} → HeldRow T e → Siblings rules S (Under rules S e.update) (updates_in (siblings T (under e)))
  under-right {e} h =
      let i : e.id ≡ rules.ident e.update = row-id distinct decides h in
      siblings-right (under e) (Under rules S e.update) (λ u k. (rules.ident e.update, k.0, →under e k.1 (sym i)))
      (λ a u k t. let g = under→ e a t in (subst (λ (b : Id). InsertAt rules S b u) (g.1 ∙ i) k, λ q. g.0 (g.1 ∙ i ∙ q)))

  -- the walk

  blocks-right : (n : ℕ) → ((x : Row) → HeldRow T x → length T ≤ rank x + suc n → Walk rules S (updates_in (siblings T (under x))) (updates_in (walk n T (siblings T (under x)))))
      → (es : Table) → ((e : Row) → e ∈ es → HeldRow T e) → ((e : Row) → e ∈ es → length T ≤ rank e + suc n) → Walk rules S (updates_in es) (updates_in (walk (suc n) T es))
  unfolding walk concat_map
  blocks-right n below [] h l = Walk.none
  blocks-right n below (e ∷ es) h l =
      let k : HeldRow T e = h e (Memᴰ.head refl) in
      subst (λ (w : List Update). Walk rules S (updates_in (e ∷ es)) (e.update ∷ w)) (sym (map-append (λ (r : Row). r.update) (walk n T (siblings T (under e))) (walk (suc n) T es)))
      (Walk.entry (under-right k) (below e k (l e (Memᴰ.head refl))) (blocks-right n below es (λ x i. h x (Memᴰ.tail i)) (λ x i. l x (Memᴰ.tail i))))

  pub walk-right : (n : ℕ) (es : Table) → ((e : Row) → e ∈ es → HeldRow T e) → ((e : Row) → e ∈ es → length T ≤ rank e + n) → Walk rules S (updates_in es) (updates_in (walk n T es))
  unfolding walk
  walk-right zero [] h l = Walk.none
  walk-right zero (e ∷ es) h l =
      let k : length T ≤ rank e + 0 = l e (Memᴰ.head refl) in
      let b : rank e < length T = rank-bound distinct decides (h e (Memᴰ.head refl)) in
      absurd (omega arith)
  walk-right (suc n) es h l =
      blocks-right n
      (λ x k b. walk-right n (siblings T (under x)) (λ e i. child-held distinct decides x i)
      (λ e i. let c : rank x < rank e = child-rank distinct decides k i in omega arith)) es h l

  -- the values

  deleted→ : {r : Row} → HeldRow T r → deleted T r.id ≡ true → Deleted rules S (rules.ident r.update)
  unfolding deleted
  deleted→ {r} h e =
      let f = any-held→ T (λ (q : Row). deletes r.id q.update.op) e in
      record {
        by = f.0.update;
        by-held = row-held distinct decides f.1;
        is-delete = subst (λ (i : Id). f.0.update.op ≡ Delete i) (row-id distinct decides h) (deletes→ r.id f.0.update.op f.2);
      }

  →deleted : {r : Row} → HeldRow T r → Deleted rules S (rules.ident r.update) → deleted T r.id ≡ true
  unfolding deleted
  →deleted {r} h k =
      let f = held-row distinct decides k.by-held in
      →any-held T (λ (q : Row). deletes r.id q.update.op) f.1
      (→deletes (ap (λ (u : Update). u.op) f.2 ∙ k.is-delete ∙ ap Delete (sym (row-id distinct decides h))))

  pub shown-right : (es : Table) → ((e : Row) → e ∈ es → Entry T e)
      → Shown rules S (updates_in es) (concat_map (λ (r : Row). values_of r.update.op) (keep (λ (r : Row). not (deleted T r.id)) es))
  unfolding keep concat_map
  shown-right [] h = Shown.none
  shown-right (e ∷ es) h = step (deleted T e.id) refl (shown-right es (λ x i. h x (Memᴰ.tail i)))
    where
      F : Row → List (List ℕ)
      F r = values_of r.update.op

      K : Table
      K = keep (λ (r : Row). not (deleted T r.id)) es

      k : Entry T e
      k = h e (Memᴰ.head refl)

      step : (b : Bool) → deleted T e.id ≡ b → Shown rules S (updates_in es) (concat_map F K) → Shown rules S (updates_in (e ∷ es)) (concat_map F (cond (not b) (e ∷ K) K))
      step true q s = Shown.left_out (deleted→ k.row q) s
      step false q s =
          subst (λ (l : List (List ℕ)). Shown rules S (updates_in (e ∷ es)) (l ++ concat_map F K)) (sym (insert-values k.is-insert))
          (Shown.shown (λ d. true-false (→deleted k.row d) q) k.is-insert s)

-- one list
module _ {rules : Rules} {S : List Update} where
  rank-ids : {u : Update} {m n : ℕ} (r : Rank rules S u m) (q : Rank rules S u n) (i : Id) → i ∈ r.ids → i ∈ q.ids
  rank-ids r q i k = let f = r.only i k in ∈-cast (sym f.2) (q.counts f.0 f.1)

  rank-unique : {u : Update} {m n : ℕ} → Rank rules S u m → Rank rules S u n → m ≡ n
  rank-unique r q = sym r.number ∙ distinct-same-length r.once q.once (record { forth = rank-ids r q; back = rank-ids q r }) ∙ q.number

  pub sooner-asym : {u v : Update} → Sooner rules S u v → Sooner rules S v u → ⊥
  sooner-asym {u} {v} s t =
      true-false (subst₂ (λ (m n : ℕ). before (m ∷ rules.ident u) (n ∷ rules.ident v) ≡ true) (rank-unique t.is-rank-v s.is-rank-u) (rank-unique t.is-rank-u s.is-rank-v) t.larger)
      (before-asym (s.rank-v ∷ rules.ident v) (s.rank-u ∷ rules.ident u) s.larger)

  ordered-head-eq : {u v : Update} {us vs : List Update} → ((w : Update) → w ∈ us → Sooner rules S u w) → ((w : Update) → w ∈ vs → Sooner rules S v w)
      → SameMembers (u ∷ us) (v ∷ vs) → u ≡ v
  ordered-head-eq {u} {v} {us} {vs} f g s = step (∈-cases (s.forth u (Memᴰ.head refl))) (∈-cases (s.back v (Memᴰ.head refl)))
    where
      step : (u ≡ v) ⊎ (u ∈ vs) → (v ≡ u) ⊎ (v ∈ us) → u ≡ v
      step (inl p) q = p
      step (inr m) (inl q) = sym q
      step (inr m) (inr k) = absurd (sooner-asym (f v k) (g u m))

  ordered-tail : {u v : Update} {us vs : List Update} → ((w : Update) → w ∈ us → Sooner rules S u w) → u ≡ v → ((w : Update) → w ∈ u ∷ us → w ∈ v ∷ vs) → (w : Update) → w ∈ us → w ∈ vs
  ordered-tail {u} {v} {us} {vs} f p h w m =
      ⊎_elim (λ (q : w ≡ v). let s : Sooner rules S u u = subst (Sooner rules S u) (q ∙ sym p) (f w m) in absurd (sooner-asym s s)) (λ (k : w ∈ vs). k) (∈-cases (h w (Memᴰ.tail m)))

  ordered-unique : {us vs : List Update} → Ordered rules S us → Ordered rules S vs → SameMembers us vs → us ≡ vs
  ordered-unique Ordered.none Ordered.none s = refl
  ordered-unique Ordered.none (Ordered.first {u = v} g e) s = absurd (Memᴰ.not-nil (s.back v (Memᴰ.head refl)))
  ordered-unique (Ordered.first {u = u} f d) Ordered.none s = absurd (Memᴰ.not-nil (s.forth u (Memᴰ.head refl)))
  ordered-unique (Ordered.first {u = u} {us = us} f d) (Ordered.first {u = v} {us = vs} g e) s =
      let p : u ≡ v = ordered-head-eq f g s in
      let t : SameMembers us vs = record { forth = ordered-tail f p s.forth; back = ordered-tail g (sym p) s.back } in
      let r : us ≡ vs = ordered-unique d e t in
      λ i. p i ∷ r i

  pub siblings-unique : {At : Update → Type 0} {us vs : List Update} → Siblings rules S At us → Siblings rules S At vs → us ≡ vs
  siblings-unique s t = ordered-unique s.ordered t.ordered (record { forth = λ u m. t.all_in u (s.only u m); back = λ u m. s.all_in u (t.only u m) })

  pub walk-unique : {es us vs : List Update} → Walk rules S es us → Walk rules S es vs → us ≡ vs
  walk-unique Walk.none Walk.none = refl
  walk-unique (Walk.entry {e = e} s w n) (Walk.entry {below = below} t x m) =
      let p = walk-unique w (subst (λ (us : List Update). Walk rules S us below) (siblings-unique t s) x) in
      let q = walk-unique n m in
      λ i. e ∷ (p i ++ q i)

  pub shown-unique : {es : List Update} {vs ws : List (List ℕ)} → Shown rules S es vs → Shown rules S es ws → vs ≡ ws
  shown-unique Shown.none Shown.none = refl
  shown-unique (Shown.left_out d s) (Shown.left_out c t) = shown-unique s t
  shown-unique (Shown.left_out d s) (Shown.shown n o t) = absurd (n d)
  shown-unique (Shown.shown n o s) (Shown.left_out d t) = absurd (n d)
  shown-unique (Shown.shown n o s) (Shown.shown k o' t) =
      let p = insert-value o o' in
      let q = shown-unique s t in
      λ i. p i ∷ q i
