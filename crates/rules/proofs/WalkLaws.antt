-- The walk of a settled table meets each held Insert once.
use Prim.Native.Nat.{ℕ, zero, suc, ◌≤◌, ◌<◌}
use Rattle.std.proofs.Common.{le_refl, arith, ◌∙◌, inl, inr, ⊎_elim}
use Rattle.std.proofs.Math.Nat.{lt_irrefl}
use Rattle.std.specs.Prelude.{◌≡◌, refl, ◌⊎◌, true, not, ◌&&◌}
use Rattle.std.proofs.Math.Path.{sym, ap, subst}
use mathlib.Core.List.Memᴰ
use mathlib.Core.List.{List, ◌∷◌, tail-eq_of_cons-eq}
use Rattle.std.proofs.Math.Bool.{Bool}
use Rattle.bytes_order.specs.Order.{same}
use Rattle.bytes_order.specs.Member.{◌∈◌, keep, concat_map}
use Rattle.bytes_order.specs.MemberLaws.{∈-cases, ∈-cast, ∈-reverse, reverse-∈, ∈-concat_map, concat_map-∈}
use Rattle.bytes_order.specs.BoolLaws.{true-false, and-true→, and-true}
use Rattle.bytes_order.specs.OrderLaws.{same→eq, eq→same, dec_eq}
use Rattle.bytes_order.specs.Distinct.{Distinct, distinct_nil, distinct_cons, Identifies}
use Rattle.bytes_order.specs.DistinctLaws.{distinct_append, distinct-reverse, distinct-rekey}
use Rattle.bytes_order.specs.Sort.{sort}
use Rattle.bytes_order.specs.SortLaws.{sort-∈, ∈-sort, sort-distinct}
use Rattle.update_format.specs.Update.{Id, Insert, Update}
use Rattle.rules.specs.Standing.{Rules, beginning, InsertAncestor}
use Rattle.rules.specs.Settle.{Row, Table, held_row, rank, anchored, siblings, under, walk, sibling_key}
use Rattle.rules.proofs.Decides.{Decides}
use Rattle.rules.proofs.LeastSets.{held-ancestors}
use Rattle.rules.proofs.TableLaws.{not-true→, not-true, anchored→, →anchored, insert-anchor, HeldRow, keep-held→, →keep-held, row-eq, row-held, row-id, held-row, rank_less, anchor-above}

-- a held Insert
pub record Entry (T : Table) (r : Row) : Type 0 where
  pub row : HeldRow T r
  pub anchor : Id
  pub value : List ℕ
  pub is-insert : r.update.op ≡ Insert anchor value

-- the held Inserts at the list's beginning
abbrev pub at_beginning : Id → Bool
at_beginning a = same a beginning

abbrev pub first_rows : Table → Table
first_rows T = siblings T at_beginning

-- the anchor of what hangs under e

pub under→ : (e : Row) (a : Id) → under e a ≡ true → (a ≡ beginning → ⊥) × (a ≡ e.id)
unfolding under
under→ e a h =
    let g = and-true→ (not (same a beginning)) (same a e.id) h in
    (λ q. true-false (eq→same a beginning q) (not-true→ (same a beginning) g.0), same→eq a e.id g.1)

pub →under : (e : Row) {a : Id} → (a ≡ beginning → ⊥) → a ≡ e.id → under e a ≡ true
unfolding under
→under e {a} n q = and-true (not (same a beginning)) (same a e.id) (not-true (same a beginning) (λ h. n (same→eq a beginning h))) (eq→same a e.id q)

under_one : (e : Row) (a b : Id) → under e a ≡ true → under e b ≡ true → a ≡ b
under_one e a b h k = (under→ e a h).1 ∙ sym (under→ e b k).1

-- r is e or hangs under it, at any depth
data Below (T : Table) (e : Row) : Row → Type 0 where
  itself : {r : Row} → r ≡ e → Below T e r
  child : {x r : Row} → HeldRow T x → r ∈ siblings T (under x) → Below T e x → Below T e r

below-trans : {T : Table} {e x r : Row} → Below T e x → Below T x r → Below T e r
below-trans {T} {e} a (itself q) = subst (Below T e) (sym q) a
below-trans a (child h m b) = child h m (below-trans a b)

-- the members of a walk
module _ (T : Table) (n : ℕ) where
  walk-∈ : (es : Table) {r : Row} → r ∈ walk (suc n) T es → (e : Row) × (e ∈ es) × (r ∈ e ∷ walk n T (siblings T (under e)))
  unfolding walk
  walk-∈ es m = concat_map-∈ (λ (e : Row). e ∷ walk n T (siblings T (under e))) es m

  ∈-walk : {es : Table} {e r : Row} → e ∈ es → r ∈ e ∷ walk n T (siblings T (under e)) → r ∈ walk (suc n) T es
  unfolding walk
  ∈-walk m k = ∈-concat_map (λ (e : Row). e ∷ walk n T (siblings T (under e))) m k

walk-zero : (T es : Table) {r : Row} → r ∈ walk zero T es → ⊥
unfolding walk
walk-zero T es m = Memᴰ.not-nil m

-- what hangs under a member of a walk is met one level deeper
walk_step : (T : Table) (n : ℕ) (es : Table) (e : Row) {r : Row} → e ∈ walk n T es → r ∈ siblings T (under e) → r ∈ walk (suc n) T es
walk_step T zero es e m k = absurd (walk-zero T es m)
walk_step T (suc n) es e {r} m k =
    let f = walk-∈ T n es m in
    ∈-walk T (suc n) f.1
    (Memᴰ.tail
    (⊎_elim (λ (q : e ≡ f.0). ∈-walk T n (subst (λ (x : Row). r ∈ siblings T (under x)) q k) (Memᴰ.head refl))
    (λ (m' : e ∈ walk n T (siblings T (under f.0))). walk_step T n (siblings T (under f.0)) e m' k) (∈-cases f.2)))

module _ {rules : Rules} {S : List Update} {T : Table} (distinct : Distinct rules.ident S) (decides : Decides rules S T) where
  -- the members of siblings
  pub siblings-∈ : (p : Id → Bool) {r : Row} → r ∈ siblings T p → (e : Entry T r) × (p e.anchor ≡ true)
  unfolding siblings
  siblings-∈ p {r} m =
      let K : Table = keep (λ (q : Row). held_row q && anchored p q.update.op) T in
      let f = keep-held→ T (λ (q : Row). anchored p q.update.op) (sort-∈ sibling_key K (reverse-∈ (sort sibling_key K) m)) in
      let g = anchored→ p r.update.op f.1 in
      (record { row = f.0; anchor = g.0; value = g.1; is-insert = g.2 }, g.3)

  pub ∈-siblings : (p : Id → Bool) {r : Row} (e : Entry T r) → p e.anchor ≡ true → r ∈ siblings T p
  unfolding siblings
  ∈-siblings p e h =
      let P : Row → Bool = λ (q : Row). anchored p q.update.op in
      let id : Identifies sibling_key (keep (λ (q : Row). held_row q && P q) T) =
      λ x y m k q. row-eq distinct decides (keep-held→ T P m).0.row-in (keep-held→ T P k).0.row-in (tail-eq_of_cons-eq q) in
      ∈-reverse (∈-sort sibling_key id (→keep-held T P e.row (→anchored p e.is-insert h)))

  siblings-distinct : (p : Id → Bool) → Distinct (λ (r : Row). r.id) (siblings T p)
  unfolding siblings
  siblings-distinct p =
      let P : Row → Bool = λ (q : Row). anchored p q.update.op in
      let K : Table = keep (λ (q : Row). held_row q && P q) T in
      distinct-reverse (distinct-rekey {key = sibling_key} (λ (r : Row). r.id) (sort-distinct sibling_key K)
      (λ x y m k e. ap sibling_key (row-eq distinct decides (keep-held→ T P (sort-∈ sibling_key K m)).0.row-in (keep-held→ T P (sort-∈ sibling_key K k)).0.row-in e)))

  -- what hangs under e
  child→ : (e : Row) {r : Row} → r ∈ siblings T (under e) → (k : Entry T r) × (k.anchor ≡ beginning → ⊥) × (k.anchor ≡ e.id)
  child→ e m =
      let f = siblings-∈ (under e) m in
      let g = under→ e f.0.anchor f.1 in
      (f.0, g.0, g.1)

  →child : (e : Row) {r : Row} (k : Entry T r) → (k.anchor ≡ beginning → ⊥) → k.anchor ≡ e.id → r ∈ siblings T (under e)
  →child e k n q = ∈-siblings (under e) k (→under e n q)

  child-above : (e : Row) {r : Row} → r ∈ siblings T (under e) → e.id ∈ r.above
  child-above e {r} m =
      let f = child→ e m in
      let k : HeldRow T r = f.0.row in
      ⊎_elim (λ (q : f.0.anchor ≡ beginning). absurd (f.1 q))
      (λ (x : InsertAncestor rules S r.update f.0.anchor). ∈-cast (sym (x.has-id ∙ f.2)) (decides.above_all r k.row-in k.ruled_held x.found x.above))
      (anchor-above distinct decides k f.0.is-insert)

  pub child-held : (e : Row) {r : Row} → r ∈ siblings T (under e) → HeldRow T r
  child-held e m = (child→ e m).0.row

  pub child-rank : {e r : Row} → HeldRow T e → r ∈ siblings T (under e) → rank e < rank r
  child-rank {e} h m = rank_less distinct decides h (child-held e m) (child-above e m)

  -- an anchor that is not the beginning is an entry's id
  parent : {r : Row} (k : Entry T r) → (k.anchor ≡ beginning → ⊥) → (e : Row) × Entry T e × (k.anchor ≡ e.id)
  parent {r} k n =
      ⊎_elim (λ (q : k.anchor ≡ beginning). absurd (n q))
      (λ (x : InsertAncestor rules S r.update k.anchor).
      let f = held-row distinct decides (held-ancestors rules S (row-held distinct decides k.row) x.above) in (
        f.0,
        record { row = f.1; anchor = x.anchor; value = x.value; is-insert = ap (λ (u : Update). u.op) f.2 ∙ x.is-insert },
        sym (row-id distinct decides f.1 ∙ ap rules.ident f.2 ∙ x.has-id),
      ))
      (anchor-above distinct decides k.row k.is-insert)

  -- every member of a walk is an entry
  pub walk-entry : (n : ℕ) (es : Table) → ((e : Row) → e ∈ es → Entry T e) → {r : Row} → r ∈ walk n T es → Entry T r
  walk-entry zero es h m = absurd (walk-zero T es m)
  walk-entry (suc n) es h {r} m =
      let f = walk-∈ T n es m in
      ⊎_elim (λ (q : r ≡ f.0). subst (Entry T) (sym q) (h f.0 f.1))
      (λ (k : r ∈ walk n T (siblings T (under f.0))). walk-entry n (siblings T (under f.0)) (λ e i. (siblings-∈ (under f.0) i).0) k)
      (∈-cases f.2)

  -- an entry is met at a depth of at most its rank
  pub walk-all : (n : ℕ) (r : Row) → Entry T r → rank r < n → r ∈ walk n T (first_rows T)
  walk-all zero r k h = absurd (let z : rank r < 0 = h in omega arith)
  walk-all (suc n) r k h = step (dec_eq k.anchor beginning) (λ (e : Row) (j : Entry T e) (l : rank e < n). walk-all n e j l)
    where
      step : Dec (k.anchor ≡ beginning) → ((e : Row) → Entry T e → rank e < n → e ∈ walk n T (first_rows T)) → r ∈ walk (suc n) T (first_rows T)
      step (yes q) below = ∈-walk T n (∈-siblings at_beginning k (eq→same k.anchor beginning q)) (Memᴰ.head refl)
      step (no q) below =
          let f = parent k q in
          let m : r ∈ siblings T (under f.0) = →child f.0 k q f.2 in
          let l : rank f.0 < rank r = child-rank f.1.row m in
          walk_step T n (first_rows T) f.0 (below f.0 f.1 (omega arith)) m

  -- what is below an entry
  below-held : {e r : Row} → HeldRow T e → Below T e r → HeldRow T r
  below-held h (itself q) = subst (HeldRow T) (sym q) h
  below-held h (child {x = x} k m b) = child-held x m

  below-rank : {e r : Row} → Below T e r → rank e ≤ rank r
  below-rank {e} (itself q) = subst (λ (x : Row). rank e ≤ rank x) (sym q) (le_refl (rank e))
  below-rank {e} {r} (child {x = x} h m b) =
      let k : rank e ≤ rank x = below-rank b in
      let l : rank x < rank r = child-rank h m in
      omega arith

  -- an entry has one parent
  one_parent : {x y r : Row} → HeldRow T x → HeldRow T y → r ∈ siblings T (under x) → r ∈ siblings T (under y) → x ≡ y
  one_parent {x} {y} h k m l =
      let f = child→ x m in
      let g = child→ y l in
      row-eq distinct decides h.row-in k.row-in (sym f.2 ∙ insert-anchor f.0.is-insert g.0.is-insert ∙ g.2)

  -- of two entries with a common entry below, one is below the other
  below-cases : {d e r : Row} → Below T d r → Below T e r → Below T d e ⊎ Below T e d
  below-cases {d} {e} (itself q) b = inr (subst (Below T e) q b)
  below-cases {d} {e} (child h m a) (itself q) = inl (subst (Below T d) q (child h m a))
  below-cases {d} {e} (child h m a) (child k l b) = below-cases a (subst (Below T e) (sym (one_parent h k m l)) b)

  walk-below : (n : ℕ) (es : Table) → ((e : Row) → e ∈ es → HeldRow T e) → {r : Row} → r ∈ walk n T es → (e : Row) × (e ∈ es) × Below T e r
  walk-below zero es h m = absurd (walk-zero T es m)
  walk-below (suc n) es h {r} m =
      let f = walk-∈ T n es m in (
        f.0,
        f.1,
        ⊎_elim (λ (q : r ≡ f.0). itself q)
            (λ (k : r ∈ walk n T (siblings T (under f.0))).
            let g = walk-below n (siblings T (under f.0)) (λ e i. child-held f.0 i) k in
            below-trans (child (h f.0 f.1) g.1 (itself refl)) g.2) (∈-cases f.2),
      )

  under-rank : (n : ℕ) {e r : Row} → HeldRow T e → r ∈ walk n T (siblings T (under e)) → rank e < rank r
  under-rank n {e} {r} h m =
      let f = walk-below n (siblings T (under e)) (λ x i. child-held e i) m in
      let k : rank e < rank f.0 = child-rank h f.1 in
      let l : rank f.0 ≤ rank r = below-rank f.2 in
      omega arith

  under-below : (n : ℕ) {e r : Row} → HeldRow T e → r ∈ e ∷ walk n T (siblings T (under e)) → Below T e r
  under-below n {e} {r} h m =
      ⊎_elim (λ (q : r ≡ e). itself q)
      (λ (k : r ∈ walk n T (siblings T (under e))). let f = walk-below n (siblings T (under e)) (λ x i. child-held e i) k in below-trans (child h f.1 (itself refl)) f.2) (∈-cases m)

  -- no entry is below its sibling
  abbrev Apart : Table → Type 0
  Apart es = (d e : Row) → d ∈ es → e ∈ es → Below T d e → d ≡ e

  siblings-apart : (p : Id → Bool) → ((a b : Id) → p a ≡ true → p b ≡ true → a ≡ b) → Apart (siblings T p)
  siblings-apart p one d e i j (itself q) = sym q
  siblings-apart p one d e i j (child {x = x} h m b) =
      let f = siblings-∈ p i in
      let g = siblings-∈ p j in
      let k = child→ x m in
      let q : f.0.anchor ≡ k.0.anchor = one f.0.anchor g.0.anchor f.1 g.1 ∙ insert-anchor g.0.is-insert k.0.is-insert in
      let l : rank x < rank d = child-rank h (→child x f.0 (λ z. k.1 (sym q ∙ z)) (q ∙ k.2)) in
      let l' : rank d ≤ rank x = below-rank b in
      absurd (omega arith)

  blocks-distinct : (n : ℕ) → ((x : Row) → HeldRow T x → Distinct (λ (r : Row). r.id) (walk n T (siblings T (under x)))) → {es : Table} → Distinct (λ (r : Row). r.id) es
      → ((e : Row) → e ∈ es → HeldRow T e) → Apart es → Distinct (λ (r : Row). r.id) (walk (suc n) T es)
  unfolding walk concat_map
  blocks-distinct n below distinct_nil h a = distinct_nil
  blocks-distinct n below (distinct_cons {x = e} {xs = es} ne d) h a =
      let k : HeldRow T e = h e (Memᴰ.head refl) in
      let hs : (x : Row) → x ∈ es → HeldRow T x = λ x i. h x (Memᴰ.tail i) in
      let rest : Distinct (λ (r : Row). r.id) (walk (suc n) T es) = blocks-distinct n below d hs (λ x y i j. a x y (Memᴰ.tail i) (Memᴰ.tail j)) in
      distinct_append
      (distinct_cons (λ y m q. let y-in : HeldRow T y = below-held k (under-below n k (Memᴰ.tail m)) in
      lt_irrefl (rank e) (subst (λ (x : Row). rank e < rank x) (sym (row-eq distinct decides k.row-in y-in.row-in q)) (under-rank n k m))) (below e k)) rest
      (λ x y i j q.
      let b : Below T e x = under-below n k i in
      let f = walk-below (suc n) es hs j in
      let x-in : HeldRow T x = below-held k b in
      let y-in : HeldRow T y = below-held (hs f.0 f.1) f.2 in
      let c : Below T f.0 x = subst (Below T f.0) (sym (row-eq distinct decides x-in.row-in y-in.row-in q)) f.2 in
      ne f.0 f.1 (ap (λ (r : Row). r.id)
      (⊎_elim (λ (z : Below T e f.0). a e f.0 (Memᴰ.head refl) (Memᴰ.tail f.1) z) (λ (z : Below T f.0 e). sym (a f.0 e (Memᴰ.tail f.1) (Memᴰ.head refl) z)) (below-cases b c))))

  pub walk-distinct : (n : ℕ) (p : Id → Bool) → ((a b : Id) → p a ≡ true → p b ≡ true → a ≡ b) → Distinct (λ (r : Row). r.id) (walk n T (siblings T p))
  unfolding walk
  walk-distinct zero p one = distinct_nil
  walk-distinct (suc n) p one =
      blocks-distinct n (λ x h. walk-distinct n (under x) (under_one x)) (siblings-distinct p) (λ e i. (siblings-∈ p i).0.row) (siblings-apart p one)
