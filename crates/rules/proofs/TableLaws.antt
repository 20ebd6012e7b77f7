-- The held rows of a table that decides its set, and the tests and lists that the read-offs are computed with. In order: tests of an operation, both ways; the anchor and the
-- value of an Insert; held rows (`HeldRow`), found and kept by a test; that a table which decides its set is sound (`decides-sound`). Main laws, of such a table: `row-held`,
-- `held-row`, `ancestor→above`, `above→ancestor`, `row-order`, `row-rank`, `rank_less`, `anchor-above`.
use Rattle.std.specs.Prelude.{ℕ, ◌<◌, ◌≡◌, ◌⊎◌, List, [], ◌∷◌, map, Bool, true, false, not, ◌&&◌}
use Rattle.std.proofs.Math.Path.{refl, subst}
use Rattle.std.proofs.Common.{sym, ◌∙◌, ap, subst₂}
use mathlib.Core.List.Memᴰ
use Rattle.std.proofs.lemmas.Bool.{false≢true}
use Rattle.std.proofs.Math.ListN.{length}
use Rattle.std.proofs.lemmas.List.{length-map}
use Rattle.bytes_order.specs.Member.{◌∈◌, keep, any}
use Rattle.bytes_order.specs.MemberLaws.{∈-cast, ∈-singleton, ∈-map, map-∈, ∈-keep, keep-∈, any→∈, ∈→any, member→∈, ∈→member}
use Rattle.bytes_order.specs.BoolLaws.{not-true→false, and-true→, and-true}
use Rattle.bytes_order.specs.OrderLaws.{same→eq, eq→same}
use Rattle.bytes_order.specs.Distinct.{Distinct}
use Rattle.bytes_order.specs.DistinctLaws.{distinct-eq, distinct-length-lt}
use Rattle.update_format.specs.Update.{Id, tag_length, Operation, Add, Remove, Insert, Delete, BoundedOperation, add, remove, insert, delete, Update}
use Rattle.rules.specs.Standing.{Rules, beginning, Ancestor, Fine, Held, Valid, InsertAncestor}
use Rattle.rules.specs.SetEntry.{SetEntry}
use Rattle.rules.specs.ReadOff.{Rank}
use Rattle.rules.specs.CausalOrder.{OrderExactly}
use Rattle.rules.specs.Settle.{Standing, held, waiting, void, Row, Table, is_held, order_in, held_row, rank, tags_of, set_entries_from, names, deletes, anchored, values_of}
use Rattle.rules.proofs.Decides.{Decides}
use Rattle.rules.proofs.LeastSets.{ancestor-stored, ancestor-trans, held-acyclic, held-ancestors, VerdictSays, says-stored, one-verdict}
use Rattle.rules.proofs.SettlingTable.{Right, SoundTable, HeldRowOf, held-row-of, order-exactly}

-- a negated test

pub not-true→ : (b : Bool) → not b ≡ true → b ≡ false
not-true→ true e = absurd (false≢true e)
not-true→ false e = refl

pub not-true : (b : Bool) → (b ≡ true → ⊥) → not b ≡ true
not-true b n = ap not (not-true→false b n)

-- tests of an operation

pub tags_of-∈ : (o : Operation) {t : List ℕ} → t ∈ tags_of o → o ≡ Add t
unfolding tags_of
tags_of-∈ (Add t) m = ap Add (sym (∈-singleton m))
tags_of-∈ (Remove t named) m = absurd (Memᴰ.not-nil m)
tags_of-∈ (Insert a v) m = absurd (Memᴰ.not-nil m)
tags_of-∈ (Delete i) m = absurd (Memᴰ.not-nil m)

pub ∈-tags_of : {o : Operation} {t : List ℕ} → o ≡ Add t → t ∈ tags_of o
unfolding tags_of
∈-tags_of {o} {t} e = subst (λ (p : Operation). t ∈ tags_of p) (sym e) (Memᴰ.head refl)

-- the tag of an Add has its length
pub add-sized : {o : Operation} {t : List ℕ} → BoundedOperation o → o ≡ Add t → length t ≡ tag_length
unfolding tags_of
add-sized {t = t} b e = step b (∈-tags_of e)
  where
    step : {p : Operation} → BoundedOperation p → t ∈ tags_of p → length t ≡ tag_length
    step (add h) m = ap length (∈-singleton m) ∙ h
    step (remove h is) m = absurd (Memᴰ.not-nil m)
    step (insert h k) m = absurd (Memᴰ.not-nil m)
    step (delete h) m = absurd (Memᴰ.not-nil m)

pub set_entries_from-∈ : (u : Update) {e : SetEntry} → e ∈ set_entries_from u → (u.op ≡ Add e.tag) × (u.author ≡ e.author)
unfolding set_entries_from
set_entries_from-∈ u m =
    let f = map-∈ (λ (t : List ℕ). record { tag = t; author = u.author }) (tags_of u.op) m in
    (tags_of-∈ u.op f.1 ∙ ap (λ (e : SetEntry). Add e.tag) f.2, ap (λ (e : SetEntry). e.author) f.2)

pub ∈-set_entries_from : (u : Update) {e : SetEntry} → u.op ≡ Add e.tag → u.author ≡ e.author → e ∈ set_entries_from u
unfolding set_entries_from
∈-set_entries_from u {e} h by =
    ∈-cast (λ i. record { tag = e.tag; author = sym by i }) (∈-map (λ (t : List ℕ). record { tag = t; author = u.author }) (∈-tags_of h))

pub names→ : (i : Id) (o : Operation) → names i o ≡ true → (t : List ℕ) × (named : List Id) × (o ≡ Remove t named) × (i ∈ named)
unfolding names
names→ i (Add t) e = absurd (false≢true e)
names→ i (Remove t named) e = (t, named, refl, member→∈ i named e)
names→ i (Insert a v) e = absurd (false≢true e)
names→ i (Delete d) e = absurd (false≢true e)

pub →names : {i : Id} {o : Operation} {t : List ℕ} {named : List Id} → o ≡ Remove t named → i ∈ named → names i o ≡ true
unfolding names
→names {i} e m = ap (names i) e ∙ ∈→member m

pub deletes→ : (i : Id) (o : Operation) → deletes i o ≡ true → o ≡ Delete i
unfolding deletes
deletes→ i (Add t) e = absurd (false≢true e)
deletes→ i (Remove t named) e = absurd (false≢true e)
deletes→ i (Insert a v) e = absurd (false≢true e)
deletes→ i (Delete d) e = ap Delete (sym (same→eq i d e))

pub →deletes : {i : Id} {o : Operation} → o ≡ Delete i → deletes i o ≡ true
unfolding deletes
→deletes {i} e = ap (deletes i) e ∙ eq→same i i refl

pub anchored→ : (p : Id → Bool) (o : Operation) → anchored p o ≡ true → (a : Id) × (v : List ℕ) × (o ≡ Insert a v) × (p a ≡ true)
unfolding anchored
anchored→ p (Add t) e = absurd (false≢true e)
anchored→ p (Remove t named) e = absurd (false≢true e)
anchored→ p (Insert a v) e = (a, v, refl, e)
anchored→ p (Delete d) e = absurd (false≢true e)

pub →anchored : (p : Id → Bool) {o : Operation} {a : Id} {v : List ℕ} → o ≡ Insert a v → p a ≡ true → anchored p o ≡ true
unfolding anchored
→anchored p e h = ap (anchored p) e ∙ h

-- the anchor and the value of an Insert

anchor_of : Operation → Id
anchor_of (Add t) = []
anchor_of (Remove t named) = []
anchor_of (Insert a v) = a
anchor_of (Delete i) = []

value_of : Operation → List ℕ
value_of (Add t) = []
value_of (Remove t named) = []
value_of (Insert a v) = v
value_of (Delete i) = []

pub insert-anchor : {o : Operation} {a b : Id} {v w : List ℕ} → o ≡ Insert a v → o ≡ Insert b w → a ≡ b
unfolding anchor_of
insert-anchor e f = ap anchor_of (sym e ∙ f)

pub insert-value : {o : Operation} {a b : Id} {v w : List ℕ} → o ≡ Insert a v → o ≡ Insert b w → v ≡ w
unfolding value_of
insert-value e f = ap value_of (sym e ∙ f)

pub insert-values : {o : Operation} {a : Id} {v : List ℕ} → o ≡ Insert a v → values_of o ≡ v ∷ []
unfolding values_of
insert-values e = ap values_of e

-- held rows

pub record HeldRow (T : Table) (r : Row) : Type 0 where
  pub row-in : r ∈ T
  pub ruled_held : r.verdict ≡ held

held_row→ : (r : Row) → held_row r ≡ true → r.verdict ≡ held
unfolding held_row is_held
held_row→ r e = step r.verdict e
  where
    step : (v : Standing) → is_held v ≡ true → v ≡ held
    step held e = refl
    step waiting e = absurd (false≢true e)
    step void e = absurd (false≢true e)

→held_row : (r : Row) → r.verdict ≡ held → held_row r ≡ true
unfolding held_row is_held
→held_row r e = ap is_held e

module _ (T : Table) (p : Row → Bool) where
  pub any-held→ : any (λ (r : Row). held_row r && p r) T ≡ true → (r : Row) × HeldRow T r × (p r ≡ true)
  any-held→ e =
      let f = any→∈ (λ (r : Row). held_row r && p r) T e in
      let h = and-true→ (held_row f.0) (p f.0) f.2 in
      (f.0, record { row-in = f.1; ruled_held = held_row→ f.0 h.0 }, h.1)

  pub →any-held : {r : Row} → HeldRow T r → p r ≡ true → any (λ (r : Row). held_row r && p r) T ≡ true
  →any-held {r} h e = ∈→any (λ (r : Row). held_row r && p r) h.row-in (and-true (held_row r) (p r) (→held_row r h.ruled_held) e)

  pub keep-held→ : {r : Row} → r ∈ keep (λ (r : Row). held_row r && p r) T → HeldRow T r × (p r ≡ true)
  keep-held→ {r} m =
      let f = keep-∈ (λ (r : Row). held_row r && p r) T m in
      let h = and-true→ (held_row r) (p r) f.1 in
      (record { row-in = f.0; ruled_held = held_row→ r h.0 }, h.1)

  pub →keep-held : {r : Row} → HeldRow T r → p r ≡ true → r ∈ keep (λ (r : Row). held_row r && p r) T
  →keep-held {r} h e = ∈-keep (λ (r : Row). held_row r && p r) h.row-in (and-true (held_row r) (p r) (→held_row r h.ruled_held) e)

pub held-fine : {rules : Rules} {S : List Update} {u : Update} → Held rules S u → Fine rules S u
held-fine (Held.held m k hs f) = f

-- a table that decides its set is sound
pub decides-sound : {rules : Rules} {S : List Update} {T : Table} → Decides rules S T → SoundTable rules S T
decides-sound {rules} {S} {T} d =
    record {
      rows = λ r m. record { of_set = d.of_set r m; has-id = d.has-id r m; right = right r m r.verdict refl };
      row_for = d.row_for;
      once = d.once;
    }
  where
    right : (r : Row) → r ∈ T → (v : Standing) → r.verdict ≡ v → Right rules S v r.update r.above
    right r m held e = (d.held_right r m e, record { only = d.above_right r m e; each = d.above_all r m e; once = d.above_once r m e })
    right r m waiting e = tt
    right r m void e = d.void_right r m e

module _ {rules : Rules} {S : List Update} {T : Table} (distinct : Distinct rules.ident S) (decides : Decides rules S T) where
  pub row-eq : {r q : Row} → r ∈ T → q ∈ T → r.id ≡ q.id → r ≡ q
  row-eq m k e = distinct-eq decides.once m k e

  pub row-held : {r : Row} → HeldRow T r → Held rules S r.update
  row-held {r} h = decides.held_right r h.row-in h.ruled_held

  pub row-id : {r : Row} → HeldRow T r → r.id ≡ rules.ident r.update
  row-id {r} h = decides.has-id r h.row-in

  pub row-says : (v : Standing) (r : Row) → r ∈ T → r.verdict ≡ v → VerdictSays rules S v r.update
  row-says held r m e = decides.held_right r m e
  row-says waiting r m e = decides.waiting_right r m e
  row-says void r m e = decides.void_right r m e

  -- each update has a row of its verdict
  pub says_row : (v : Standing) (u : Update) → VerdictSays rules S v u → (r : Row) × (r ∈ T) × (r.verdict ≡ v) × (r.update ≡ u)
  says_row v u h =
      let f = decides.row_for u (says-stored rules S v u h) in
      let w = row-says f.0.verdict f.0 f.1 refl in
      (f.0, f.1, one-verdict rules S f.0.verdict v f.0.update w (subst (VerdictSays rules S v) (sym f.2) h), f.2)

  pub held-row : {u : Update} → Held rules S u → (r : Row) × HeldRow T r × (r.update ≡ u)
  held-row {u} h = let f = says_row held u h in (f.0, record { row-in = f.1; ruled_held = f.2 }, f.3)

  -- the ids above a held row are those of its ancestors
  pub ancestor→above : {r q : Row} → HeldRow T r → HeldRow T q → Ancestor rules S r.update q.update → r.id ∈ q.above
  ancestor→above {r} {q} h k a = ∈-cast (row-id h) (decides.above_all q k.row-in k.ruled_held r.update a)

  pub above→ancestor : {r q : Row} → HeldRow T r → HeldRow T q → r.id ∈ q.above → Ancestor rules S r.update q.update
  above→ancestor {r} {q} h k m =
      let f = decides.above_right q k.row-in k.ruled_held r.id m in
      let e : f.0 ≡ r.update = distinct-eq distinct (ancestor-stored rules S f.1) (decides.of_set r h.row-in) (f.2 ∙ row-id h) in
      subst (λ (x : Update). Ancestor rules S x q.update) e f.1

  -- how a held row stands to another, and a held update
  row-of-held : {r : Row} → HeldRow T r → HeldRowOf (decides-sound decides) r.update
  row-of-held {r} h = held-row-of (decides-sound decides) (decides.of_set r h.row-in) h.row-in (row-id h) h.ruled_held

  pub row-order : {r q : Row} → HeldRow T r → HeldRow T q → OrderExactly rules S r.update q.update (order_in T r.id q.id)
  row-order {r} {q} h k =
      subst₂ (λ (i j : Id). OrderExactly rules S r.update q.update (order_in T i j)) (sym (row-id h)) (sym (row-id k))
      (order-exactly (decides-sound decides) (row-of-held h) (row-of-held k))

  pub held-order : {u v : Update} → Held rules S u → Held rules S v → OrderExactly rules S u v (order_in T (rules.ident u) (rules.ident v))
  held-order h k =
      let r = held-row h in
      let q = held-row k in
      subst₂ (λ (x y : Update). OrderExactly rules S x y (order_in T (rules.ident x) (rules.ident y))) r.2 q.2
      (order-exactly (decides-sound decides) (row-of-held r.1) (row-of-held q.1))

  pub above-irreflexive : {r : Row} → HeldRow T r → r.id ∈ r.above → ⊥
  above-irreflexive h m = held-acyclic rules S (row-held h) (above→ancestor h h m)

  -- the row of an id above
  pub above-row : {q : Row} → HeldRow T q → {i : Id} → i ∈ q.above → (r : Row) × HeldRow T r × (r.id ≡ i)
  above-row {q} k {i} m =
      let f = decides.above_right q k.row-in k.ruled_held i m in
      let g = held-row (held-ancestors rules S (row-held k) f.1) in
      (g.0, g.1, row-id g.1 ∙ ap rules.ident g.2 ∙ f.2)

  pub above-trans : {r q : Row} {i : Id} → HeldRow T r → HeldRow T q → r.id ∈ q.above → i ∈ r.above → i ∈ q.above
  above-trans {r} {q} {i} h k m n =
      let f = above-row h n in
      let a : f.0.id ∈ r.above = ∈-cast f.2 n in
      ∈-cast (sym f.2) (ancestor→above f.1 k (ancestor-trans rules S (above→ancestor f.1 h a) (above→ancestor h k m)))

  pub row-rank : {r : Row} → HeldRow T r → Rank rules S r.update (rank r)
  unfolding rank
  row-rank {r} h =
      let m : r ∈ T = h.row-in in
      let e : r.verdict ≡ held = h.ruled_held in
      record { ids = r.above; once = decides.above_once r m e; counts = decides.above_all r m e; only = decides.above_right r m e; number = refl }

  -- a rank is less than the number of rows, and that of an ancestor is less
  pub rank-bound : {r : Row} → HeldRow T r → rank r < length T
  unfolding rank
  rank-bound {r} h =
      subst (λ (n : ℕ). length r.above < n) (length-map T (λ (q : Row). q.id))
      (distinct-length-lt (decides.above_once r h.row-in h.ruled_held) (map (λ (q : Row). q.id) T)
      (λ i m. let f = above-row h m in ∈-cast (sym f.2) (∈-map (λ (q : Row). q.id) f.1.row-in)) (∈-map (λ (q : Row). q.id) h.row-in)
      (λ i m e. above-irreflexive h (∈-cast (sym e) m)))

  pub rank_less : {r q : Row} → HeldRow T r → HeldRow T q → r.id ∈ q.above → rank r < rank q
  unfolding rank
  rank_less {r} {q} h k m =
      distinct-length-lt (decides.above_once r h.row-in h.ruled_held) q.above (λ i n. above-trans h k m n) m
      (λ i n e. above-irreflexive h (∈-cast (sym e) n))

  -- the anchor of a held Insert is the beginning or an ancestor
  pub anchor-above : {r : Row} {a : Id} {v : List ℕ} → HeldRow T r → r.update.op ≡ Insert a v → (a ≡ beginning) ⊎ InsertAncestor rules S r.update a
  anchor-above {r} h e = subst (Valid rules S r.update) e (held-fine (row-held h)).valid
