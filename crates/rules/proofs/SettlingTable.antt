-- What holds of a table while it settles: there is one row for each update of the set, and every verdict given so far is right. The tests
-- of such a table then mean what `Standing` says, so a row judged by it is right too. In order: what is sound (`SoundRow`, `SoundTable`); the tests of a row and of an
-- operation, both ways; what judging makes of a row (`RowOutcome`, `judge-outcome`); by a sound table the rows of held updates, how two stand to each other (`order-exactly`), the
-- antichain rule and validity (`valid→`, `→valid`). Main laws: `judge-sound`, and at the end `round-sound`, that a round keeps the table sound.
use Rattle.std.specs.Prelude.{◌≡◌, ◌⊎◌, Bool, ◌&&◌, ◌||◌, ℕ}
use Rattle.std.proofs.Math.Path.{refl, sym, ap, ap₂}
use Rattle.std.proofs.Common.{◌∙◌, subst, subst₂, true≢false}
use Rattle.std.proofs.Math.Logic.{inl, inr, ⊎_elim}
use mathlib.Core.List.{List, [], map}
use Rattle.std.proofs.Math.Bool.{true, false, not}
use Rattle.std.proofs.lemmas.Bool.{false≢true}
use Rattle.bytes_order.specs.Order.{same}
use Rattle.bytes_order.specs.Member.{◌∈◌, member, keep, any, all}
use Rattle.bytes_order.specs.Distinct.{Distinct}
use Rattle.bytes_order.specs.BoolLaws.{true-false, not-true→false, or-true→, or_left, or_right, and-true→, and-true}
use Rattle.bytes_order.specs.OrderLaws.{same→eq, eq→same}
use Rattle.bytes_order.specs.MemberLaws.{∈-cast, ∈-map, map-∈, ∈→member, member→∈, ∈-keep, keep-∈, any→∈, ∈→any, all→∈, ∈→all}
use Rattle.bytes_order.specs.DistinctLaws.{distinct-eq, distinct-keep, distinct-keys, distinct-map}
use Rattle.update_format.specs.Update.{Id, Operation, Add, Remove, Insert, Delete, Update}
use Rattle.rules.specs.declared.CausalOrder.{CausalOrder}
use Rattle.rules.specs.declared.CausalOrder.TheVariants.{Before, After}
use Rattle.rules.specs.Standing.{Rules, beginning, Ancestor, InsertAncestor, Valid, Known, Antichain, Fine, Held, PredsHeld, Void}
use Rattle.rules.specs.CausalOrder.{OrderExactly, before_or_after}
use Rattle.rules.specs.Settle.{Standing, held, waiting, void, Row, Table, is_held, is_waiting, is_void, is_add, is_insert, held_in, void_in}
use Rattle.rules.specs.Settle.{add_in, insert_in, above_in, order_in, ancestors_of, antichain, valid_op, fine_by, ruled, judge_fine, judge_known, judge_by, judge_from, judge, round}
use Rattle.rules.proofs.LeastSets.{ancestor-stored, ancestor-cases, held-stored}
use Rattle.rules.proofs.CausalLaws.{before_or_after→, tells-exactly}

module _ (rules : Rules) (S : List Update) where
  -- these are the ids of u's ancestors, each once
  pub record AncestorIds (u : Update) (up : List Id) : Type 0 where
    pub only : (i : Id) → i ∈ up → (x : Update) × Ancestor rules S x u × (rules.ident x ≡ i)
    pub each : (x : Update) → Ancestor rules S x u → rules.ident x ∈ up
    pub once : Distinct (λ (i : Id). i) up

  -- a verdict on u is right and, if u is held, so are the ids of its ancestors; waiting says nothing so far
  abbrev pub Right : Standing → Update → List Id → Type 0
  Right held u up = Held rules S u × AncestorIds u up
  Right waiting u up = Unit {0}
  Right void u up = Void rules S u

  pub record SoundRow (r : Row) : Type 0 where
    pub of_set : r.update ∈ S
    pub has-id : r.id ≡ rules.ident r.update
    pub right : Right r.verdict r.update r.above

  pub record SoundTable (T : Table) : Type 0 where
    pub rows : (r : Row) → r ∈ T → SoundRow r
    pub row_for : (u : Update) → u ∈ S → (r : Row) × (r ∈ T) × (r.update ≡ u)
    pub once : Distinct (λ (r : Row). r.id) T

-- every predecessor of u has a held row
pub record PredecessorsHeld (T : Table) (u : Update) : Type 0 where
  pub held-row : (i : Id) → i ∈ u.preds → (r : Row) × (r ∈ T) × (r.id ≡ i) × (r.verdict ≡ held)

-- the tests of a row

pub is_held→ : (v : Standing) → is_held v ≡ true → v ≡ held
unfolding is_held
is_held→ held e = refl
is_held→ waiting e = absurd (false≢true e)
is_held→ void e = absurd (false≢true e)

pub is_waiting→ : (v : Standing) → is_waiting v ≡ true → v ≡ waiting
unfolding is_waiting
is_waiting→ held e = absurd (false≢true e)
is_waiting→ waiting e = refl
is_waiting→ void e = absurd (false≢true e)

pub is_void→ : (v : Standing) → is_void v ≡ true → v ≡ void
unfolding is_void
is_void→ held e = absurd (false≢true e)
is_void→ waiting e = absurd (false≢true e)
is_void→ void e = refl

pub is_add→ : (t : List ℕ) (o : Operation) → is_add t o ≡ true → o ≡ Add t
unfolding is_add
is_add→ t (Add t') e = ap Add (sym (same→eq t t' e))
is_add→ t (Remove t' named) e = absurd (false≢true e)
is_add→ t (Insert a v) e = absurd (false≢true e)
is_add→ t (Delete i) e = absurd (false≢true e)

pub →is_add : (t : List ℕ) {o : Operation} → o ≡ Add t → is_add t o ≡ true
unfolding is_add
→is_add t e = ap (is_add t) e ∙ eq→same t t refl

pub is_insert→ : (o : Operation) → is_insert o ≡ true → (a : Id) × (v : List ℕ) × (o ≡ Insert a v)
unfolding is_insert
is_insert→ (Add t) e = absurd (false≢true e)
is_insert→ (Remove t named) e = absurd (false≢true e)
is_insert→ (Insert a v) e = (a, v, refl)
is_insert→ (Delete i) e = absurd (false≢true e)

pub →is_insert : {o : Operation} {a : Id} {v : List ℕ} → o ≡ Insert a v → is_insert o ≡ true
unfolding is_insert
→is_insert e = ap is_insert e

-- a test of the rows with an id

row-with : (q : Row → Bool) (T : Table) (i : Id) → any (λ (r : Row). same r.id i && q r) T ≡ true
    → (r : Row) × (r ∈ T) × (r.id ≡ i) × (q r ≡ true)
row-with q T i e =
    let r = any→∈ (λ (r : Row). same r.id i && q r) T e in
    let h = and-true→ (same r.0.id i) (q r.0) r.2 in
    (r.0, r.1, same→eq r.0.id i h.0, h.1)

with_row : (q : Row → Bool) {T : Table} {i : Id} {r : Row} → r ∈ T → r.id ≡ i → q r ≡ true
    → any (λ (r : Row). same r.id i && q r) T ≡ true
with_row q {T} {i} {r} m e h = ∈→any (λ (r : Row). same r.id i && q r) m (and-true (same r.id i) (q r) (eq→same r.id i e) h)

pub held_in_lem : {T : Table} {i : Id} {r : Row} → r ∈ T → r.id ≡ i → r.verdict ≡ held → held_in T i ≡ true
unfolding held_in is_held
held_in_lem m e h = with_row (λ r. is_held r.verdict) m e (ap is_held h)

pub void-in : {T : Table} {i : Id} {r : Row} → r ∈ T → r.id ≡ i → r.verdict ≡ void → void_in T i ≡ true
unfolding void_in is_void
void-in m e h = with_row (λ r. is_void r.verdict) m e (ap is_void h)

in-void : (T : Table) (i : Id) → void_in T i ≡ true → (r : Row) × (r ∈ T) × (r.id ≡ i) × (r.verdict ≡ void)
unfolding void_in
in-void T i e = let r = row-with (λ r. is_void r.verdict) T i e in (r.0, r.1, r.2, is_void→ r.0.verdict r.3)

pub all_held : (T : Table) (u : Update) → all (held_in T) u.preds ≡ true → PredecessorsHeld T u
unfolding held_in
all_held T u e =
    record {
      held-row = λ i m.
          let r = row-with (λ r. is_held r.verdict) T i (all→∈ (held_in T) u.preds e i m) in
          (r.0, r.1, r.2, is_held→ r.0.verdict r.3);
    }

-- the predecessors of u do not decide it yet: none is void, and not all are held
abbrev pub Undecided : Table → Update → Type 0
Undecided T u = (any (void_in T) u.preds ≡ false) × (all (held_in T) u.preds ≡ false)

-- what judging by T makes of a row r: it stays, and if it waits it is undecided yet; or it waited and is ruled
pub data RowOutcome (T : Table) (r q : Row) : Type 0 where
  stays : q ≡ r → (r.verdict ≡ waiting → Undecided T r.update) → RowOutcome T r q
  is_ruled : r.verdict ≡ waiting → (v : Standing) (up : List Id) → is_waiting v ≡ false → q ≡ ruled v up r → RowOutcome T r q

pub judge-outcome : (T : Table) (r : Row) → RowOutcome T r (judge T r)
unfolding judge judge_from judge_by judge_known judge_fine is_held is_void is_waiting
judge-outcome T r = from r.verdict refl
  where
    fine : (b : Bool) (up : List Id) → r.verdict ≡ waiting → RowOutcome T r (judge_fine b up r)
    fine true up e = is_ruled e held up refl refl
    fine false up e = is_ruled e void [] refl refl

    by : (b h : Bool) → any (void_in T) r.update.preds ≡ b → all (held_in T) r.update.preds ≡ h → r.verdict ≡ waiting
        → RowOutcome T r (judge_by b h T r)
    by true h p q e = is_ruled e void [] refl refl
    by false true p q e =
        fine (fine_by T (ancestors_of T r.update) r.update) (ancestors_of T r.update) e
    by false false p q e = stays refl (λ w. (p, q))

    from : (v : Standing) → r.verdict ≡ v → RowOutcome T r (judge_from v T r)
    from held e = stays refl (λ w. absurd (true≢false (ap is_held (sym e ∙ w))))
    from void e = stays refl (λ w. absurd (true≢false (ap is_void (sym e ∙ w))))
    from waiting e = by (any (void_in T) r.update.preds) (all (held_in T) r.update.preds) refl refl e

pub judge-id : (T : Table) (r : Row) → (judge T r).id ≡ r.id
unfolding ruled
judge-id T r = elim (judge-outcome T r) [ stays e w ↦ ap (λ (q : Row). q.id) e | is_ruled w v up s e ↦ ap (λ (q : Row). q.id) e ]

pub judge-update : (T : Table) (r : Row) → (judge T r).update ≡ r.update
unfolding ruled
judge-update T r = elim (judge-outcome T r) [ stays e w ↦ ap (λ (q : Row). q.update) e | is_ruled w v up s e ↦ ap (λ (q : Row). q.update) e ]

-- the tests by a sound table
module _ {rules : Rules} {S : List Update} {T : Table} (sound : SoundTable rules S T) where
  -- rows with one id are one
  one-row : {r q : Row} → r ∈ T → q ∈ T → r.id ≡ q.id → r ≡ q
  one-row m k e = distinct-eq sound.once m k e

  pub row_of : {v : Update} → v ∈ S → (r : Row) × (r ∈ T) × (r.id ≡ rules.ident v) × (r.update ≡ v)
  row_of {v} k = let q = sound.row_for v k in (q.0, q.1, (sound.rows q.0 q.1).has-id ∙ ap rules.ident q.2, q.2)

  -- the row with v's id is v's
  update-of : {r : Row} {v : Update} → r ∈ T → v ∈ S → r.id ≡ rules.ident v → r.update ≡ v
  update-of m k e = let q = row_of k in ap (λ (r : Row). r.update) (one-row m q.1 (e ∙ sym q.2)) ∙ q.3

  -- what the row of u says
  pub right-as : {r : Row} {u : Update} (v : Standing) → r ∈ T → r.update ≡ u → r.verdict ≡ v → Right rules S v u r.above
  right-as {r} v m e d = subst₂ (λ (w : Standing) (x : Update). Right rules S w x r.above) d e (sound.rows r m).right

  -- the row of a held update
  pub record HeldRowOf (v : Update) : Type 0 where
    pub row : Row
    pub row-in : row ∈ T
    pub has-id : row.id ≡ rules.ident v
    pub is-held : Held rules S v
    pub ancestors : AncestorIds rules S v row.above

  pub held-row-of : {v : Update} {r : Row} → v ∈ S → r ∈ T → r.id ≡ rules.ident v → r.verdict ≡ held → HeldRowOf v
  held-row-of {r = r} k m e d =
      let h = right-as held m (update-of m k e) d in record { row = r; row-in = m; has-id = e; is-held = h.0; ancestors = h.1 }

  -- above_in, at the id of a held update: an ancestor of it
  above-ancestor : {v : Update} → HeldRowOf v → (x : Id) → above_in T x (rules.ident v) ≡ true → (a : Update) × Ancestor rules S a v × (rules.ident a ≡ x)
  unfolding above_in
  above-ancestor {v} r x e =
      let q = row-with (λ (r : Row). member x r.above) T (rules.ident v) e in
      let m : member x r.row.above ≡ true = ap (λ (r : Row). member x r.above) (one-row r.row-in q.1 (r.has-id ∙ sym q.2)) ∙ q.3 in
      r.ancestors.only x (member→∈ x r.row.above m)

  ancestor-above : {x v : Update} → HeldRowOf v → Ancestor rules S x v → above_in T (rules.ident x) (rules.ident v) ≡ true
  unfolding above_in
  ancestor-above {x} r a = with_row (λ (r : Row). member (rules.ident x) r.above) r.row-in r.has-id (∈→member (r.ancestors.each x a))

  -- order_in, at the ids of two held updates: how the one stands to the other
  one-update : {u v : Update} → u ∈ S → v ∈ S → rules.ident u ≡ rules.ident v → u ≡ v
  one-update m k e = let r = row_of m in sym r.3 ∙ update-of r.1 k (r.2 ∙ e)

  above→ : {u v : Update} → u ∈ S → HeldRowOf v → above_in T (rules.ident u) (rules.ident v) ≡ true → Ancestor rules S u v
  above→ {v = v} m r e =
      let a = above-ancestor r _ e in
      subst (λ (x : Update). Ancestor rules S x v) (one-update (ancestor-stored rules S a.1) m a.2) a.1

  pub order-exactly : {u v : Update} → HeldRowOf u → HeldRowOf v → OrderExactly rules S u v (order_in T (rules.ident u) (rules.ident v))
  unfolding order_in
  order-exactly {u} {v} r q =
      let m = held-stored rules S r.is-held in
      let k = held-stored rules S q.is-held in
      tells-exactly rules S (same (rules.ident u) (rules.ident v)) (above_in T (rules.ident u) (rules.ident v)) (above_in T (rules.ident v) (rules.ident u)) r.is-held
      (record {
        one→ = λ e. one-update m k (same→eq (rules.ident u) (rules.ident v) e);
        →one = λ e. eq→same (rules.ident u) (rules.ident v) (ap rules.ident e);
        first→ = above→ m q;
        →first = ancestor-above q;
        second→ = above→ k r;
        →second = ancestor-above r;
      })

  module _ {u : Update} (ready : PredecessorsHeld T u) where
    pub preds-known : Known rules S u
    preds-known =
        record {
          found = λ i m. let r = ready.held-row i m in let s = sound.rows r.0 r.1 in (r.0.update, s.of_set, sym s.has-id ∙ r.2);
        }

    -- the row of a predecessor
    pred-row : {v : Update} → v ∈ S → rules.ident v ∈ u.preds → HeldRowOf v
    pred-row {v} k p = let r = ready.held-row (rules.ident v) p in held-row-of k r.1 r.2 r.3

    pub preds-held : PredsHeld rules S u
    preds-held v k p = (pred-row k p).is-held

    -- ancestors_of: the rows of u's ancestors
    reaches : Row → Bool
    reaches r = member r.id u.preds || any (λ (p : Id). above_in T r.id p) u.preds

    ancestors-only : (i : Id) → i ∈ ancestors_of T u → (x : Update) × Ancestor rules S x u × (rules.ident x ≡ i)
    unfolding ancestors_of reaches
    ancestors-only i m =
        let r = map-∈ (λ (r : Row). r.id) (keep reaches T) m in
        let k = keep-∈ reaches T r.1 in
        step r.0 k.0 r.2 (or-true→ (member r.0.id u.preds) (any (λ (p : Id). above_in T r.0.id p) u.preds) k.1)
      where
        step : (r : Row) → r ∈ T → r.id ≡ i
            → (member r.id u.preds ≡ true) ⊎ (any (λ (p : Id). above_in T r.id p) u.preds ≡ true)
            → (x : Update) × Ancestor rules S x u × (rules.ident x ≡ i)
        step r k e (inl h) =
            let s = sound.rows r k in
            (r.update, Ancestor.direct s.of_set (∈-cast (sym s.has-id) (member→∈ r.id u.preds h)), sym s.has-id ∙ e)
        step r k e (inr h) =
            let p = any→∈ (λ (p : Id). above_in T r.id p) u.preds h in
            let v = preds-known.found p.0 p.1 in
            let m = ∈-cast v.2 p.1 in
            let a = above-ancestor (pred-row v.1 m) r.id (ap (above_in T r.id) v.2 ∙ p.2) in
            (a.0, Ancestor.further v.1 m a.1, a.2 ∙ e)

    ancestors-each : (x : Update) → Ancestor rules S x u → rules.ident x ∈ ancestors_of T u
    unfolding ancestors_of reaches
    ancestors-each x a =
        let r = row_of (ancestor-stored rules S a) in
        ∈-cast (sym r.2) (∈-map (λ (r : Row). r.id) (∈-keep reaches r.1 (step r.0 r.2 (ancestor-cases rules S a))))
      where
        step : (r : Row) → r.id ≡ rules.ident x
            → ((x ∈ S) × (rules.ident x ∈ u.preds)) ⊎ ((y : Update) × (y ∈ S) × (rules.ident y ∈ u.preds) × Ancestor rules S x y)
            → reaches r ≡ true
        step r e (inl h) = or_left (member r.id u.preds) (any (λ (p : Id). above_in T r.id p) u.preds) (∈→member (∈-cast e h.1))
        step r e (inr h) =
            or_right (member r.id u.preds) (any (λ (p : Id). above_in T r.id p) u.preds)
            (∈→any (λ (p : Id). above_in T r.id p) h.2 (ap (λ (i : Id). above_in T i (rules.ident h.0)) e ∙ ancestor-above (pred-row h.1 h.2) h.3))

    ancestors-right : AncestorIds rules S u (ancestors_of T u)
    unfolding ancestors_of reaches
    ancestors-right =
        record { only = ancestors-only; each = ancestors-each; once = distinct-keys (λ (r : Row). r.id) (distinct-keep reaches sound.once) }

    -- antichain: no predecessor is an ancestor of another
    abbrev unordered : Id → Id → Bool
    unordered p q = not (before_or_after (order_in T p q))

    antichain→ : antichain T u.preds ≡ true → Antichain rules S u
    unfolding antichain before_or_after
    antichain→ e x y mx my px py a =
        let h = all→∈ (λ (p : Id). all (unordered p) u.preds) u.preds e (rules.ident x) px in
        let b : order_in T (rules.ident x) (rules.ident y) ≡ Before = (order-exactly (pred-row mx px) (pred-row my py)).all Before a in
        true-false (all→∈ (unordered (rules.ident x)) u.preds h (rules.ident y) py) (ap (λ (o : CausalOrder). not (before_or_after o)) b)

    →antichain : Antichain rules S u → antichain T u.preds ≡ true
    unfolding antichain
    →antichain n =
        ∈→all (λ (p : Id). all (unordered p) u.preds) u.preds
        λ p mp. ∈→all (unordered p) u.preds
        λ q mq. ap not (not-true→false (before_or_after (order_in T p q)) (ordered p q mp mq))
      where
        ordered : (p q : Id) → p ∈ u.preds → q ∈ u.preds → before_or_after (order_in T p q) ≡ true → ⊥
        ordered p q mp mq e =
            let x = preds-known.found p mp in
            let y = preds-known.found q mq in
            let px = ∈-cast x.2 mp in
            let py = ∈-cast y.2 mq in
            let order = order-exactly (pred-row x.1 px) (pred-row y.1 py) in
            let so : order_in T (rules.ident x.0) (rules.ident y.0) ≡ order_in T p q = ap₂ (order_in T) x.2 y.2 in
            ⊎_elim (λ (b : order_in T p q ≡ Before). n x.0 y.0 x.1 y.1 px py (order.right Before (so ∙ b)))
            (λ (b : order_in T p q ≡ After). n y.0 x.0 y.1 x.1 py px (order.right After (so ∙ b)))
            (before_or_after→ (order_in T p q) e)

    -- valid_op: an ancestor with the id i whose operation passes a test
    ancestor-row : (i : Id) (q : Operation → Bool) → member i (ancestors_of T u) ≡ true
        → any (λ (r : Row). same r.id i && q r.update.op) T ≡ true
        → (x : Update) × Ancestor rules S x u × (rules.ident x ≡ i) × (q x.op ≡ true)
    ancestor-row i q m e =
        let a = ancestors-only i (member→∈ i (ancestors_of T u) m) in
        let r = row-with (λ (r : Row). q r.update.op) T i e in
        let s = update-of r.1 (ancestor-stored rules S a.1) (r.2 ∙ sym a.2) in
        (a.0, a.1, a.2, ap (λ (x : Update). q x.op) (sym s) ∙ r.3)

    row-ancestor : {i : Id} (q : Operation → Bool) {x : Update} → Ancestor rules S x u → rules.ident x ≡ i → q x.op ≡ true
        → (member i (ancestors_of T u) && any (λ (r : Row). same r.id i && q r.update.op) T) ≡ true
    row-ancestor {i} q {x} a e h =
        let r = row_of (ancestor-stored rules S a) in
        and-true (member i (ancestors_of T u)) (any (λ (r : Row). same r.id i && q r.update.op) T)
        (∈→member (∈-cast (sym e) (ancestors-each x a)))
        (with_row (λ (r : Row). q r.update.op) r.1 (r.2 ∙ e) (ap (λ (x : Update). q x.op) r.3 ∙ h))

    insert→ : (i : Id) → (member i (ancestors_of T u) && insert_in T i) ≡ true → InsertAncestor rules S u i
    unfolding insert_in
    insert→ i e =
        let h = and-true→ (member i (ancestors_of T u)) (insert_in T i) e in
        let a = ancestor-row i is_insert h.0 h.1 in
        let o = is_insert→ a.0.op a.3 in
        record { found = a.0; above = a.1; has-id = a.2; anchor = o.0; value = o.1; is-insert = o.2 }

    →insert : {i : Id} → InsertAncestor rules S u i → (member i (ancestors_of T u) && insert_in T i) ≡ true
    unfolding insert_in
    →insert a = row-ancestor is_insert a.above a.has-id (→is_insert a.is-insert)

    pub valid→ : (o : Operation) → valid_op T (ancestors_of T u) o ≡ true → Valid rules S u o
    unfolding valid_op add_in
    valid→ (Add t) e = tt
    valid→ (Remove t named) e = λ i m.
        let h = and-true→ (member i (ancestors_of T u)) (add_in T t i) (all→∈ (λ (i : Id). member i (ancestors_of T u) && add_in T t i) named e i m) in
        let a = ancestor-row i (is_add t) h.0 h.1 in
        record { found = a.0; above = a.1; has-id = a.2; is-add = is_add→ t a.0.op a.3 }
    valid→ (Insert a v) e =
        ⊎_elim (λ (h : same a beginning ≡ true). inl (same→eq a beginning h)) (λ (h : (member a (ancestors_of T u) && insert_in T a) ≡ true). inr (insert→ a h))
        (or-true→ (same a beginning) (member a (ancestors_of T u) && insert_in T a) e)
    valid→ (Delete i) e = insert→ i e

    pub →valid : (o : Operation) → Valid rules S u o → valid_op T (ancestors_of T u) o ≡ true
    unfolding valid_op add_in
    →valid (Add t) v = refl
    →valid (Remove t named) v =
        ∈→all (λ (i : Id). member i (ancestors_of T u) && add_in T t i) named
        (λ i m. let a = v i m in row-ancestor (is_add t) a.above a.has-id (→is_add t a.is-add))
    →valid (Insert a w) v =
        ⊎_elim (λ (h : a ≡ beginning). or_left (same a beginning) (member a (ancestors_of T u) && insert_in T a) (eq→same a beginning h))
        (λ (h : InsertAncestor rules S u a). or_right (same a beginning) (member a (ancestors_of T u) && insert_in T a) (→insert h)) v
    →valid (Delete i) v = →insert v

    -- both conditions
    fine→ : fine_by T (ancestors_of T u) u ≡ true → Fine rules S u
    unfolding fine_by
    fine→ e =
        let h = and-true→ (antichain T u.preds) (valid_op T (ancestors_of T u) u.op) e in
        record { antichain = antichain→ h.0; valid = valid→ u.op h.1 }

    →fine : Fine rules S u → fine_by T (ancestors_of T u) u ≡ true
    unfolding fine_by
    →fine f =
        and-true (antichain T u.preds) (valid_op T (ancestors_of T u) u.op) (→antichain f.antichain) (→valid u.op f.valid)

  -- judge
  ruled-sound : {r : Row} → SoundRow rules S r → (v : Standing) (up : List Id) → Right rules S v r.update up → SoundRow rules S (ruled v up r)
  unfolding ruled
  ruled-sound s v up h = record { of_set = s.of_set; has-id = s.has-id; right = h }

  known-sound : {r : Row} → SoundRow rules S r → PredecessorsHeld T r.update → SoundRow rules S (judge_known T r (ancestors_of T r.update))
  unfolding judge_known judge_fine
  known-sound {r} s ready = step (fine_by T (ancestors_of T r.update) r.update) refl
    where
      step : (b : Bool) → fine_by T (ancestors_of T r.update) r.update ≡ b → SoundRow rules S (judge_fine b (ancestors_of T r.update) r)
      step true e =
          ruled-sound s held (ancestors_of T r.update)
          (Held.held s.of_set (preds-known ready) (preds-held ready) (fine→ ready e), ancestors-right ready)
      step false e =
          ruled-sound s void []
          (Void.broken s.of_set (preds-known ready) (preds-held ready) (λ f. true-false (→fine ready f) e))

  void-after : {r : Row} → SoundRow rules S r → any (void_in T) r.update.preds ≡ true → Void rules S r.update
  void-after {r} s e =
      let p = any→∈ (void_in T) r.update.preds e in
      let q = in-void T p.0 p.2 in
      let k = sound.rows q.0 q.1 in
      Void.after s.of_set k.of_set (∈-cast (sym k.has-id ∙ q.2) p.1) (right-as void q.1 refl q.3)

  -- a row judged by a sound table is right
  pub judge-sound : {r : Row} → r ∈ T → SoundRow rules S (judge T r)
  unfolding judge judge_from judge_by
  judge-sound {r} m = from r.verdict
    where
      by : (b h : Bool) → any (void_in T) r.update.preds ≡ b → all (held_in T) r.update.preds ≡ h → SoundRow rules S (judge_by b h T r)
      by true h e f = ruled-sound (sound.rows r m) void [] (void-after (sound.rows r m) e)
      by false true e f = known-sound (sound.rows r m) (all_held T r.update f)
      by false false e f = sound.rows r m

      from : (v : Standing) → SoundRow rules S (judge_from v T r)
      from held = sound.rows r m
      from void = sound.rows r m
      from waiting = by (any (void_in T) r.update.preds) (all (held_in T) r.update.preds) refl refl

  -- rows made anew, of the same updates and right, keep the table sound
  pub map-sound : (f : Row → Row) → ((r : Row) → r ∈ T → SoundRow rules S (f r)) → ((r : Row) → (f r).id ≡ r.id)
      → ((r : Row) → (f r).update ≡ r.update) → SoundTable rules S (map f T)
  map-sound f right same_id same_update =
      record {
        rows = λ r m. let q = map-∈ f T m in subst (SoundRow rules S) q.2 (right q.0 q.1);
        row_for = λ u m. let q = sound.row_for u m in (f q.0, ∈-map f q.1, same_update q.0 ∙ q.2);
        once = distinct-map (λ (r : Row). r.id) f sound.once (λ r q m k e. sym (same_id r) ∙ e ∙ same_id q);
      }

  pub round-sound : SoundTable rules S (round T)
  unfolding round
  round-sound = map-sound (judge T) (λ r m. judge-sound m) (judge-id T) (judge-update T)
