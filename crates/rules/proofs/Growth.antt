-- More updates keep what is settled: Ancestor, Held, Void, the ranks of held updates, forks and faults; so only the members of a set count. One more update
-- changes the standing of no update but itself and those it is an ancestor of.
use Rattle.std.specs.Prelude.{◌≡◌, ◌⊎◌, List, [], ◌∷◌, ◌++◌, ℕ}
use Rattle.std.proofs.Common.{sym, subst, inl, inr, ⊎_elim}
use Rattle.bytes_order.specs.Member.{◌∈◌, SameMembers}
use Rattle.bytes_order.specs.MemberLaws.{∈-singleton, ∈-append-left, append-∈, all-or}
use Rattle.bytes_order.specs.Distinct.{Distinct}
use Rattle.bytes_order.specs.DistinctLaws.{distinct-eq}
use Rattle.update_format.specs.Update.{Id, Operation, Add, Remove, Insert, Delete, Update}
use Rattle.rules.specs.Standing.{Rules, Ancestor, AddAncestor, InsertAncestor, Valid, Known, Fine, Held, PredsHeld, Void, Waiting}
use Rattle.rules.specs.ReadOff.{Rank, Forked, Fault, Faulty}
use Rattle.rules.proofs.LeastSets.{held-stored, void-stored}

-- what is valid by the ancestors in S is valid by those in S', if S' has them
module _ (rules : Rules) (S S' : List Update) (u : Update) (keeps : (x : Update) → Ancestor rules S x u → Ancestor rules S' x u) where
  keep-add : {t : List ℕ} {i : Id} → AddAncestor rules S u t i → AddAncestor rules S' u t i
  keep-add a = record { found = a.found; above = keeps a.found a.above; has-id = a.has-id; is-add = a.is-add }

  keep-insert : {i : Id} → InsertAncestor rules S u i → InsertAncestor rules S' u i
  keep-insert a =
      record {
        found = a.found;
        above = keeps a.found a.above;
        has-id = a.has-id;
        anchor = a.anchor;
        value = a.value;
        is-insert = a.is-insert;
      }

  keep-valid : (o : Operation) → Valid rules S u o → Valid rules S' u o
  keep-valid (Add t) v = v
  keep-valid (Remove t named) v = λ i m. keep-add (v i m)
  keep-valid (Insert a w) v = ⊎_elim inl (λ (h : InsertAncestor rules S u a). inr (keep-insert h)) v
  keep-valid (Delete i) v = keep-insert v

module _ (rules : Rules) (S S' : List Update) (more : (u : Update) → u ∈ S → u ∈ S') (distinct : Distinct rules.ident S') where
  pub grow-ancestor : {x y : Update} → Ancestor rules S x y → Ancestor rules S' x y
  grow-ancestor (Ancestor.direct {x = x} m p) = Ancestor.direct (more x m) p
  grow-ancestor (Ancestor.further {y = y} m p a) = Ancestor.further (more y m) p (grow-ancestor a)

  grow-known : {u : Update} → Known rules S u → Known rules S' u
  grow-known k = record { found = λ i p. let r = k.found i p in (r.0, more r.0 r.1, r.2) }

  -- a predecessor in S' of an update whose predecessors are in S is in S
  pred-stays : {u v : Update} → Known rules S u → v ∈ S' → rules.ident v ∈ u.preds → v ∈ S
  pred-stays {v = v} k m p =
      let r = k.found (rules.ident v) p in
      subst (λ (x : Update). x ∈ S) (distinct-eq distinct (more r.0 r.1) m r.2) r.1

  -- an update gains no ancestor if its predecessors, all in S, gain none
  ancestors-stay : {x u : Update} → Known rules S u
      → ((y : Update) → y ∈ S → rules.ident y ∈ u.preds → Ancestor rules S' x y → Ancestor rules S x y)
      → Ancestor rules S' x u → Ancestor rules S x u
  ancestors-stay k stay (Ancestor.direct n p) = Ancestor.direct (pred-stays k n p) p
  ancestors-stay k stay (Ancestor.further {y = y} n p a) = let n' = pred-stays k n p in Ancestor.further n' p (stay y n' p a)

  -- a held update gains no ancestor
  pub held-ancestors-stay : {x u : Update} → Held rules S u → Ancestor rules S' x u → Ancestor rules S x u
  held-ancestors-stay (Held.held m k hs f) a = ancestors-stay k (λ y n p b. held-ancestors-stay (hs y n p) b) a

  -- where all predecessors are held, the antichain rule and the operation are judged alike
  grow-fine : {u : Update} → Known rules S u → PredsHeld rules S u → Fine rules S u → Fine rules S' u
  grow-fine {u} k hs f =
      record {
        antichain =
            λ x y m n p q a.
            let n' = pred-stays k n q in f.antichain x y (pred-stays k m p) n' p q (held-ancestors-stay (hs y n' q) a);
        valid = keep-valid rules S S' u (λ x. grow-ancestor) u.op f.valid;
      }

  fine_before : {u : Update} → Known rules S u → PredsHeld rules S u → Fine rules S' u → Fine rules S u
  fine_before {u} k hs f =
      record {
        antichain = λ x y m n p q a. f.antichain x y (more x m) (more y n) p q (grow-ancestor a);
        valid = keep-valid rules S' S u (λ x. ancestors-stay k (λ y n p b. held-ancestors-stay (hs y n p) b)) u.op f.valid;
      }

  -- an update of S' that is fine in S, its predecessors held in both, is held
  pub grow-ready : {u : Update} → u ∈ S' → Known rules S u → PredsHeld rules S u → ((v : Update) → v ∈ S → rules.ident v ∈ u.preds → Held rules S' v)
      → Fine rules S u → Held rules S' u
  grow-ready m k hs hs' f = Held.held m (grow-known k) (λ v n p. hs' v (pred-stays k n p) p) (grow-fine k hs f)

  pub grow-held : {u : Update} → Held rules S u → Held rules S' u
  grow-held {u} (Held.held m k hs f) = grow-ready (more u m) k hs (λ v n p. grow-held (hs v n p)) f

  -- and one that is not fine in S is void
  pub grow-broken : {u : Update} → u ∈ S' → Known rules S u → PredsHeld rules S u → (Fine rules S u → ⊥) → Void rules S' u
  grow-broken m k hs bad = Void.broken m (grow-known k) (λ v n p. grow-held (hs v (pred-stays k n p) p)) (λ f. bad (fine_before k hs f))

  pub grow-void : {u : Update} → Void rules S u → Void rules S' u
  grow-void (Void.after {u = u} {v = v} m n p w) = Void.after (more u m) (more v n) p (grow-void w)
  grow-void (Void.broken {u = u} m k hs bad) = grow-broken (more u m) k hs bad

  pub grow-rank : {u : Update} {n : ℕ} → Held rules S u → Rank rules S u n → Rank rules S' u n
  grow-rank h r =
      record {
        ids = r.ids;
        once = r.once;
        counts = λ x a. r.counts x (held-ancestors-stay h a);
        only = λ i m. let o = r.only i m in (o.0, grow-ancestor o.1, o.2);
        number = r.number;
      }

  pub grow-forked : {a : ℕ} → Forked rules S a → Forked rules S' a
  grow-forked f =
      record {
        one = f.one;
        other = f.other;
        one-held = grow-held f.one-held;
        other-held = grow-held f.other-held;
        one-by = f.one-by;
        other-by = f.other-by;
        two = f.two;
        one_apart = λ a. f.one_apart (held-ancestors-stay f.other-held a);
        other-apart = λ a. f.other-apart (held-ancestors-stay f.one-held a);
      }

  pub grow-fault : {u : Update} → Fault rules S u → Fault rules S' u
  grow-fault f =
      record {
        is-void = grow-void f.is-void;
        preds-known = grow-known f.preds-known;
        preds-held = λ v n p. grow-held (f.preds-held v (pred-stays f.preds-known n p) p);
      }

  pub grow-faulty : {a : ℕ} → Faulty rules S a → Faulty rules S' a
  grow-faulty f = record { update = f.update; is-fault = grow-fault f.is-fault; fault-by = f.fault-by }

-- only the members count: the same standings (Waiting follows)
pub same-waiting : (rules : Rules) (S S' : List Update) → SameMembers S S' → Distinct rules.ident S → Distinct rules.ident S'
    → {u : Update} → Waiting rules S u → Waiting rules S' u
same-waiting rules S S' same d d' {u} w =
    record {
      stored = same.forth u w.stored;
      not-held = λ h. w.not-held (grow-held rules S' S same.back d h);
      not-void = λ v. w.not-void (grow-void rules S' S same.back d v);
    }

-- one more update, w, at the end
abbrev pub extended : List Update → Update → List Update
extended S w = S ++ (w ∷ [])

pub added_more : (S : List Update) (w u : Update) → u ∈ S → u ∈ extended S w
added_more S w u m = ∈-append-left (w ∷ []) m

pub added-cases : (S : List Update) (w : Update) {u : Update} → u ∈ extended S w → (u ∈ S) ⊎ (u ≡ w)
added-cases S w {u} m = ⊎_elim inl (λ (n : u ∈ (w ∷ [])). inr (∈-singleton n)) (append-∈ S m)

-- u is w or has w as an ancestor
abbrev pub Reached : Rules → List Update → Update → Update → Type 0
Reached rules S w u = (u ≡ w) ⊎ Ancestor rules (extended S w) w u

module _ (rules : Rules) (S : List Update) (w : Update) (distinct : Distinct rules.ident (extended S w)) where
  reached-above : {u v : Update} → v ∈ extended S w → rules.ident v ∈ u.preds → Reached rules S w v → Ancestor rules (extended S w) w u
  reached-above {u} {v} n p r =
      ⊎_elim
      (λ (e : v ≡ w). Ancestor.direct (subst (λ (x : Update). x ∈ extended S w) e n) (subst (λ (x : Update). rules.ident x ∈ u.preds) e p))
      (λ (a : Ancestor rules (extended S w) w v). Ancestor.further n p a)
      r

  -- the id i is that of an update held before
  abbrev HeldBefore : Id → Type 0
  HeldBefore i = (v : Update) × Held rules S v × (rules.ident v ≡ i)

  -- the predecessors of u were all held before
  record Ready (u : Update) : Type 0 where
    known : Known rules S u
    below : PredsHeld rules S u

  ready : {u : Update} → ((i : Id) → i ∈ u.preds → HeldBefore i) → Ready u
  ready g =
      record {
        known = record { found = λ i p. let r = g i p in (r.0, held-stored rules S r.1, r.2) };
        below =
            λ v n p.
            let r = g (rules.ident v) p in
            subst (λ (x : Update). Held rules S x)
            (distinct-eq distinct (added_more S w r.0 (held-stored rules S r.1)) (added_more S w v n) r.2) r.1;
      }

  -- they were, or w is an ancestor of u, if each was held before or is reached
  ready-cases : {u : Update} → Known rules (extended S w) u
      → ((v : Update) → v ∈ extended S w → rules.ident v ∈ u.preds → Held rules S v ⊎ Reached rules S w v)
      → Ready u ⊎ Ancestor rules (extended S w) w u
  ready-cases {u} k cases =
      ⊎_elim (λ (g : (i : Id) → i ∈ u.preds → HeldBefore i). inl (ready g)) inr (all-or {P = HeldBefore} u.preds each)
    where
      each : (i : Id) → i ∈ u.preds → HeldBefore i ⊎ Ancestor rules (extended S w) w u
      each i p =
          let r = k.found i p in
          let q : rules.ident r.0 ∈ u.preds = subst (λ (j : Id). j ∈ u.preds) (sym r.2) p in
          ⊎_elim
          (λ (h : Held rules S r.0). inl (r.0, h, r.2))
          (λ (c : Reached rules S w r.0). inr (reached-above r.1 q c))
          (cases r.0 r.1 q)

  -- a held update was held before, or is w, or has w as an ancestor
  pub held-cases : {u : Update} → Held rules (extended S w) u → Held rules S u ⊎ Reached rules S w u
  held-cases {u} (Held.held m k hs f) = step (added-cases S w m) (ready-cases k (λ v n p. held-cases (hs v n p)))
    where
      step : (u ∈ S) ⊎ (u ≡ w) → Ready u ⊎ Ancestor rules (extended S w) w u → Held rules S u ⊎ Reached rules S w u
      step (inl m') (inl b) =
          inl (Held.held m' b.known b.below (fine_before rules S (extended S w) (added_more S w) distinct b.known b.below f))
      step (inl m') (inr a) = inr (inr a)
      step (inr e) b = inr (inl e)

  -- a void update was void before, or is w, or has w as an ancestor
  pub void-cases : {u : Update} → Void rules (extended S w) u → Void rules S u ⊎ Reached rules S w u
  void-cases (Void.after {u = u} {v = v} m n p x) = step (added-cases S w m) (void-cases x)
    where
      step : (u ∈ S) ⊎ (u ≡ w) → Void rules S v ⊎ Reached rules S w v → Void rules S u ⊎ Reached rules S w u
      step (inl m') (inl y) = inl (Void.after m' (void-stored rules S y) p y)
      step (inl m') (inr r) = inr (inr (reached-above n p r))
      step (inr e) y = inr (inl e)
  void-cases (Void.broken {u = u} m k hs bad) = step (added-cases S w m) (ready-cases k (λ v n p. held-cases (hs v n p)))
    where
      step : (u ∈ S) ⊎ (u ≡ w) → Ready u ⊎ Ancestor rules (extended S w) w u → Void rules S u ⊎ Reached rules S w u
      step (inl m') (inl b) =
          inl
          (Void.broken m' b.known b.below (λ f. bad (grow-fine rules S (extended S w) (added_more S w) distinct b.known b.below f)))
      step (inl m') (inr a) = inr (inr a)
      step (inr e) b = inr (inl e)

  -- what is newly held or newly void is w, or has w as an ancestor
  pub held_new : {u : Update} → Held rules (extended S w) u → (Held rules S u → ⊥) → Reached rules S w u
  held_new {u} h n = ⊎_elim (λ (g : Held rules S u). absurd (n g)) (λ (r : Reached rules S w u). r) (held-cases h)

  pub void-new : {u : Update} → Void rules (extended S w) u → (Void rules S u → ⊥) → Reached rules S w u
  void-new {u} h n = ⊎_elim (λ (g : Void rules S u). absurd (n g)) (λ (r : Reached rules S w u). r) (void-cases h)

  -- what was held or void stays so
  pub held_kept : {u : Update} → Held rules S u → Held rules (extended S w) u
  held_kept = grow-held rules S (extended S w) (added_more S w) distinct

  pub void-kept : {u : Update} → Void rules S u → Void rules (extended S w) u
  void-kept = grow-void rules S (extended S w) (added_more S w) distinct

  -- so what waits is w or waited before, and what waited goes on waiting unless it is reached
  pub waiting-cases : {u : Update} → Waiting rules (extended S w) u → (u ≡ w) ⊎ Waiting rules S u
  waiting-cases {u} x =
      ⊎_elim
      (λ (m : u ∈ S).
      inr (record { stored = m; not-held = λ h. x.not-held (held_kept h); not-void = λ v. x.not-void (void-kept v) }))
      inl
      (added-cases S w x.stored)

  pub waiting_kept : {u : Update} → Waiting rules S u → (Reached rules S w u → ⊥) → Waiting rules (extended S w) u
  waiting_kept {u} x n =
      record {
        stored = added_more S w u x.stored;
        not-held = λ h. n (held_new h x.not-held);
        not-void = λ v. n (void-new v x.not-void);
      }
