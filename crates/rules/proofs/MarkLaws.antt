-- Document 02, E7: a fault is exactly a void update by the second clause of Void; an author has one mark at most, and one where it has a fork or a fault; more updates
-- keep it, but for a second kind. And what is computed of marks from a settled table is what `ReadOff` defines. In order: faults by the rules (`fault→broken`, `broken→fault`,
-- and who has none); an author's mark (`marked-unique`, `marked→`); from a settled table the forks, the faults, the kinds by two tests and the marks (`mark-right`, `mark-all`); of
-- every set `→marked`; growth (`grow-marked`); how many marks an author has, and their order.
use Rattle.std.specs.Prelude.{ℕ, ◌≤◌, ◌≡◌, ◌⊎◌, Bool, ◌&&◌, length}
use Rattle.std.proofs.Common.{arith, ◌∙◌, ⊎_elim}
use Rattle.std.proofs.Math.Path.{refl, sym, ap, subst, subst₂}
use Rattle.std.proofs.Math.Logic.{inl, inr}
use mathlib.Core.List.Memᴰ
use mathlib.Core.List.{List, head-eq_of_cons-eq}
use Rattle.std.proofs.Math.Bool.{true, false, false≢true}
use Rattle.std.proofs.Math.Dec.{eqb}
use borrow.Author.Tests.{eqb-true, eq-eqb}
use Rattle.bytes_order.specs.Member.{◌∈◌, any, all, concat_map}
use Rattle.bytes_order.specs.MemberLaws.{∈-singleton, ∈-map, map-∈, any→∈, ∈→any, ∈→all, ∈-concat_map, concat_map-∈}
use Rattle.bytes_order.specs.BoolLaws.{true-false, not-true→false, and-true→, and-true}
use Rattle.bytes_order.specs.Ascending.{Ascending, ascending-nil}
use Rattle.bytes_order.specs.SortLaws.{ascending-one, sort-∈, ∈-sort}
use Rattle.bytes_order.specs.Distinct.{Distinct, Identifies}
use Rattle.update_format.specs.Update.{Id, Update}
use Rattle.rules.specs.declared.CausalOrder.TheVariants.{Apart}
use Rattle.rules.specs.declared.MarkKind.{MarkKind}
use Rattle.rules.specs.declared.MarkKind.TheVariants.{Fork as IsFork, Fault as IsFault, Both as IsBoth}
use Rattle.rules.specs.Standing.{Rules, Known, Fine, Held, PredsHeld, Void, Waiting}
use Rattle.rules.specs.Mark.{Mark, mark_key, kinds_by, marks_by}
use Rattle.rules.specs.ReadOff.{Forked, Fault, Faulty, MarkedFor}
use Rattle.rules.specs.CausalOrder.{Causal, is_apart}
use Rattle.rules.specs.Settle.{Row, Table, void, is_held, is_void, held_in, order_in, held_row, forked_by, forked_row, fault_row, some_row_by, marks_in, marks}
use Rattle.rules.proofs.Decides.{Decides}
use Rattle.rules.proofs.LeastSets.{held-stored, void-stored, held-not-void}
use Rattle.rules.proofs.CausalLaws.{is_apart→, forked→order, order→forked}
use Rattle.rules.proofs.Growth.{grow-forked, grow-faulty}
use Rattle.rules.proofs.SettlingTable.{is_held→, is_void→, held_in_lem, all_held, preds-known, preds-held}
use Rattle.rules.proofs.Settling.{settled-decides}
use Rattle.rules.proofs.TableLaws.{HeldRow, any-held→, →any-held, decides-sound, row-held, says_row, held-row, row-order}

module _ (rules : Rules) (S : List Update) where
  -- a fault is a void update by the second clause: "all are held and the antichain rule or the operation fails"
  pub fault→broken : {u : Update} → Fault rules S u → (u ∈ S) × Known rules S u × PredsHeld rules S u × (Fine rules S u → ⊥)
  fault→broken {u} f = step f.is-void
    where
      step : Void rules S u → (u ∈ S) × Known rules S u × PredsHeld rules S u × (Fine rules S u → ⊥)
      step (Void.after {v = v} m n p w) = absurd (held-not-void rules S (f.preds-held v n p) w)
      step (Void.broken m k hs bad) = (m, k, hs, bad)

  -- and each such update is a fault
  pub broken→fault : {u : Update} → u ∈ S → Known rules S u → PredsHeld rules S u → (Fine rules S u → ⊥) → Fault rules S u
  broken→fault m k hs bad = record { is-void = Void.broken m k hs bad; preds-known = k; preds-held = hs }

  -- "One that is void only through a predecessor marks nobody.": with a void predecessor an update is no fault, whatever its other predecessors are
  pub behind-void-no-fault : {u v : Update} → v ∈ S → rules.ident v ∈ u.preds → Void rules S v → Fault rules S u → ⊥
  behind-void-no-fault {v = v} m p w f = held-not-void rules S (f.preds-held v m p) w

  -- nor is one that waits or is held
  pub waiting-no-fault : {u : Update} → Waiting rules S u → Fault rules S u → ⊥
  waiting-no-fault w f = w.not-void f.is-void

  pub held-no-fault : {u : Update} → Held rules S u → Fault rules S u → ⊥
  held-no-fault h f = held-not-void rules S h f.is-void

  -- an author is marked for one thing
  pub marked-unique : (k k' : MarkKind) (a : ℕ) → MarkedFor rules S k a → MarkedFor rules S k' a → k ≡ k'
  marked-unique IsFork IsFork a m n = refl
  marked-unique IsFork IsFault a m n = absurd (m.1 n.0)
  marked-unique IsFork IsBoth a m n = absurd (m.1 n.1)
  marked-unique IsFault IsFork a m n = absurd (n.1 m.0)
  marked-unique IsFault IsFault a m n = refl
  marked-unique IsFault IsBoth a m n = absurd (m.1 n.0)
  marked-unique IsBoth IsFork a m n = absurd (n.1 m.1)
  marked-unique IsBoth IsFault a m n = absurd (n.1 m.0)
  marked-unique IsBoth IsBoth a m n = refl

  -- it has a fork or a fault, and so an update in the set
  pub marked→ : (k : MarkKind) (a : ℕ) → MarkedFor rules S k a → Forked rules S a ⊎ Faulty rules S a
  marked→ IsFork a m = inl m.0
  marked→ IsFault a m = inr m.0
  marked→ IsBoth a m = inl m.0

  pub marked-stored : (k : MarkKind) (a : ℕ) → MarkedFor rules S k a → (u : Update) × (u ∈ S) × (u.author ≡ a)
  marked-stored k a m =
      ⊎_elim
      (λ (f : Forked rules S a). (f.one, held-stored rules S f.one-held, f.one-by))
      (λ (f : Faulty rules S a). (f.update, void-stored rules S f.is-fault.is-void, f.fault-by))
      (marked→ k a m)

  mark-eq : (m n : Mark) → MarkedFor rules S m.kind m.author → MarkedFor rules S n.kind n.author → m.author ≡ n.author → m ≡ n
  mark-eq m n p q e =
      let k = marked-unique m.kind n.kind m.author p (subst (MarkedFor rules S n.kind) (sym e) q) in
      λ i. record { author = e i; kind = k i }

-- an author's marks are its own
pub marks-by-author : (a : ℕ) (fork fault : Bool) {m : Mark} → m ∈ marks_by a fork fault → m.author ≡ a
unfolding marks_by
marks-by-author a fork fault h =
    let f = map-∈ (λ (k : MarkKind). record { author = a; kind = k }) (kinds_by fork fault) h in
    ap (λ (n : Mark). n.author) (sym f.2)

-- a row of the author that passes a test

module _ (p : Row → Bool) (T : Table) where
  row-by→ : (a : ℕ) → some_row_by p T a ≡ true → (r : Row) × (r ∈ T) × (r.update.author ≡ a) × (p r ≡ true)
  unfolding some_row_by
  row-by→ a e =
      let f = any→∈ (λ (r : Row). eqb r.update.author a && p r) T e in
      let h = and-true→ (eqb f.0.update.author a) (p f.0) f.2 in
      (f.0, f.1, eqb-true f.0.update.author a h.0, h.1)

  →row-by : {a : ℕ} {r : Row} → r ∈ T → r.update.author ≡ a → p r ≡ true → some_row_by p T a ≡ true
  unfolding some_row_by
  →row-by {a} {r} m by e =
      ∈→any (λ (r : Row). eqb r.update.author a && p r) m (and-true (eqb r.update.author a) (p r) (eq-eqb r.update.author a by) e)

-- the test of `forked_by` on a held row
forked : Table → Row → Row → Bool
forked T r q = eqb r.update.author q.update.author && is_apart (order_in T r.id q.id)

module _ (rules : Rules) (S : List Update) (T : Table) (distinct : Distinct rules.ident S) (decides : Decides rules S T) where
  -- forks

  apart→ : {r q : Row} → HeldRow T r → HeldRow T q → forked T r q ≡ true → Forked rules S r.update.author
  unfolding forked
  apart→ {r} {q} h k e =
      let t = and-true→ (eqb r.update.author q.update.author) (is_apart (order_in T r.id q.id)) e in
      order→forked rules S distinct
      (record {
        one = r.update;
        other = q.update;
        one-held = row-held distinct decides h;
        other-held = row-held distinct decides k;
        one-by = refl;
        other-by = sym (eqb-true r.update.author q.update.author t.0);
        are-apart = (row-order distinct decides h k).right Apart (is_apart→ (order_in T r.id q.id) t.1);
      })

  →apart : {r q : Row} → HeldRow T r → HeldRow T q → r.update.author ≡ q.update.author → Causal rules S Apart r.update q.update → forked T r q ≡ true
  unfolding forked is_apart
  →apart {r} {q} h k by c =
      and-true (eqb r.update.author q.update.author) (is_apart (order_in T r.id q.id)) (eq-eqb r.update.author q.update.author by)
      (ap is_apart ((row-order distinct decides h k).all Apart c))

  abbrev has_fork : ℕ → Bool
  has_fork a = some_row_by (forked_row T) T a

  abbrev has_fault : ℕ → Bool
  has_fault a = some_row_by (fault_row T) T a

  forked→ : (a : ℕ) → has_fork a ≡ true → Forked rules S a
  unfolding forked_row forked_by forked held_row
  forked→ a e =
      let r = row-by→ (forked_row T) T a e in
      let h = and-true→ (is_held r.0.verdict) (any (forked_by T r.0) T) r.3 in
      let q = any-held→ T (forked T r.0) h.1 in
      subst (Forked rules S) r.2 (apart→ (record { row-in = r.1; ruled_held = is_held→ r.0.verdict h.0 }) q.1 q.2)

  →forked : {a : ℕ} → Forked rules S a → has_fork a ≡ true
  unfolding forked_row forked_by forked held_row is_held
  →forked {a} f =
      let m = forked→order rules S f in
      let r = held-row distinct decides m.one-held in
      let q = held-row distinct decides m.other-held in
      let by : r.0.update.author ≡ a = ap (λ (u : Update). u.author) r.2 ∙ m.one-by in
      let by' : q.0.update.author ≡ a = ap (λ (u : Update). u.author) q.2 ∙ m.other-by in
      let e : forked T r.0 q.0 ≡ true =
      →apart r.1 q.1 (by ∙ sym by') (subst₂ (Causal rules S Apart) (sym r.2) (sym q.2) m.are-apart) in
      →row-by (forked_row T) T r.1.row-in by
      (and-true (is_held r.0.verdict) (any (forked_by T r.0) T) (ap is_held r.1.ruled_held) (→any-held T (forked T r.0) q.1 e))

  -- faults

  fault-row→ : {r : Row} → r ∈ T → fault_row T r ≡ true → Fault rules S r.update
  unfolding fault_row
  fault-row→ {r} m e =
      let h = and-true→ (is_void r.verdict) (all (held_in T) r.update.preds) e in
      let ready = all_held T r.update h.1 in
      record {
        is-void = decides.void_right r m (is_void→ r.verdict h.0);
        preds-known = preds-known (decides-sound decides) ready;
        preds-held = preds-held (decides-sound decides) ready;
      }

  →fault-row : {u : Update} → Fault rules S u → (r : Row) × (r ∈ T) × (r.update ≡ u) × (fault_row T r ≡ true)
  unfolding fault_row is_void
  →fault-row {u} f =
      let r = says_row distinct decides void u f.is-void in
      let each : (i : Id) → i ∈ r.0.update.preds → held_in T i ≡ true = λ i m.
      let k = f.preds-known.found i (subst (λ (v : Update). i ∈ v.preds) r.3 m) in
      let q = held-row distinct decides (f.preds-held k.0 k.1 (subst (λ (v : Update). rules.ident k.0 ∈ v.preds) r.3 (subst (λ (j : Id). j ∈ r.0.update.preds) (sym k.2) m))) in
      held_in_lem q.1.row-in (decides.has-id q.0 q.1.row-in ∙ ap rules.ident q.2 ∙ k.2) q.1.ruled_held in (
        r.0,
        r.1,
        r.3,
        and-true (is_void r.0.verdict) (all (held_in T) r.0.update.preds) (ap is_void r.2) (∈→all (held_in T) r.0.update.preds each),
      )

  faulty→ : (a : ℕ) → has_fault a ≡ true → Faulty rules S a
  faulty→ a e =
      let r = row-by→ (fault_row T) T a e in
      record { update = r.0.update; is-fault = fault-row→ r.1 r.3; fault-by = r.2 }

  →faulty : {a : ℕ} → Faulty rules S a → has_fault a ≡ true
  →faulty f =
      let r = →fault-row f.is-fault in
      →row-by (fault_row T) T r.1 (ap (λ (u : Update). u.author) r.2 ∙ f.fault-by) r.3

  -- the kinds by the two tests

  no-fork : (a : ℕ) → (Forked rules S a → ⊥) → has_fork a ≡ false
  no-fork a n = not-true→false (has_fork a) (λ e. n (forked→ a e))

  no-fault : (a : ℕ) → (Faulty rules S a → ⊥) → has_fault a ≡ false
  no-fault a n = not-true→false (has_fault a) (λ e. n (faulty→ a e))

  kind-all : (a : ℕ) (k : MarkKind) → MarkedFor rules S k a → k ∈ kinds_by (has_fork a) (has_fault a)
  unfolding kinds_by
  kind-all a IsFork h = subst₂ (λ (b c : Bool). IsFork ∈ kinds_by b c) (sym (→forked h.0)) (sym (no-fault a h.1)) (Memᴰ.head refl)
  kind-all a IsFault h = subst₂ (λ (b c : Bool). IsFault ∈ kinds_by b c) (sym (no-fork a h.1)) (sym (→faulty h.0)) (Memᴰ.head refl)
  kind-all a IsBoth h = subst₂ (λ (b c : Bool). IsBoth ∈ kinds_by b c) (sym (→forked h.0)) (sym (→faulty h.1)) (Memᴰ.head refl)

  kind-right : (a : ℕ) {k : MarkKind} → k ∈ kinds_by (has_fork a) (has_fault a) → MarkedFor rules S k a
  unfolding kinds_by
  kind-right a {k} = step (has_fork a) (has_fault a) refl refl
    where
      step : (b c : Bool) → has_fork a ≡ b → has_fault a ≡ c → k ∈ kinds_by b c → MarkedFor rules S k a
      step true true e f m = subst (λ (j : MarkKind). MarkedFor rules S j a) (sym (∈-singleton m)) (forked→ a e, faulty→ a f)
      step true false e f m = subst (λ (j : MarkKind). MarkedFor rules S j a) (sym (∈-singleton m)) (forked→ a e, λ g. true-false (→faulty g) f)
      step false true e f m = subst (λ (j : MarkKind). MarkedFor rules S j a) (sym (∈-singleton m)) (faulty→ a f, λ g. true-false (→forked g) e)
      step false false e f m = absurd (Memᴰ.not-nil m)

  -- the marks of an author

  pub marks-in→ : (a : ℕ) {m : Mark} → m ∈ marks_in T a → MarkedFor rules S m.kind m.author
  unfolding marks_in marks_by
  marks-in→ a {m} h =
      let f = map-∈ (λ (k : MarkKind). record { author = a; kind = k }) (kinds_by (has_fork a) (has_fault a)) h in
      subst (λ (n : Mark). MarkedFor rules S n.kind n.author) f.2 (kind-right a f.1)

  pub →marks-in : (m : Mark) → MarkedFor rules S m.kind m.author → m ∈ marks_in T m.author
  unfolding marks_in marks_by
  →marks-in m h = ∈-map (λ (k : MarkKind). record { author = m.author; kind = k }) (kind-all m.author m.kind h)

  abbrev all-marks : List Mark
  all-marks = concat_map (λ (r : Row). marks_in T r.update.author) T

  mark_of : {m : Mark} → m ∈ all-marks → MarkedFor rules S m.kind m.author
  mark_of n = let r = concat_map-∈ (λ (r : Row). marks_in T r.update.author) T n in marks-in→ r.0.update.author r.2

  marks-identify : Identifies mark_key all-marks
  unfolding mark_key
  marks-identify m n h k e = mark-eq rules S m n (mark_of h) (mark_of k) (head-eq_of_cons-eq e)

  pub mark-right : (m : Mark) → m ∈ marks T → MarkedFor rules S m.kind m.author
  unfolding marks
  mark-right m h = mark_of (sort-∈ mark_key all-marks h)

  pub mark-all : (m : Mark) → MarkedFor rules S m.kind m.author → m ∈ marks T
  unfolding marks
  mark-all m h =
      let f = marked-stored rules S m.kind m.author h in
      let r = decides.row_for f.0 f.1 in
      let by : r.0.update.author ≡ m.author = ap (λ (u : Update). u.author) r.2 ∙ f.2 in
      ∈-sort mark_key marks-identify
      (∈-concat_map (λ (r : Row). marks_in T r.update.author) r.1 (subst (λ (a : ℕ). m ∈ marks_in T a) (sym by) (→marks-in m h)))

  -- an author with a fork or a fault is marked
  marked-some : (a : ℕ) → Forked rules S a ⊎ Faulty rules S a → (k : MarkKind) × MarkedFor rules S k a
  unfolding kinds_by
  marked-some a h =
      let f = some-kind (has_fork a) (has_fault a) (⊎_elim (λ (g : Forked rules S a). inl (→forked g)) (λ (g : Faulty rules S a). inr (→faulty g)) h) in
      (f.0, kind-right a f.1)
    where
      some-kind : (fork fault : Bool) → (fork ≡ true) ⊎ (fault ≡ true) → (k : MarkKind) × (k ∈ kinds_by fork fault)
      some-kind true true t = (IsBoth, Memᴰ.head refl)
      some-kind true false t = (IsFork, Memᴰ.head refl)
      some-kind false true t = (IsFault, Memᴰ.head refl)
      some-kind false false t = absurd (⊎_elim false≢true false≢true t)

-- .. by any set with distinct ids
pub →marked : (rules : Rules) (S : List Update) → Distinct rules.ident S → (a : ℕ) → Forked rules S a ⊎ Faulty rules S a → (k : MarkKind) × MarkedFor rules S k a
→marked rules S distinct = marked-some rules S _ distinct (settled-decides rules S distinct)

-- more updates keep a mark: its kind stays, or becomes both
pub grow-marked : (rules : Rules) (S S' : List Update) → ((u : Update) → u ∈ S → u ∈ S') → Distinct rules.ident S'
    → (k : MarkKind) (a : ℕ) → MarkedFor rules S k a → (k' : MarkKind) × MarkedFor rules S' k' a × ((k' ≡ k) ⊎ (k' ≡ IsBoth))
grow-marked rules S S' more distinct k a m =
    let f = →marked rules S' distinct a (⊎_elim (λ (g : Forked rules S a). inl (fork g)) (λ (g : Faulty rules S a). inr (fault g)) (marked→ rules S k a m)) in
    (f.0, f.1, step k f.0 m f.1)
  where
    fork : Forked rules S a → Forked rules S' a
    fork = grow-forked rules S S' more distinct

    fault : Faulty rules S a → Faulty rules S' a
    fault = grow-faulty rules S S' more distinct

    step : (k k' : MarkKind) → MarkedFor rules S k a → MarkedFor rules S' k' a → (k' ≡ k) ⊎ (k' ≡ IsBoth)
    step IsFork IsFork m n = inl refl
    step IsFork IsFault m n = absurd (n.1 (fork m.0))
    step IsFork IsBoth m n = inr refl
    step IsFault IsFork m n = absurd (n.1 (fault m.0))
    step IsFault IsFault m n = inl refl
    step IsFault IsBoth m n = inr refl
    step IsBoth IsFork m n = absurd (n.1 (fault m.1))
    step IsBoth IsFault m n = absurd (n.1 (fork m.0))
    step IsBoth IsBoth m n = inl refl

-- an author has one mark at most
pub marks-by-few : (a : ℕ) (fork fault : Bool) → length (marks_by a fork fault) ≤ 1
unfolding marks_by kinds_by
marks-by-few a true true = omega arith
marks-by-few a true false = omega arith
marks-by-few a false true = omega arith
marks-by-few a false false = omega arith

-- .. and one only where it has a fork or a fault
pub marks-by-some : (a : ℕ) (fork fault : Bool) {m : Mark} → m ∈ marks_by a fork fault → (fork ≡ true) ⊎ (fault ≡ true)
unfolding marks_by kinds_by
marks-by-some a true fault h = inl refl
marks-by-some a false true h = inr refl
marks-by-some a false false h = absurd (Memᴰ.not-nil h)

-- an author's marks, one at most, stand ascending
pub marks-by-ascending : (a : ℕ) (fork fault : Bool) → Ascending mark_key (marks_by a fork fault)
unfolding marks_by kinds_by
marks-by-ascending a true true = ascending-one
marks-by-ascending a true false = ascending-one
marks-by-ascending a false true = ascending-one
marks-by-ascending a false false = ascending-nil
