-- The predecessors that are computed for a new update are those that `Choice` defines, and `Choice` leaves no choice.
use Rattle.std.specs.Prelude.{ℕ, ◌≤◌, ◌<◌, ◌≡◌, refl, ◌⊎◌, List, ◌∷◌, map, Bool, true, false, ◌&&◌, leb, ltb, eqb}
use Rattle.std.proofs.Common.{lt_irrefl, sym, ◌∙◌, ap, subst, subst₂, inl, inr, ⊎_elim, leb-true, leb-false, ltb-true, eqb-true}
use Rattle.std.proofs.Math.ListN.{length, length-map}
use Rattle.bytes_order.specs.Order.{before}
use Rattle.bytes_order.specs.Member.{◌∈◌, member, SameMembers}
use Rattle.bytes_order.specs.BoolLaws.{bool_cases, true-false, or-true→, and-true→}
use Rattle.bytes_order.specs.OrderLaws.{before-less, before-equal, before-irrefl, before-asym, trichotomy}
use Rattle.bytes_order.specs.MemberLaws.{∈-cast, ∈-map, map-∈, member→∈, member-false→}
use Rattle.bytes_order.specs.Distinct.{Distinct}
use Rattle.bytes_order.specs.DistinctLaws.{distinct-eq, distinct-length-lt}
use Rattle.bytes_order.specs.Ascending.{Ascending}
use Rattle.bytes_order.specs.SortLaws.{ascending-distinct, ascending-unique, ascending-map}
use Rattle.update_format.specs.Update.{Id, Operation, Update}
use Rattle.rules.specs.Standing.{Rules}
use Rattle.rules.specs.ReadOff.{Head, Rank, Sooner}
use Rattle.rules.specs.Choice.{Higher, by_rank, by-id, Highest, AtOrAbove, OwnHead, OwnThenLowest, Chosen}
use Rattle.rules.specs.Settle.{Row, Table, settled_table, heads, rank, rank_key, updates_in, parts_in}
use Rattle.rules.proofs.Decides.{Decides}
use Rattle.rules.proofs.LeastSets.{held-stored}
use Rattle.rules.proofs.Settling.{settled-ascending, settled-decides}
use Rattle.rules.proofs.TableLaws.{HeldRow, row-eq, row-held, row-id, row-rank, held-row, ancestor→above, above→ancestor}
use Rattle.rules.proofs.ListedLaws.{sooner-asym}
use Rattle.rules.proofs.ReadOffLaws.{head-right, head-all}
use Rattle.rules.proofs.PartsLaws.{exactly-unique, parts-right}
use Rattle.rules.proofs.ChoiceLaws.{row_id, RowAtOrAbove, OwnRows, own_heads, chosen-ascending, chosen-head, chosen-number, chosen-lowest, head-row, own-rows, own-∈, chosen-own}
use Rattle.rules.proofs.WritingLaws.{written-heads, written-all-heads}
use Rattle.rules.specs.Writing.{chosen, written_in, written_of}

-- a member, where it cannot be that it is none
∈-stable : (i : Id) (is : List Id) → ((i ∈ is → ⊥) → ⊥) → i ∈ is
∈-stable i is n =
    ⊎_elim (λ (e : member i is ≡ true). member→∈ i is e) (λ (e : member i is ≡ false). absurd (n (member-false→ e))) (bool_cases (member i is))

-- there is one choice

module _ (rules : Rules) (S : List Update) (distinct : Distinct rules.ident S) where
  higher→sooner : {u v : Update} → Higher rules S u v → Sooner rules S u v
  higher→sooner {u} {v} (by_rank r q l) =
      record { rank-u = _; rank-v = _; is-rank-u = r; is-rank-v = q; larger = before-less (rules.ident v) (rules.ident u) l }
  higher→sooner {u} {v} (by-id r q l) =
      record { rank-u = _; rank-v = _; is-rank-u = r; is-rank-v = q; larger = before-equal (rules.ident v) (rules.ident u) refl l }

  pub highest-unique : {a : ℕ} {u v : Update} → Highest rules S a u → Highest rules S a v → u ≡ v
  highest-unique {a} {u} {v} h k = step (h.highest v k.is-held k.held_by) (k.highest u h.is-held h.held_by)
    where
      step : (v ≡ u) ⊎ Higher rules S u v → (u ≡ v) ⊎ Higher rules S v u → u ≡ v
      step (inl e) y = sym e
      step (inr x) (inl e) = e
      step (inr x) (inr y) = absurd (sooner-asym (higher→sooner x) (higher→sooner y))

  pub own-head-unique : {a : ℕ} {g h : Update} → OwnHead rules S a g → OwnHead rules S a h → g ≡ h
  own-head-unique {a} {g} {h} p q =
      let e : p.update ≡ q.update = highest-unique p.is-highest q.is-highest in
      ⊎_elim
      (λ (b : before (rules.ident g) (rules.ident h) ≡ true).
      absurd (true-false b (q.lowest g p.is-head (subst (λ (u : Update). AtOrAbove rules S u g) e p.is_above))))
      (⊎_elim (λ (i : rules.ident g ≡ rules.ident h). distinct-eq distinct (held-stored rules S p.is-head.is-held) (held-stored rules S q.is-head.is-held) i)
      (λ (b : before (rules.ident h) (rules.ident g) ≡ true).
      absurd (true-false b (p.lowest h q.is-head (subst (λ (u : Update). AtOrAbove rules S u h) (sym e) q.is_above)))))
      (trichotomy (rules.ident g) (rules.ident h))

  module _ {most a : ℕ} where
    own-named : {ids : List Id} → OwnThenLowest rules most S a ids → {h : Update} → OwnHead rules S a h → rules.ident h ∈ ids
    own-named {ids} c {h} o =
        let f = c.own o.update o.is-highest.is-held o.is-highest.held_by in
        subst (λ (u : Update). rules.ident u ∈ ids) (own-head-unique f.1 o) f.2

    -- what one choice names, another does: otherwise the other would name a head that the first does not, and each of the two heads would be the lower
    named-too : {is js : List Id} (c : Chosen rules most S a is) (d : Chosen rules most S a js) → OwnThenLowest rules most S a is → OwnThenLowest rules most S a js → (i : Id) → i ∈ is → i ∈ js
    named-too {is} {js} c d x y i m = ∈-stable i js (λ out. missed out)
      where
        missed : (i ∈ js → ⊥) → ⊥
        missed out =
            let h = c.only-heads i m in
            let hm : rules.ident h.0 ∈ is = ∈-cast h.2 m in
            let ho : rules.ident h.0 ∈ js → ⊥ = λ k. out (∈-cast (sym h.2) k) in
            let within : (j : Id) → j ∈ js → j ∈ is = λ j k.
            ∈-stable j is (λ left.
            let g = d.only-heads j k in
            let gm : rules.ident g.0 ∈ js = ∈-cast g.2 k in
            let go : rules.ident g.0 ∈ is → ⊥ = λ n. left (∈-cast (sym g.2) n) in
            true-false (x.lowest h.0 g.0 h.1 g.1 hm (λ o. ho (own-named y o)) go)
            (before-asym (rules.ident g.0) (rules.ident h.0) (y.lowest g.0 h.0 g.1 h.1 gm (λ o. go (own-named x o)) ho))) in
            let less : length js < length is = distinct-length-lt (ascending-distinct d.ascending) is within m (λ j k e. out (∈-cast (sym e) k)) in
            lt_irrefl most (subst₂ (λ (x y : ℕ). x < y) y.number x.number less)

    pub choice-unique : {is js : List Id} → Chosen rules most S a is → Chosen rules most S a js → is ≡ js
    choice-unique {is} {js} c d = ascending-unique c.ascending d.ascending (step (leb (length c.heads) most) refl)
      where
        same_number : length c.heads ≡ length d.heads
        same_number = ap length (exactly-unique c.heads-exactly d.heads-exactly)

        all_of : {ks ls : List Id} → Chosen rules most S a ks → (e : Chosen rules most S a ls) → length e.heads ≤ most → (i : Id) → i ∈ ks → i ∈ ls
        all_of k e few i m = let h = k.only-heads i m in ∈-cast (sym h.2) (e.all-heads few h.0 h.1)

        step : (b : Bool) → leb (length c.heads) most ≡ b → SameMembers is js
        step true e =
            let few = leb-true (length c.heads) most e in
            record { forth = all_of c d (subst (λ (n : ℕ). n ≤ most) same_number few); back = all_of d c few }
        step false e =
            let many = leb-false (length c.heads) most e in
            let x = c.above_most many in
            let y = d.above_most (subst (λ (n : ℕ). most < n) same_number many) in
            record { forth = named-too c d x y; back = named-too d c y x }

-- a greater key is a higher rank, or the same and a larger id
higher-cases : (m n : ℕ) (xs ys : List ℕ) → before (m ∷ xs) (n ∷ ys) ≡ true → (m < n) ⊎ ((m ≡ n) × (before xs ys ≡ true))
unfolding before
higher-cases m n xs ys e =
    ⊎_elim (λ (h : ltb m n ≡ true). inl (ltb-true m n h))
    (λ (h : (eqb m n && before xs ys) ≡ true). let k = and-true→ (eqb m n) (before xs ys) h in inr (eqb-true m n k.0, k.1))
    (or-true→ (ltb m n) (eqb m n && before xs ys) e)

-- what is computed is that choice

module _ (rules : Rules) (most : ℕ) (one : 0 < most) (S : List Update) (distinct : Distinct rules.ident S) (a : ℕ) where
  abbrev table : Table
  table = settled_table rules S

  decides : Decides rules S table
  decides = settled-decides rules S distinct

  ordered : Ascending row_id table
  ordered = settled-ascending rules S

  head-id : {r : Row} → r ∈ heads table → r.id ≡ rules.ident r.update
  head-id m = row-id distinct decides (head-row distinct decides m)

  key-higher : {t q : Row} → HeldRow table t → HeldRow table q → before (rank_key q) (rank_key t) ≡ true → Higher rules S t.update q.update
  key-higher {t} {q} h k b =
      ⊎_elim (λ (l : rank q < rank t). by_rank (row-rank distinct decides h) (row-rank distinct decides k) l)
      (λ (l : (rank q ≡ rank t) × (before q.id t.id ≡ true)).
      by-id (row-rank distinct decides h) (subst (λ (n : ℕ). Rank rules S q.update n) l.0 (row-rank distinct decides k))
      (subst₂ (λ (i j : Id). before i j ≡ true) (row-id distinct decides k) (row-id distinct decides h) l.1))
      (higher-cases (rank q) (rank t) q.id t.id b)

  top-highest : {t h : Row} → OwnRows table a t h → Highest rules S a t.update
  top-highest {t} o =
      record {
        is-held = row-held distinct decides o.top_held;
        held_by = o.top_by;
        highest = λ v k e.
            let f = held-row distinct decides k in
            subst (λ (w : Update). (w ≡ t.update) ⊎ Higher rules S t.update w) f.2
            (⊎_elim (λ (q : f.0 ≡ t). inl (ap (λ (r : Row). r.update) q)) (λ (b : before (rank_key f.0) (rank_key t) ≡ true). inr (key-higher o.top_held f.1 b))
            (o.top f.0 f.1 (ap (λ (w : Update). w.author) f.2 ∙ e)));
      }

  row→above : {t h : Row} → HeldRow table t → HeldRow table h → RowAtOrAbove t h → AtOrAbove rules S t.update h.update
  row→above kt kh =
      ⊎_elim (λ e. inl (ap (λ (r : Row). r.update) (row-eq distinct decides kh.row-in kt.row-in e)))
      (λ m. inr (above→ancestor distinct decides kt kh m))

  above→row : {t h : Row} → HeldRow table t → HeldRow table h → AtOrAbove rules S t.update h.update → RowAtOrAbove t h
  above→row kt kh =
      ⊎_elim (λ e. inl (row-id distinct decides kh ∙ ap rules.ident e ∙ sym (row-id distinct decides kt))) (λ m. inr (ancestor→above distinct decides kt kh m))

  own-right : {t h : Row} → OwnRows table a t h → OwnHead rules S a h.update
  own-right {t} {h} o =
      let kh = head-row distinct decides o.is-head in
      record {
        update = t.update;
        is-highest = top-highest o;
        is-head = head-right rules S table distinct decides h o.is-head;
        is_above = row→above o.top_held kh o.is_above;
        lowest = λ g k c.
            let f = head-all rules S table distinct decides g k in
            let kf = head-row distinct decides f.1 in
            subst (λ (u : Update). before (rules.ident u) (rules.ident h.update) ≡ false) f.2
            (subst₂ (λ (i j : Id). before i j ≡ false) (head-id f.1) (head-id o.is-head)
            (⊎_elim (λ (q : f.0 ≡ h). ap (λ (r : Row). before r.id h.id) q ∙ before-irrefl h.id)
            (λ (b : before h.id f.0.id ≡ true). before-asym h.id f.0.id b)
            (o.lowest f.0 f.1 (above→row o.top_held kf (subst (AtOrAbove rules S t.update) (sym f.2) c)))));
      }

  named-row : {h : Update} → Head rules S h → rules.ident h ∈ map row_id (chosen most table a) → (r : Row) × (r ∈ chosen most table a) × (r.update ≡ h)
  named-row {h} k m =
      let f = map-∈ row_id (chosen most table a) m in
      let i = chosen-head most table a f.1 in
      let s = head-right rules S table distinct decides f.0 i in
      (f.0, f.1, distinct-eq distinct (held-stored rules S s.is-held) (held-stored rules S k.is-held) (sym (head-id i) ∙ f.2))

  own-then-lowest : most < length (heads table) → OwnThenLowest rules most S a (map row_id (chosen most table a))
  own-then-lowest many =
      record {
        number = length-map (chosen most table a) row_id ∙ chosen-number most table a ordered many;
        own = λ u k e.
            let r = held-row distinct decides k in
            let f = own-rows distinct decides ordered a r.1 (ap (λ (v : Update). v.author) r.2 ∙ e) in
            let h : Row = f.1 in
            (h.update, own-right f.2, ∈-cast (sym (head-id f.2.is-head)) (∈-map row_id (chosen-own distinct decides ordered a most one f.2)));
        lowest = λ h g kh kg m not_own out.
            let p = named-row kh m in
            let q = head-all rules S table distinct decides g kg in
            let other : p.0 ∈ own_heads table a → ⊥ = λ i.
            not_own (subst (OwnHead rules S a) p.2 (own-right (own-∈ distinct decides ordered a i).1)) in
            let left : q.0 ∈ chosen most table a → ⊥ = λ i. out (∈-cast (sym (head-id q.1 ∙ ap rules.ident q.2)) (∈-map row_id i)) in
            subst₂ (λ (i j : Id). before i j ≡ true) (head-id (chosen-head most table a p.1) ∙ ap rules.ident p.2) (head-id q.1 ∙ ap rules.ident q.2)
            (chosen-lowest most table a one ordered p.1 other q.1 left);
      }

  -- the predecessors of the update that the author writes, with any operation
  pub choice-right : (o : Operation) → Chosen rules most S a (written_of rules most S a o).preds
  unfolding written_of written_in parts_in
  choice-right o =
      let n : length (updates_in (heads table)) ≡ length (heads table) = length-map (heads table) (λ (r : Row). r.update) in
      record {
        heads = updates_in (heads table);
        heads-exactly = (parts-right distinct decides ordered).heads;
        ascending = ascending-map (λ (i : Id). i) row_id (chosen-ascending most table a ordered) (λ r. refl);
        only-heads = written-heads rules most S distinct a o;
        all-heads = λ few. written-all-heads rules most S distinct a o (subst (λ (k : ℕ). k ≤ most) n few);
        above_most = λ many. own-then-lowest (subst (λ (k : ℕ). most < k) n many);
      }
