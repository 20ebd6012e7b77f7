-- For a set with distinct ids the parts of the report, as they are computed, are exactly those that `Standing` and `ReadOff` define, and only one choice of
-- parts is. Of two held updates the causal order, as it is computed, is exactly that of `CausalOrder`.
use Rattle.std.specs.Prelude.{ℕ, ◌≡◌, List, Bool, true, ◌&&◌}
use Rattle.std.proofs.Math.Path.{refl}
use Rattle.std.proofs.Common.{sym, subst, subst₂}
use Rattle.std.proofs.Math.Bool.{not}
use Rattle.bytes_order.specs.Order.{before}
use Rattle.bytes_order.specs.Member.{◌∈◌, keep}
use Rattle.bytes_order.specs.MemberLaws.{∈-cast, ∈-map, map-∈, ∈-keep, keep-∈}
use Rattle.bytes_order.specs.Distinct.{Distinct}
use Rattle.bytes_order.specs.Ascending.{Ascending}
use Rattle.bytes_order.specs.SortLaws.{ascending-distinct, ascending-keep, ascending-rekey, ascending-unique, sort-ascending, ascending-map}
use Rattle.update_format.specs.Update.{Id, Update}
use Rattle.rules.specs.Standing.{Rules, Held, Void, Waiting}
use Rattle.rules.specs.SetEntry.{SetEntry, entry_key}
use Rattle.rules.specs.Mark.{Mark, mark_key}
use Rattle.rules.specs.ReadOff.{Head, MarkedFor, Present}
use Rattle.rules.specs.CausalOrder.{OrderExactly, turned}
use Rattle.rules.specs.Parts.{Parts, Exactly, ReadFrom}
use Rattle.rules.specs.Settle.{Standing, held, waiting, void, Row, Table, is_held, is_waiting, is_void, held_row, covered, heads, marks, set_entries, updates_in, parts_in, parts_of, settled_table, causal_order}
use Rattle.rules.proofs.Decides.{Decides}
use Rattle.rules.proofs.LeastSets.{VerdictSays}
use Rattle.rules.proofs.CausalLaws.{order-turned}
use Rattle.rules.proofs.SettlingTable.{is_held→, is_waiting→, is_void→}
use Rattle.rules.proofs.Settling.{settled-decides, settled-ascending}
use Rattle.rules.proofs.TableLaws.{row-says, says_row, held-order}
use Rattle.rules.proofs.MarkLaws.{mark-right, mark-all}
use Rattle.rules.proofs.ReadOffLaws.{head-right, head-all, set-entry-right, set-entry-all, list_right, listed-unique}

-- a part has each of its elements once, and its definition determines it
module _ {A : Type 0} {key : A → List ℕ} {P : A → Type 0} where
  pub exactly-once : {xs : List A} → Exactly key P xs → Distinct key xs
  exactly-once e = ascending-distinct e.ascending

  pub exactly-unique : {xs ys : List A} → Exactly key P xs → Exactly key P ys → xs ≡ ys
  exactly-unique e f =
      ascending-unique e.ascending f.ascending
      (record { forth = λ x m. f.all x (e.right x m); back = λ x m. e.all x (f.right x m) })

-- the parts of a table that decides its set
module _ {rules : Rules} {S : List Update} {T : Table} (distinct : Distinct rules.ident S) (decides : Decides rules S T) (ordered : Ascending (λ (r : Row). r.id) T) where
  -- the updates of the rows that pass a test stand in the order of the rows
  kept-ascending : (p : Row → Bool) → Ascending rules.ident (updates_in (keep p T))
  kept-ascending p =
      ascending-map rules.ident (λ (r : Row). r.update)
      (ascending-rekey (λ (r : Row). rules.ident r.update) (ascending-keep p ordered)
      (λ r q m k e. subst₂ (λ (i j : Id). before i j ≡ true) (decides.has-id r (keep-∈ p T m).0) (decides.has-id q (keep-∈ p T k).0) e)) (λ r. refl)

  kept-exactly : (p : Row → Bool) (P : Update → Type 0) → ((r : Row) → r ∈ keep p T → P r.update)
      → ((u : Update) → P u → (r : Row) × (r ∈ keep p T) × (r.update ≡ u)) → Exactly rules.ident P (updates_in (keep p T))
  kept-exactly p P right all =
      record {
        right = λ u m. let f = map-∈ (λ (r : Row). r.update) (keep p T) m in subst P f.2 (right f.0 f.1);
        all = λ u h. let f = all u h in ∈-cast (sym f.2) (∈-map (λ (r : Row). r.update) f.1);
        ascending = kept-ascending p;
      }

  -- those of a verdict, by its test
  verdict-exactly : (v : Standing) (p : Standing → Bool) → ((w : Standing) → p w ≡ true → w ≡ v) → p v ≡ true
      → Exactly rules.ident (VerdictSays rules S v) (updates_in (keep (λ (r : Row). p r.verdict) T))
  verdict-exactly v p only passes =
      kept-exactly (λ (r : Row). p r.verdict) (VerdictSays rules S v)
      (λ r m. let k = keep-∈ (λ (r : Row). p r.verdict) T m in row-says distinct decides v r k.0 (only r.verdict k.1))
      (λ u h. let f = says_row distinct decides v u h in
      (f.0, ∈-keep (λ (r : Row). p r.verdict) f.1 (subst (λ (w : Standing). p w ≡ true) (sym f.2) passes), f.3))

  held-exactly : Exactly rules.ident (Held rules S) (updates_in (keep (λ (r : Row). is_held r.verdict) T))
  unfolding is_held
  held-exactly = verdict-exactly held is_held is_held→ refl

  waiting-exactly : Exactly rules.ident (Waiting rules S) (updates_in (keep (λ (r : Row). is_waiting r.verdict) T))
  unfolding is_waiting
  waiting-exactly = verdict-exactly waiting is_waiting is_waiting→ refl

  void-exactly : Exactly rules.ident (Void rules S) (updates_in (keep (λ (r : Row). is_void r.verdict) T))
  unfolding is_void
  void-exactly = verdict-exactly void is_void is_void→ refl

  heads-exactly : Exactly rules.ident (Head rules S) (updates_in (heads T))
  unfolding heads
  heads-exactly =
      kept-exactly (λ (r : Row). held_row r && not (covered T r)) (Head rules S) (head-right rules S T distinct decides) (head-all rules S T distinct decides)

  marks-exactly : Exactly mark_key (λ (m : Mark). MarkedFor rules S m.kind m.author) (marks T)
  unfolding marks
  marks-exactly =
      record { right = mark-right rules S T distinct decides; all = mark-all rules S T distinct decides; ascending = sort-ascending mark_key _ }

  set-exactly : Exactly entry_key (λ (e : SetEntry). Present rules S e.tag e.author) (set_entries T)
  unfolding set_entries
  set-exactly =
      record { right = set-entry-right rules S T distinct decides; all = set-entry-all rules S T distinct decides; ascending = sort-ascending entry_key _ }

  pub parts-right : ReadFrom rules S (parts_in T)
  unfolding parts_in
  parts-right =
      record {
        held = held-exactly;
        heads = heads-exactly;
        waiting = waiting-exactly;
        void = void-exactly;
        marks = marks-exactly;
        set = set-exactly;
        list = list_right rules S T distinct decides;
      }

-- Demand 2 of the rules: the parts of the report, as they are computed from a set, are exactly those of the definitions
pub read_right : (rules : Rules) (S : List Update) → Distinct rules.ident S → ReadFrom rules S (parts_of rules S)
unfolding parts_of
read_right rules S distinct = parts-right distinct (settled-decides rules S distinct) (settled-ascending rules S)

-- and the definitions leave no choice
pub read-unique : (rules : Rules) (S : List Update) → Distinct rules.ident S → {p q : Parts} → ReadFrom rules S p → ReadFrom rules S q → p ≡ q
read-unique rules S distinct f g =
    let h = exactly-unique f.held g.held in
    let t = exactly-unique f.heads g.heads in
    let w = exactly-unique f.waiting g.waiting in
    let v = exactly-unique f.void g.void in
    let m = exactly-unique f.marks g.marks in
    let s = exactly-unique f.set g.set in
    let l = listed-unique rules S distinct f.list g.list in
    λ i. record { held = h i; heads = t i; waiting = w i; void = v i; marks = m i; set = s i; list = l i }

-- Document 02, E4: the answer for two held updates of a set is exactly theirs
pub causal-order-right : (rules : Rules) (S : List Update) → Distinct rules.ident S → {u v : Update} → Held rules S u → Held rules S v
    → OrderExactly rules S u v (causal_order rules S u v)
unfolding causal_order
causal-order-right rules S distinct h k = held-order distinct (settled-decides rules S distinct) h k

-- and for any two updates, held or not, the pair turned round has the answer turned
pub causal-order-turned : (rules : Rules) (S : List Update) (u v : Update) → causal_order rules S v u ≡ turned (causal_order rules S u v)
unfolding causal_order
causal-order-turned rules S u v = order-turned (settled_table rules S) (rules.ident u) (rules.ident v)
