-- The rounds of `Settle` decide Held and Void exactly, ancestors included; and every update of a set is held, waiting or void.
use Rattle.std.specs.Prelude.{ℕ, zero, suc, ◌+◌, ◌≤◌, ◌<◌, ◌≡◌, refl, ◌⊎◌, List, [], ◌∷◌, Bool, true, false, cond}
use Rattle.std.proofs.Common.{arith, ◌∙◌, inl, inr, ⊎_elim}
use Rattle.std.proofs.Math.Path.{sym, ap, subst}
use Rattle.std.proofs.Math.ListN.{length}
use Rattle.std.proofs.lemmas.List.{length-map}
use Rattle.bytes_order.specs.Order.{same}
use Rattle.bytes_order.specs.Member.{◌∈◌}
use Rattle.bytes_order.specs.Distinct.{Distinct, distinct_nil, distinct_cons}
use Rattle.bytes_order.specs.BoolLaws.{true-false}
use Rattle.bytes_order.specs.OrderLaws.{eq→same, ne→same-false}
use Rattle.bytes_order.specs.Sort.{sort}
use Rattle.bytes_order.specs.Ascending.{Ascending}
use Rattle.bytes_order.specs.MemberLaws.{∈-cases, ∈-cast, ∈-map, map-∈, keep-length, ∈→any, ∈→all}
use Rattle.bytes_order.specs.DistinctLaws.{distinct-eq, distinct-identifies, distinct-map}
use Rattle.bytes_order.specs.SortLaws.{sort-∈, ∈-sort, sort-ascending, sort-distinct, sort-length, ascending-map}
use Rattle.update_format.specs.Update.{Id, Update}
use Rattle.rules.specs.Standing.{Rules, Held, Void, Waiting}
use Rattle.rules.specs.Settle.{Standing, held, waiting, void, Row, Table, is_waiting, held_in, void_in, ruled, judge, round, rounds, start, start_all, settled_table}
use Rattle.rules.proofs.Decides.{Decides}
use Rattle.rules.proofs.LeastSets.{SoundVerdicts, Stable, settled-waiting}
use Rattle.rules.proofs.SettlingTable.{SoundRow, SoundTable, Undecided, RowOutcome, stays, is_ruled, judge-outcome, judge-id, round-sound, held_in_lem, void-in, row_of, right-as}
use Rattle.bytes_order.specs.CountLaws.{count_members, map-lowers}

-- the verdict of the row with an id
verdict_in : Table → Id → Standing
verdict_in [] i = waiting
verdict_in (r ∷ T) i = cond (same r.id i) r.verdict (verdict_in T i)

verdict-in : {T : Table} {r : Row} → Distinct (λ (r : Row). r.id) T → r ∈ T → verdict_in T r.id ≡ r.verdict
unfolding verdict_in
verdict-in distinct_nil m = absurd (elim m [ ])
verdict-in {r = r} (distinct_cons {x = q} {xs = T} n d) m = step (∈-cases m) (verdict-in d)
  where
    here : Bool → Standing
    here b = cond b q.verdict (verdict_in T r.id)

    step : (r ≡ q) ⊎ (r ∈ T) → (r ∈ T → verdict_in T r.id ≡ r.verdict) → here (same q.id r.id) ≡ r.verdict
    step (inl e) below = ap here (eq→same q.id r.id (ap (λ (r : Row). r.id) (sym e))) ∙ ap (λ (r : Row). r.verdict) (sym e)
    step (inr k) below = ap here (ne→same-false q.id r.id (n r k)) ∙ below k

-- a sound table, as an assignment of verdicts
module _ {rules : Rules} {S : List Update} {T : Table} (sound : SoundTable rules S T) where
  verdict : Update → Standing
  verdict u = verdict_in T (rules.ident u)

  verdict-of : {r : Row} {u : Update} → r ∈ T → r.id ≡ rules.ident u → r.verdict ≡ verdict u
  unfolding verdict
  verdict-of m e = sym (verdict-in sound.once m) ∙ ap (verdict_in T) e

  table-sound : SoundVerdicts rules S verdict
  table-sound =
      record {
        held-sound = λ u m e. let r = row_of sound m in (right-as sound held r.1 r.3 (verdict-of r.1 r.2 ∙ e)).0;
        void-sound = λ u m e. let r = row_of sound m in right-as sound void r.1 r.3 (verdict-of r.1 r.2 ∙ e);
      }

  module _ (stuck : (r : Row) → r ∈ T → r.verdict ≡ waiting → Undecided T r.update) where
    undecided : {u : Update} → u ∈ S → verdict u ≡ waiting → Undecided T u
    undecided m e = let r = row_of sound m in subst (Undecided T) r.3 (stuck r.0 r.1 (verdict-of r.1 r.2 ∙ e))

    table-stable : Stable rules S verdict
    table-stable =
        record {
          no-void = λ u v m k w p e.
              let r = row_of sound k in
              true-false (∈→any (void_in T) p (void-in r.1 r.2 (verdict-of r.1 r.2 ∙ e))) (undecided m w).0;
          not-ready = λ u m w known h.
              let all_held : (i : Id) → i ∈ u.preds → held_in T i ≡ true = λ i p.
              let v = known.found i p in
              let r = row_of sound v.1 in
              held_in_lem r.1 (r.2 ∙ v.2) (verdict-of r.1 r.2 ∙ h v.0 v.1 (∈-cast v.2 p)) in
              true-false (∈→all (held_in T) u.preds all_held) (undecided m w).1;
        }

    -- a sound table whose waiting rows are all undecided by it decides, whatever way it was found
    pub undecided-decides : Decides rules S T
    undecided-decides =
        record {
          of_set = λ r m. (sound.rows r m).of_set;
          has-id = λ r m. (sound.rows r m).has-id;
          row_for = sound.row_for;
          once = sound.once;
          held_right = λ r m e. (right-as sound held m refl e).0;
          void_right = λ r m e. right-as sound void m refl e;
          waiting_right = λ r m e.
              let s = sound.rows r m in
              settled-waiting rules S verdict table-sound table-stable r.update s.of_set (sym (verdict-of m s.has-id) ∙ e);
          above_right = λ r m e. (right-as sound held m refl e).1.only;
          above_all = λ r m e. (right-as sound held m refl e).1.each;
          above_once = λ r m e. (right-as sound held m refl e).1.once;
        }

  -- and so does one that a further round leaves as it is
  pub stable-decides : round T ≡ T → Decides rules S T
  unfolding round is_waiting ruled
  stable-decides fixed = undecided-decides (λ r m w. step (judge-outcome T r) (kept m) w)
    where
      kept : {r : Row} → r ∈ T → judge T r ≡ r
      kept {r} m = distinct-eq sound.once (subst (λ (X : Table). judge T r ∈ X) fixed (∈-map (judge T) m)) m (judge-id T r)

      step : {r : Row} → RowOutcome T r (judge T r) → judge T r ≡ r → r.verdict ≡ waiting → Undecided T r.update
      step (stays e h) k w = h w
      step (is_ruled e v up s q) k w = absurd (true-false (ap is_waiting w) (ap (λ (q : Row). is_waiting q.verdict) (sym k ∙ q) ∙ s))

-- the rounds reach such a table: the number of waiting rows
waitings : Table → ℕ
waitings T = count_members (λ (r : Row). is_waiting r.verdict) T

round-lowers : (T : Table) → (round T ≡ T) ⊎ (waitings (round T) < waitings T)
unfolding round waitings is_waiting ruled
round-lowers T = map-lowers (λ (r : Row). is_waiting r.verdict) (judge T) (λ r. step (judge-outcome T r)) T
  where
    step : {r : Row} → RowOutcome T r (judge T r) → (judge T r ≡ r) ⊎ ((is_waiting r.verdict ≡ true) × (is_waiting (judge T r).verdict ≡ false))
    step (stays e w) = inl e
    step (is_ruled w v up s e) = inr (ap is_waiting w, ap (λ (q : Row). is_waiting q.verdict) e ∙ s)

-- a further round changes nothing, or each so far has lowered the number of waiting rows
rounds-lower : (T : Table) (n : ℕ) → (round (rounds n T) ≡ rounds n T) ⊎ (waitings (round (rounds n T)) + suc n ≤ waitings T)
unfolding rounds
rounds-lower T zero = ⊎_elim (λ (e : round T ≡ T). inl e) (λ (h : waitings (round T) < waitings T). inr (omega arith)) (round-lowers T)
rounds-lower T (suc n) = step (rounds-lower T n)
  where
    step : (round (rounds n T) ≡ rounds n T) ⊎ (waitings (round (rounds n T)) + suc n ≤ waitings T)
        → (round (round (rounds n T)) ≡ round (rounds n T)) ⊎ (waitings (round (round (rounds n T))) + suc (suc n) ≤ waitings T)
    step (inl e) = inl (ap round e)
    step (inr h) =
        ⊎_elim (λ (e : round (round (rounds n T)) ≡ round (rounds n T)). inl e)
        (λ (k : waitings (round (round (rounds n T))) < waitings (round (rounds n T))). inr (omega arith)) (round-lowers (round (rounds n T)))

-- so after as many rounds as rows a further one changes nothing
rounds-fixed : (T : Table) (n : ℕ) → length T ≤ n → round (rounds n T) ≡ rounds n T
unfolding waitings
rounds-fixed T n few =
    ⊎_elim (λ (e : round (rounds n T) ≡ rounds n T). e)
    (λ (h : waitings (round (rounds n T)) + suc n ≤ waitings T). absurd (omega (arith, keep-length (λ (r : Row). is_waiting r.verdict) T)))
    (rounds-lower T n)

rounds-sound : {rules : Rules} {S : List Update} {T : Table} → SoundTable rules S T → (n : ℕ) → SoundTable rules S (rounds n T)
unfolding rounds
rounds-sound sound zero = sound
rounds-sound sound (suc n) = round-sound (rounds-sound sound n)

module _ (rules : Rules) (S : List Update) where
  start-sound : Distinct rules.ident S → SoundTable rules S (start_all rules S)
  unfolding start_all start
  start-sound distinct =
      record {
        rows = λ r m. let q = map-∈ (start rules) (sort rules.ident S) m in
            subst (SoundRow rules S) q.2 (record { of_set = sort-∈ rules.ident S q.1; has-id = refl; right = tt });
        row_for = λ u m. (start rules u, ∈-map (start rules) (∈-sort rules.ident (distinct-identifies distinct) m), refl);
        once = distinct-map (λ (r : Row). r.id) (start rules) (sort-distinct rules.ident S) (λ u v m k e. e);
      }

  start-few : length (start_all rules S) ≤ length S
  unfolding start_all
  start-few = subst (λ (n : ℕ). n ≤ length S) (sym (length-map (sort rules.ident S) (start rules))) (sort-length rules.ident S)

pub settled-decides : (rules : Rules) (S : List Update) → Distinct rules.ident S → Decides rules S (settled_table rules S)
unfolding settled_table
settled-decides rules S distinct =
    stable-decides (rounds-sound (start-sound rules S distinct) (length S)) (rounds-fixed (start_all rules S) (length S) (start-few rules S))

-- the settled table is ascending by id
rounds-ascending : {T : Table} → Ascending (λ (r : Row). r.id) T → (n : ℕ) → Ascending (λ (r : Row). r.id) (rounds n T)
unfolding rounds round
rounds-ascending a zero = a
rounds-ascending {T} a (suc n) = ascending-map (λ (r : Row). r.id) (judge (rounds n T)) (rounds-ascending a n) (judge-id (rounds n T))

pub settled-ascending : (rules : Rules) (S : List Update) → Ascending (λ (r : Row). r.id) (settled_table rules S)
unfolding settled_table start_all start
settled-ascending rules S =
    rounds-ascending (ascending-map (λ (r : Row). r.id) (start rules) (sort-ascending rules.ident S) (λ u. refl)) (length S)

-- held, waiting and void cover the set
pub covers : (rules : Rules) (S : List Update) → Distinct rules.ident S → (u : Update) → u ∈ S
    → Held rules S u ⊎ (Waiting rules S u ⊎ Void rules S u)
covers rules S distinct u m =
    let r = d.row_for u m in
    subst (λ (x : Update). Held rules S x ⊎ (Waiting rules S x ⊎ Void rules S x)) r.2 (by r.0 r.1 r.0.verdict refl)
  where
    d : Decides rules S (settled_table rules S)
    d = settled-decides rules S distinct

    by : (r : Row) → r ∈ settled_table rules S → (v : Standing) → r.verdict ≡ v
        → Held rules S r.update ⊎ (Waiting rules S r.update ⊎ Void rules S r.update)
    by r k held e = inl (d.held_right r k e)
    by r k waiting e = inr (inl (d.waiting_right r k e))
    by r k void e = inr (inr (d.void_right r k e))
