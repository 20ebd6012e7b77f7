-- What is gathered from a list of ids, with places that hold the updates `us`: whether one of them is that of a void place; whether each is that
-- of a place that does not wait; whether each is that of a held one; the held places among them; and the ancestors of these. In order: what each id adds and keeps, of any
-- ledger; how many places at most (`gather-few`); that both words are of taken places (`gather-inside`). Main laws, of places that hold updates, each in both directions:
-- `gathered-void`, `gathered-ready`, `all_held`, `gathered-direct`, `gathered-above`.
use Rattle.std.specs.Prelude.{◌≡◌, Bool, ◌&&◌, ◌||◌}
use Rattle.std.proofs.Math.Path.{refl, sym, ap, ap₂, subst}
use Rattle.std.proofs.Common.{◌∙◌, arith, true≢false, eq-eqb, eqb-true}
use Prim.Native.Nat.{ℕ, zero, suc, ◌+◌, ◌≤◌, ◌<◌}
use mathlib.Core.List.{List, [], ◌∷◌}
use Rattle.std.specs.Prelude.{Option, None, Some}
use Rattle.std.proofs.Math.Bool.{true, false, cond, not, or-false, or-true, or_assoc, not-not}
use Rattle.std.proofs.lemmas.Bool.{false≢true}
use Rattle.std.proofs.Math.ListN.{length}
use Rattle.std.proofs.Math.Dec.{eqb}
use Rattle.bytes_order.specs.Member.{◌∈◌, any}
use Rattle.bytes_order.specs.BoolLaws.{true-false, not-true→false, and-true→, and-true}
use Rattle.bytes_order.specs.MemberLaws.{∈-cast, any→∈, ∈→any, any-false→, any_false}
use Rattle.bytes_order.specs.DistinctLaws.{distinct-index}
use Rattle.update_format.specs.Update.{Id, Update}
use Rattle.rules.proofs.SettlingTable.{is_held→, is_void→}
use Rattle.rules.proofs.TableLaws.{not-true→, not-true}
use Rattle.bitset.specs.Below.{count_below}
use Rattle.bitset.specs.BelowLaws.{count_below-cong, count_below-with}
use Rattle.bitset.specs.Bits.{has, including, within}
use Rattle.bitset.specs.BitsLaws.{has-none, has-including, has_join, within_none, within-including, within-join}
use Rattle.rules.specs.declared.Standing.{Standing}
use Rattle.rules.specs.declared.Standing.TheVariants.{Held, Waiting, Void}
use Rattle.ledger_judging.specs.declared.Gathered.{Gathered}
use Rattle.ledger_state.specs.State.{Book, place_at, find_in, is_held, is_waiting, is_void}
use Rattle.ledger_judging.specs.Judge.{nothing_gathered, gather_by, gather_at, gather, all_held}
use Rattle.ledger_state.specs.Stands.{ident, no_update, update_at, Holds}
use Rattle.ledger_state.proofs.StandingLaws.{held-left}
use Rattle.ledger_state.specs.FindLaws.{find-taken, find-right, find-all}

-- each id is that of an update at a held place
abbrev pub AllHeld : Book → List Update → List Id → Type 0
AllHeld l us is = (i : Id) → i ∈ is → (j : ℕ) × (j < length us) × (ident (update_at us j) ≡ i) × ((place_at l j).standing ≡ Held)

-- an id is found at a place that passes; where it is not found, the answer is b
unfoldable passes : (ℕ → Bool) → Bool → Option ℕ → Bool
passes p b None = b
passes p b (Some j) = p j

passes→ : (p : ℕ → Bool) (o : Option ℕ) → passes p false o ≡ true → (j : ℕ) × (o ≡ Some j) × (p j ≡ true)
unfolding passes
passes→ p None e = absurd (false≢true e)
passes→ p (Some j) e = (j, refl, e)

fails→ : (p : ℕ → Bool) (o : Option ℕ) → passes p true o ≡ false → (j : ℕ) × (o ≡ Some j) × (p j ≡ false)
unfolding passes
fails→ p None e = absurd (true≢false e)
fails→ p (Some j) e = (j, refl, e)

module _ (l : Book) where
  found : (ℕ → Bool) → Bool → Id → Bool
  found p b i = passes p b (find_in l i)

  -- what a place is tested for: that it is void; that it waits; that it is held and is the place k, or has k as an ancestor
  void_at : ℕ → Bool
  void_at j = is_void (place_at l j).standing

  waiting_at : ℕ → Bool
  waiting_at j = is_waiting (place_at l j).standing

  direct_at : ℕ → ℕ → Bool
  direct_at k j = is_held (place_at l j).standing && eqb k j

  above_at : ℕ → ℕ → Bool
  above_at k j = is_held (place_at l j).standing && has (place_at l j).ancestors k

  -- what each id adds to a part of what is gathered, the list adds
  gather-any : (f : Gathered → Bool) (t : Id → Bool) → ((g : Gathered) (i : Id) → f (gather_at l g (find_in l i)) ≡ (f g || t i))
      → (g : Gathered) (is : List Id) → f (gather l g is) ≡ (f g || any t is)
  unfolding gather any
  gather-any f t h g [] = sym (or-false (f g))
  gather-any f t h g (i ∷ is) =
      gather-any f t h (gather_at l g (find_in l i)) is ∙ ap (λ (b : Bool). b || any t is) (h g i) ∙ or_assoc (f g) (t i) (any t is)

  -- what each id keeps, the list keeps
  gather-keeps : (P : Gathered → Type 0) → ((g : Gathered) (i : Id) → P g → P (gather_at l g (find_in l i)))
      → (g : Gathered) (is : List Id) → P g → P (gather l g is)
  unfolding gather
  gather-keeps P h g [] p = p
  gather-keeps P h g (i ∷ is) p = gather-keeps P h (gather_at l g (find_in l i)) is (h g i p)

  gather-void : (is : List Id) → (gather l nothing_gathered is).void ≡ any (found void_at false) is
  unfolding found passes void_at is_void
  gather-void = gather-any (λ (g : Gathered). g.void) (found void_at false) (λ g i. step g (find_in l i)) nothing_gathered
    where
      by : (g : Gathered) (j : ℕ) (v : Standing) → (gather_by l g j v).void ≡ (g.void || is_void v)
      by g j Held = sym (or-false g.void)
      by g j Waiting = sym (or-false g.void)
      by g j Void = sym (or-true g.void)

      step : (g : Gathered) (o : Option ℕ) → (gather_at l g o).void ≡ (g.void || passes void_at false o)
      step g None = sym (or-false g.void)
      step g (Some j) = by g j (place_at l j).standing

  gather-ready : (is : List Id) → not (gather l nothing_gathered is).ready ≡ any (found waiting_at true) is
  unfolding found passes waiting_at is_waiting
  gather-ready = gather-any (λ (g : Gathered). not g.ready) (found waiting_at true) (λ g i. step g (find_in l i)) nothing_gathered
    where
      by : (g : Gathered) (j : ℕ) (v : Standing) → not (gather_by l g j v).ready ≡ (not g.ready || is_waiting v)
      by g j Held = sym (or-false (not g.ready))
      by g j Waiting = sym (or-true (not g.ready))
      by g j Void = sym (or-false (not g.ready))

      step : (g : Gathered) (o : Option ℕ) → not (gather_at l g o).ready ≡ (not g.ready || passes waiting_at true o)
      step g None = sym (or-true (not g.ready))
      step g (Some j) = by g j (place_at l j).standing

  gather-above : (k : ℕ) (is : List Id) → has (gather l nothing_gathered is).above k ≡ any (found (above_at k) false) is
  unfolding found passes above_at is_held
  gather-above k is =
      gather-any (λ (g : Gathered). has g.above k) (found (above_at k) false) (λ g i. step g (find_in l i)) nothing_gathered is
      ∙ ap (λ (b : Bool). b || any (found (above_at k) false) is) (has-none k)
    where
      by : (g : Gathered) (j : ℕ) (v : Standing)
          → has (gather_by l g j v).above k ≡ (has g.above k || (is_held v && has (place_at l j).ancestors k))
      by g j Held = has_join g.above (place_at l j).ancestors k
      by g j Waiting = sym (or-false (has g.above k))
      by g j Void = sym (or-false (has g.above k))

      step : (g : Gathered) (o : Option ℕ) → has (gather_at l g o).above k ≡ (has g.above k || passes (above_at k) false o)
      step g None = sym (or-false (has g.above k))
      step g (Some j) = by g j (place_at l j).standing

  -- no more places than ids
  pub gather-few : (n : ℕ) (is : List Id) → count_below n (has (gather l nothing_gathered is).direct) ≤ length is
  unfolding count_below gather
  gather-few n is = omega (arith, go nothing_gathered is {m = 0} (omega (arith, empty n)))
    where
      empty : (n : ℕ) → count_below n (has 0) ≡ 0
      empty zero = refl
      empty (suc n) = ap₂ (λ (b : Bool) (c : ℕ). cond b (c + 1) c) (has-none n) (empty n)

      by : (g : Gathered) (j : ℕ) (v : Standing) → count_below n (has (gather_by l g j v).direct) ≤ count_below n (has g.direct) + 1
      by g j Held =
          subst (λ (c : ℕ). c ≤ count_below n (has g.direct) + 1)
          (sym (count_below-cong n (has (including g.direct j)) (λ (k : ℕ). has g.direct k || eqb k j) (λ k h. has-including g.direct j k)))
          (count_below-with n (has g.direct) j)
      by g j Waiting = omega arith
      by g j Void = omega arith

      step : (g : Gathered) (o : Option ℕ) → count_below n (has (gather_at l g o).direct) ≤ count_below n (has g.direct) + 1
      step g None = omega arith
      step g (Some j) = by g j (place_at l j).standing

      go : (g : Gathered) (is : List Id) {m : ℕ} → count_below n (has g.direct) ≤ m → count_below n (has (gather l g is).direct) ≤ m + length is
      go g [] h = omega arith
      go g (i ∷ is) {m} h = omega (arith, go (gather_at l g (find_in l i)) is {m = m + 1} (omega (arith, step g (find_in l i), h)))

-- both words are of taken places, whatever the ledger, if the words of the taken places are
module _ (l : Book) (taken : (j : ℕ) → j < l.used → within (place_at l j).ancestors l.used ≡ true) where
  abbrev Inside : Gathered → Type 0
  Inside g = (within g.direct l.used ≡ true) × (within g.above l.used ≡ true)

  pub gather-inside : (is : List Id) → Inside (gather l nothing_gathered is)
  gather-inside is =
      gather-keeps l Inside (λ g i. step g i (find_in l i) refl) nothing_gathered is (within_none l.used, within_none l.used)
    where
      by : (g : Gathered) (j : ℕ) (v : Standing) → j < l.used → Inside g → Inside (gather_by l g j v)
      by g j Held h p = (
        within-including g.direct l.used j h p.0,
        within-join g.above (place_at l j).ancestors l.used p.1 (taken j h),
      )
      by g j Waiting h p = p
      by g j Void h p = p

      step : (g : Gathered) (i : Id) (o : Option ℕ) → find_in l i ≡ o → Inside g → Inside (gather_at l g o)
      step g i None e p = p
      step g i (Some j) e p = by g j (place_at l j).standing (find-taken l i j e) p

module _ (l : Book) (s : List ℕ) (us : List Update) (holds : Holds l s us) where
  gather-direct : (k : ℕ) (is : List Id) → has (gather l nothing_gathered is).direct k ≡ any (found l (direct_at l k) false) is
  unfolding found passes direct_at is_held
  gather-direct k is =
      gather-any l (λ (g : Gathered). has g.direct k) (found l (direct_at l k) false) (λ g i. step g (find_in l i)) nothing_gathered is
      ∙ ap (λ (b : Bool). b || any (found l (direct_at l k) false) is) (has-none k)
    where
      by : (g : Gathered) (j : ℕ) (v : Standing) → has (gather_by l g j v).direct k ≡ (has g.direct k || (is_held v && eqb k j))
      by g j Held = has-including g.direct j k
      by g j Waiting = sym (or-false (has g.direct k))
      by g j Void = sym (or-false (has g.direct k))

      step : (g : Gathered) (o : Option ℕ) → has (gather_at l g o).direct k ≡ (has g.direct k || passes (direct_at l k) false o)
      step g None = sym (or-false (has g.direct k))
      step g (Some j) = by g j (place_at l j).standing

  -- some id is that of an update whose place passes
  any-found→ : (p : ℕ → Bool) (is : List Id) → any (found l p false) is ≡ true
      → (j : ℕ) × (j < length us) × (ident (update_at us j) ∈ is) × (p j ≡ true)
  unfolding found
  any-found→ p is e =
      let r = any→∈ (found l p false) is e in
      let f = passes→ p (find_in l r.0) r.2 in
      let q = find-right l s us holds r.0 f.0 f.1 in
      (f.0, q.0, ∈-cast q.1 r.1, f.2)

  any-found← : (p : ℕ → Bool) (j : ℕ) {is : List Id} → j < length us → ident (update_at us j) ∈ is → p j ≡ true → any (found l p false) is ≡ true
  unfolding found passes
  any-found← p j h m e = ∈→any (found l p false) m (ap (passes p false) (find-all l s us holds j h) ∙ e)

  module _ (is : List Id) where
    abbrev gathered : Gathered
    gathered = gather l nothing_gathered is

    pub gathered-void→ : gathered.void ≡ true → (j : ℕ) × (j < length us) × (ident (update_at us j) ∈ is) × ((place_at l j).standing ≡ Void)
    unfolding void_at
    gathered-void→ e =
        let r = any-found→ (void_at l) is (sym (gather-void l is) ∙ e) in (r.0, r.1, r.2, is_void→ (place_at l r.0).standing r.3)

    pub gathered-void← : (j : ℕ) → j < length us → ident (update_at us j) ∈ is → (place_at l j).standing ≡ Void → gathered.void ≡ true
    unfolding void_at is_void
    gathered-void← j h m e = gather-void l is ∙ any-found← (void_at l) j h m (ap is_void e)

    pub gathered-ready→ : gathered.void ≡ false → gathered.ready ≡ true → AllHeld l us is
    unfolding found waiting_at void_at
    gathered-ready→ v e i m =
        let w = any-false→ (found l (waiting_at l) true) is (sym (gather-ready l is) ∙ ap not e) i m in
        let f = fails→ (waiting_at l) (find_in l i) w in
        let q = find-right l s us holds i f.0 f.1 in
        let x = not-true→false (is_void (place_at l f.0).standing)
        (λ t. true-false (gathered-void← f.0 q.0 (∈-cast q.1 m) (is_void→ (place_at l f.0).standing t)) v) in
        (f.0, q.0, q.1, held-left (place_at l f.0).standing f.2 x)

    pub gathered-ready← : AllHeld l us is → gathered.ready ≡ true
    unfolding found passes waiting_at is_waiting
    gathered-ready← h =
        sym (not-not gathered.ready) ∙ ap not (gather-ready l is ∙ any_false (found l (waiting_at l) true) is each)
      where
        each : (i : Id) → i ∈ is → found l (waiting_at l) true i ≡ false
        each i m =
            let r = h i m in
            ap (passes (waiting_at l) true) (ap (find_in l) (sym r.2) ∙ find-all l s us holds r.0 r.1) ∙ ap is_waiting r.3

    -- exactly where each id is that of an update at a held place, all are held
    pub all-held→ : all_held gathered ≡ true → AllHeld l us is
    unfolding all_held
    all-held→ e =
        let h = and-true→ (not gathered.void) gathered.ready e in
        gathered-ready→ (not-true→ gathered.void h.0) h.1

    pub all-held← : AllHeld l us is → all_held gathered ≡ true
    unfolding all_held is_void
    all-held← h = and-true (not gathered.void) gathered.ready (not-true gathered.void none-void) (gathered-ready← h)
      where
        none-void : gathered.void ≡ true → ⊥
        none-void t =
            let v = gathered-void→ t in
            let r = h (ident (update_at us v.0)) v.2 in
            let one : r.0 ≡ v.0 = distinct-index no_update holds.distinct r.0 v.0 r.1 v.1 r.2 in
            true-false (ap is_void v.3) (ap (λ (j : ℕ). is_void (place_at l j).standing) (sym one) ∙ ap is_void r.3)

    pub gathered-direct→ : (j : ℕ) → has gathered.direct j ≡ true → (j < length us) × (ident (update_at us j) ∈ is) × ((place_at l j).standing ≡ Held)
    unfolding direct_at
    gathered-direct→ j e =
        let r = any-found→ (direct_at l j) is (sym (gather-direct j is) ∙ e) in
        let d = and-true→ (is_held (place_at l r.0).standing) (eqb j r.0) r.3 in
        let q : r.0 ≡ j = sym (eqb-true j r.0 d.1) in (
          subst (λ (k : ℕ). k < length us) q r.1,
          subst (λ (k : ℕ). ident (update_at us k) ∈ is) q r.2,
          subst (λ (k : ℕ). (place_at l k).standing ≡ Held) q (is_held→ (place_at l r.0).standing d.0),
        )

    -- they are held
    pub gathered-held : (j : ℕ) → has gathered.direct j ≡ true → (j < length us) × ((place_at l j).standing ≡ Held)
    gathered-held j e = let d = gathered-direct→ j e in (d.0, d.2)

    pub gathered-direct← : (j : ℕ) → j < length us → ident (update_at us j) ∈ is → (place_at l j).standing ≡ Held → has gathered.direct j ≡ true
    unfolding direct_at is_held
    gathered-direct← j h m e =
        gather-direct j is
        ∙ any-found← (direct_at l j) j h m (and-true (is_held (place_at l j).standing) (eqb j j) (ap is_held e) (eq-eqb j j refl))

    pub gathered-above→ : (k : ℕ) → has gathered.above k ≡ true
        → (j : ℕ) × (j < length us) × (ident (update_at us j) ∈ is) × ((place_at l j).standing ≡ Held) × (has (place_at l j).ancestors k ≡ true)
    unfolding above_at
    gathered-above→ k e =
        let r = any-found→ (above_at l k) is (sym (gather-above l k is) ∙ e) in
        let q = and-true→ (is_held (place_at l r.0).standing) (has (place_at l r.0).ancestors k) r.3 in
        (r.0, r.1, r.2, is_held→ (place_at l r.0).standing q.0, q.1)

    pub gathered-above← : (k j : ℕ) → j < length us → ident (update_at us j) ∈ is → (place_at l j).standing ≡ Held
        → has (place_at l j).ancestors k ≡ true → has gathered.above k ≡ true
    unfolding above_at is_held
    gathered-above← k j h m e q =
        gather-above l k is
        ∙ any-found← (above_at l k) j h m (and-true (is_held (place_at l j).standing) (has (place_at l j).ancestors k) (ap is_held e) q)
