-- The laws of the causal order: of two held updates it is one of the four and never two; the pair turned round; an answer computed from tests that are right is right;
-- and document 01's heads, forks and antichain rule are those by the order.
use Rattle.std.specs.Prelude.{◌≡◌, ◌⊎◌, List, Bool, ℕ}
use Rattle.std.proofs.Math.Path.{refl, sym}
use Rattle.std.proofs.Common.{◌∙◌, ap, subst, inl, inr}
use Rattle.std.proofs.Math.Bool.{true, false, false≢true}
use Rattle.bytes_order.specs.Order.{same}
use Rattle.bytes_order.specs.BoolLaws.{test-ext}
use Rattle.bytes_order.specs.OrderLaws.{same→eq, eq→same}
use Rattle.bytes_order.specs.Distinct.{Distinct}
use Rattle.bytes_order.specs.DistinctLaws.{distinct-eq}
use Rattle.update_format.specs.Update.{Id, Update}
use Rattle.rules.specs.declared.CausalOrder.{CausalOrder}
use Rattle.rules.specs.declared.CausalOrder.TheVariants.{Same, Before, After, Apart}
use Rattle.rules.specs.Standing.{Rules, Ancestor, Antichain, Held, PredsHeld}
use Rattle.rules.specs.ReadOff.{Head, Forked}
use Rattle.rules.specs.CausalOrder.{Concurrent, Causal, OrderExactly, HeadByOrder, ForkedByOrder, AntichainByOrder, turned, order_by, is_before, is_apart, before_or_after, same_or_before}
use Rattle.rules.specs.Settle.{Table, above_in, order_in}
use Rattle.rules.proofs.LeastSets.{ancestor-trans, held-stored, held-acyclic}

-- the tests of an answer

pub is_before→ : (o : CausalOrder) → is_before o ≡ true → o ≡ Before
unfolding is_before
is_before→ Same e = absurd (false≢true e)
is_before→ Before e = refl
is_before→ After e = absurd (false≢true e)
is_before→ Apart e = absurd (false≢true e)

pub is_apart→ : (o : CausalOrder) → is_apart o ≡ true → o ≡ Apart
unfolding is_apart
is_apart→ Same e = absurd (false≢true e)
is_apart→ Before e = absurd (false≢true e)
is_apart→ After e = absurd (false≢true e)
is_apart→ Apart e = refl

pub before_or_after→ : (o : CausalOrder) → before_or_after o ≡ true → (o ≡ Before) ⊎ (o ≡ After)
unfolding before_or_after
before_or_after→ Same e = absurd (false≢true e)
before_or_after→ Before e = inl refl
before_or_after→ After e = inr refl
before_or_after→ Apart e = absurd (false≢true e)

pub same_or_before→ : (o : CausalOrder) → same_or_before o ≡ true → (o ≡ Same) ⊎ (o ≡ Before)
unfolding same_or_before
same_or_before→ Same e = inl refl
same_or_before→ Before e = inr refl
same_or_before→ After e = absurd (false≢true e)
same_or_before→ Apart e = absurd (false≢true e)

-- the pair turned round

pub order_by-turned : (one first second : Bool) → order_by one second first ≡ turned (order_by one first second)
unfolding order_by turned
order_by-turned true first second = refl
order_by-turned false true false = refl
order_by-turned false false true = refl
order_by-turned false false false = refl
order_by-turned false true true = refl

-- of every table, for every two ids
pub order-turned : (T : Table) (i j : Id) → order_in T j i ≡ turned (order_in T i j)
unfolding order_in
order-turned T i j =
    ap (λ (b : Bool). order_by b (above_in T j i) (above_in T i j)) turned_same
    ∙ order_by-turned (same i j) (above_in T i j) (above_in T j i)
  where
    turned_same : same j i ≡ same i j
    turned_same = test-ext (same j i) (same i j) (λ e. eq→same i j (sym (same→eq j i e))) (λ e. eq→same j i (sym (same→eq i j e)))

module _ (rules : Rules) (S : List Update) where
  pub causal-turned : (o : CausalOrder) (u v : Update) → Causal rules S o u v → Causal rules S (turned o) v u
  unfolding turned
  causal-turned Same u v e = sym e
  causal-turned Before u v a = a
  causal-turned After u v a = a
  causal-turned Apart u v c = record { not_same = λ e. c.not_same (sym e); not-before = c.not_after; not_after = c.not-before }

  -- for a held update the four exclude each other

  same-not-before : {u v : Update} → Held rules S u → u ≡ v → Ancestor rules S u v → ⊥
  same-not-before {u} h e a = held-acyclic rules S h (subst (Ancestor rules S u) (sym e) a)

  same-not-after : {u v : Update} → Held rules S u → u ≡ v → Ancestor rules S v u → ⊥
  same-not-after {u} h e a = held-acyclic rules S h (subst (λ (x : Update). Ancestor rules S x u) (sym e) a)

  before-not-after : {u v : Update} → Held rules S u → Ancestor rules S u v → Ancestor rules S v u → ⊥
  before-not-after h a b = held-acyclic rules S h (ancestor-trans rules S a b)

  causal-unique : (o p : CausalOrder) (u v : Update) → Held rules S u → Causal rules S o u v → Causal rules S p u v → o ≡ p
  causal-unique Same Same u v h x y = refl
  causal-unique Same Before u v h x y = absurd (same-not-before h x y)
  causal-unique Same After u v h x y = absurd (same-not-after h x y)
  causal-unique Same Apart u v h x y = absurd (y.not_same x)
  causal-unique Before Same u v h x y = absurd (same-not-before h y x)
  causal-unique Before Before u v h x y = refl
  causal-unique Before After u v h x y = absurd (before-not-after h x y)
  causal-unique Before Apart u v h x y = absurd (y.not-before x)
  causal-unique After Same u v h x y = absurd (same-not-after h y x)
  causal-unique After Before u v h x y = absurd (before-not-after h y x)
  causal-unique After After u v h x y = refl
  causal-unique After Apart u v h x y = absurd (y.not_after x)
  causal-unique Apart Same u v h x y = absurd (x.not_same y)
  causal-unique Apart Before u v h x y = absurd (x.not-before y)
  causal-unique Apart After u v h x y = absurd (x.not_after y)
  causal-unique Apart Apart u v h x y = refl

  -- the three tests say what is so of u and v
  pub record Tells (one first second : Bool) (u v : Update) : Type 0 where
    pub one→ : one ≡ true → u ≡ v
    pub →one : u ≡ v → one ≡ true
    pub first→ : first ≡ true → Ancestor rules S u v
    pub →first : Ancestor rules S u v → first ≡ true
    pub second→ : second ≡ true → Ancestor rules S v u
    pub →second : Ancestor rules S v u → second ≡ true

  tells-right : (one first second : Bool) {u v : Update} → Held rules S u → Tells one first second u v → Causal rules S (order_by one first second) u v
  unfolding order_by
  tells-right true first second h t = t.one→ refl
  tells-right false true false h t = t.first→ refl
  tells-right false false true h t = t.second→ refl
  tells-right false false false {u} {v} h t =
      let none : Concurrent rules S u v =
      record {
        not_same = λ e. false≢true (t.→one e);
        not-before = λ a. false≢true (t.→first a);
        not_after = λ a. false≢true (t.→second a);
      } in none
  tells-right false true true h t = absurd (before-not-after h (t.first→ refl) (t.second→ refl))

  -- then the answer is exactly that of u and v
  pub tells-exactly : (one first second : Bool) {u v : Update} → Held rules S u → Tells one first second u v → OrderExactly rules S u v (order_by one first second)
  tells-exactly one first second {u} {v} h t =
      let answer = order_by one first second in
      let so : Causal rules S answer u v = tells-right one first second h t in
      record {
        right = λ o e. subst (λ (p : CausalOrder). Causal rules S p u v) e so;
        all = λ o c. causal-unique answer o u v h so c;
        one = λ o p c d. causal-unique o p u v h c d;
      }

  -- heads
  pub head→order : {u : Update} → Head rules S u → HeadByOrder rules S u
  head→order h = record { is-held = h.is-held; none_after = h.on-top }

  pub order→head : {u : Update} → HeadByOrder rules S u → Head rules S u
  order→head h = record { is-held = h.is-held; on-top = h.none_after }

  -- forks
  pub forked→order : {a : ℕ} → Forked rules S a → ForkedByOrder rules S a
  forked→order m =
      record {
        one = m.one;
        other = m.other;
        one-held = m.one-held;
        other-held = m.other-held;
        one-by = m.one-by;
        other-by = m.other-by;
        are-apart = record { not_same = λ e. m.two (ap rules.ident e); not-before = m.one_apart; not_after = m.other-apart };
      }

  pub order→forked : Distinct rules.ident S → {a : ℕ} → ForkedByOrder rules S a → Forked rules S a
  order→forked distinct m =
      record {
        one = m.one;
        other = m.other;
        one-held = m.one-held;
        other-held = m.other-held;
        one-by = m.one-by;
        other-by = m.other-by;
        two = λ e. m.are-apart.not_same (distinct-eq distinct (held-stored rules S m.one-held) (held-stored rules S m.other-held) e);
        one_apart = m.are-apart.not-before;
        other-apart = m.are-apart.not_after;
      }

  -- the antichain rule, where all predecessors are held: only there is it looked at
  pub antichain→order : {u : Update} → Antichain rules S u → AntichainByOrder rules S u
  antichain→order n =
      record {
        none_before = λ x y mx my px py two a. n x y mx my px py a;
        none_after = λ x y mx my px py two a. n y x my mx py px a;
      }

  pub order→antichain : {u : Update} → PredsHeld rules S u → AntichainByOrder rules S u → Antichain rules S u
  order→antichain held n x y mx my px py a =
      n.none_before x y mx my px py (λ e. same-not-before (held x mx px) e a) a
