-- The author's highest held place, one place after the other.
use Prim.Native.Nat.{ℕ, zero, suc, ◌+◌, ◌≤◌, ◌<◌}
use mathlib.Core.Path.{◌≡◌, refl, sym, ap, ap₂, ◌∙◌}
use mathlib.Core.List.{List}
use Rattle.std.specs.Prelude.{Option, None, Some}
use Rattle.std.specs.declared.cmp.Ordering.{Ordering}
use Rattle.std.specs.declared.cmp.Ordering.TheVariants.{Less, Equal, Greater}
use Rattle.std.specs.Ordering.{nat_cmp, is_lt, ordering_then}
use Rattle.std.specs.Cmp.Lexicographic.{slice_cmp}
use mathlib.Core.Bool.{Bool, true, false, cond, ◌&&◌, ◌||◌}
use native.Mathlib.Numerals.{add-one}
use native.Mathlib.Omega.{arith}
use lib.Dec.{ltb, eqb}
use Rattle.bytes_order.specs.Order.{before, same}
use Rattle.bytes_order.specs.Compare.{order_of}
use Rattle.bytes_order.specs.CompareLaws.{cmp_is_order}
use Rattle.update_fields.specs.Fields.{author_in}
use Rattle.bitset.specs.Bits.{count}
use Rattle.rules.specs.declared.Standing.TheVariants.{Held}
use Rattle.ledger_state.specs.State.{places, Book, place_at, decoded_at}
use Rattle.ledger_state.specs.Asked.{TwoPlaces}
use Rattle.ledger_state.specs.Number.{has_standing}
use Rattle.ledger_state.proofs.NumberLaws.{is-held}
use Rattle.ledger_relations.specs.PlaceTests.{id_at, held_at, author_at, rank_at}
use Rattle.write_highest.specs.Top.{own_at, higher, better_than, top_below, TopSoFar}

-- an own held place of the author, by its standing and the author of its update
pub own-is : (l : Book) (s : List ℕ) (a k : ℕ) {h : Bool} {n : ℕ} → h ≡ has_standing Held (place_at l k).standing → n ≡ author_in (decoded_at l s k)
    → (h && eqb n a) ≡ own_at l s a k
unfolding own_at held_at author_at
own-is l s a k e f = ap₂ (λ (x : Bool) (m : ℕ). x && eqb m a) (e ∙ is-held (place_at l k).standing) f

pub own-not : (l : Book) (s : List ℕ) (a k : ℕ) {h : Bool} → h ≡ has_standing Held (place_at l k).standing → h ≡ false → h ≡ own_at l s a k
own-not l s a k e f = f ∙ ap (λ (x : Bool). x && eqb (author_in (decoded_at l s k)) a) (sym f) ∙ own-is l s a k e refl

-- Less comes of an order and then of another where it comes of the first, or where the first is Equal and it comes of the second
less-then : (l e : Bool) (o : Ordering) → is_lt (ordering_then (cond l Less (cond e Equal Greater)) o) ≡ (l || (e && is_lt o))
less-then true e o = refl
less-then false true o = refl
less-then false false o = refl

less-before : (a b : List ℕ) → is_lt (slice_cmp nat_cmp a b) ≡ before a b
unfolding order_of
less-before a b = ap is_lt (cmp_is_order a b) ∙ go (before a b) (same a b)
  where
    go : (p q : Bool) → is_lt (cond p Less (cond q Equal Greater)) ≡ p
    go true q = refl
    go false true = refl
    go false false = refl

-- rank, then id
pub higher-is : (l : Book) (s : List ℕ) (k j : ℕ)
    → is_lt (ordering_then (nat_cmp (count (place_at l j).ancestors) (count (place_at l k).ancestors)) (slice_cmp nat_cmp (place_at l j).id (place_at l k).id))
    ≡ higher l s k j
unfolding higher rank_at
higher-is l s k j =
    less-then (ltb (rank_at l s j) (rank_at l s k)) (eqb (rank_at l s j) (rank_at l s k)) (slice_cmp nat_cmp (id_at l s j) (id_at l s k))
    ∙ ap (λ (b : Bool). ltb (rank_at l s j) (rank_at l s k) || (eqb (rank_at l s j) (rank_at l s k) && b)) (less-before (id_at l s j) (id_at l s k))

-- the author's highest
module _ (l : Book) (s : List ℕ) (a : ℕ) where
  abbrev top_at : ℕ → Option ℕ
  top_at k = top_below l s a k

  pub top-inside : (n j : ℕ) → top_below l s a n ≡ Some j → j < n
  unfolding top_below
  top-inside zero j e = cc
  top-inside (suc n) j e = go (own_at l s a n && better_than l s (top_at n) n) e (top-inside n j)
    where
      go : (b : Bool) → cond b (Some n) (top_at n) ≡ Some j → (top_at n ≡ Some j → j < n) → j < suc n
      go true q f = let z : n ≡ j = cc in omega arith
      go false q f = omega (arith, f q)

  pub two_places : (k j : ℕ) {t : Option ℕ} → l.used ≤ places → TopSoFar l s a k t → t ≡ Some j → TwoPlaces k j
  two_places k j h t e = record { first_within = omega (arith, t.place-taken); second_within = omega (arith, top-inside k j (sym t.top_right ∙ e), t.place-taken) }

  pub better-some : (k j : ℕ) {t : Option ℕ} {b : Bool} → t ≡ Some j → b ≡ higher l s k j → b ≡ better_than l s t k
  unfolding better_than
  better-some k j e f = f ∙ ap (λ (o : Option ℕ). better_than l s o k) (sym e)

  pub better-none : (k : ℕ) {t : Option ℕ} → t ≡ None → true ≡ better_than l s t k
  unfolding better_than
  better-none k e = ap (λ (o : Option ℕ). better_than l s o k) (sym e)

  pub top_start : None ≡ (top_below l s a 0)
  unfolding top_below
  top_start = refl

  top_by : (k : ℕ) {b c : Bool} → own_at l s a k ≡ b → better_than l s (top_at k) k ≡ c → top_at (k + 1) ≡ cond (b && c) (Some k) (top_at k)
  unfolding top_below
  top_by k e f = ap top_at (add-one k) ∙ ap₂ (λ (x y : Bool). cond (x && y) (Some k) (top_at k)) e f

  pub top-other : (k : ℕ) {t : Option ℕ} → t ≡ top_below l s a k → own_at l s a k ≡ false → t ≡ top_below l s a (k + 1)
  top-other k e f = e ∙ sym (top_by k f refl)

  pub top-lower : (k : ℕ) {t : Option ℕ} → t ≡ top_below l s a k → own_at l s a k ≡ true → better_than l s t k ≡ false → t ≡ top_below l s a (k + 1)
  top-lower k e f g = e ∙ sym (top_by k f (ap (λ (o : Option ℕ). better_than l s o k) (sym e) ∙ g))

  pub top_taken : (k : ℕ) {t : Option ℕ} → t ≡ top_below l s a k → own_at l s a k ≡ true → better_than l s t k ≡ true → Some k ≡ top_below l s a (k + 1)
  top_taken k e f g = sym (top_by k f (ap (λ (o : Option ℕ). better_than l s o k) (sym e) ∙ g))
