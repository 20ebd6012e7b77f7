-- The choice of predecessors from a settled table: at most as many heads as an update may name, ascending, one of which is at or above each held update of an author
-- without a fork; above that number the author's own head and the lowest others. In order: fronts of lists; the candidates and what is chosen of them, of any lists; the same of
-- the heads of a table (`chosen-all` to `chosen-lowest`); the author's own rows (`OwnRows`). Main laws, of a table that decides its set: `some-head`, `own-rows`, `chosen-own`,
-- `named`. What they come to by the rules' definitions is in `ChosenLaws`.
use Rattle.std.specs.Prelude.{◌≡◌, ◌⊎◌, Bool, cond, ◌&&◌, take, eqb}
use Rattle.std.proofs.Math.Path.{refl, sym, ap, subst}
use Rattle.std.proofs.Common.{◌∙◌, le_trans, not-le_of_lt, length-take}
use Rattle.std.proofs.Math.Logic.{inl, inr, ⊎_elim}
use Prim.Native.Nat.{ℕ, zero, suc, ◌+◌, ◌≤◌, ◌<◌}
use Rattle.std.proofs.Math.Nat.{min-le_left, min-eq_left}
use native.Mathlib.Omega.{arith}
use mathlib.Core.List.Memᴰ
use mathlib.Core.List.{List, [], ◌∷◌, ◌++◌, map, tail-eq_of_cons-eq}
use Rattle.std.proofs.Math.Bool.{true, false, not}
use Rattle.std.proofs.Math.ListN.{length}
use Rattle.std.proofs.Math.Dec.{leb}
use borrow.Author.Tests.{leb-true, leb-false, eqb-true, eq-eqb}
use Rattle.bytes_order.specs.Order.{before}
use Rattle.bytes_order.specs.Member.{◌∈◌, member, keep}
use Rattle.bytes_order.specs.BoolLaws.{true-false}
use Rattle.bytes_order.specs.OrderLaws.{before→ne, before-first}
use Rattle.bytes_order.specs.MemberLaws.{∈-cases, ∈-singleton, ∈-cast, ∈-append-left, ∈-append-right, append-∈, ∈-map, map-∈, ∈→member, member→∈, ∈-keep, keep-∈, reverse-∈, take-∈, front-∈, some_taken}
use Rattle.bytes_order.specs.Distinct.{Distinct, distinct_nil, distinct_cons, Identifies}
use Rattle.bytes_order.specs.DistinctLaws.{distinct-identifies, distinct-keep, distinct_append, distinct-subset-length, distinct-same-length}
use Rattle.bytes_order.specs.Ascending.{Ascending, ascending-nil, ascending-cons}
use Rattle.bytes_order.specs.Sort.{sort}
use Rattle.bytes_order.specs.SortLaws.{ascending-head, ascending-distinct, ascending-identifies, ascending-keep, sort-∈, ∈-sort, sort-ascending, sort-same, sort-distinct, sort-length, sort-key, greatest-first}
use Rattle.update_format.specs.Update.{Id, Update}
use Rattle.rules.specs.declared.CausalOrder.TheVariants.{Same, Before}
use Rattle.rules.specs.Standing.{Rules, Ancestor}
use Rattle.rules.specs.ReadOff.{Forked}
use Rattle.rules.specs.CausalOrder.{is_before, same_or_before}
use Rattle.rules.specs.Settle.{Row, Table, order_in, held_row, covered, heads, rank, rank_key}
use Rattle.rules.proofs.Decides.{Decides}
use Rattle.rules.proofs.CausalLaws.{is_before→, same_or_before→}
use Rattle.rules.proofs.TableLaws.{not-true→, HeldRow, any-held→, keep-held→, →keep-held, row-eq, row-held, row-id, ancestor→above, above→ancestor, row-order, above-trans, rank-bound, rank_less}
use Rattle.rules.specs.Writing.{held_by, ranked, at_or_above, first_heads, others, chosen_from, chosen}

abbrev pub row_id : Row → Id
row_id r = r.id

-- the front of a list

module _ {A : Type 0} {key : A → List ℕ} where
  distinct-take : (n : ℕ) {xs : List A} → Distinct key xs → Distinct key (take n xs)
  distinct-take zero d = distinct_nil
  distinct-take (suc n) distinct_nil = distinct_nil
  distinct-take (suc n) (distinct_cons {xs = xs} h d) = distinct_cons (λ y m. h y (take-∈ n xs m)) (distinct-take n d)

  -- xs, then an ascending list: what is taken of this comes before what is not
  front-lowest : (n : ℕ) (xs : List A) {ys : List A} → Ascending key ys → {x y : A} → x ∈ take n (xs ++ ys) → (x ∈ xs → ⊥) → y ∈ ys
      → (y ∈ take n (xs ++ ys) → ⊥) → before (key x) (key y) ≡ true
  front-lowest zero xs a i n j out = absurd (Memᴰ.not-nil i)
  front-lowest (suc k) [] ascending-nil i n j out = absurd (Memᴰ.not-nil i)
  front-lowest (suc k) [] (ascending-cons {x = z} {xs = zs} b a) {x} {y} i n j out =
      step (∈-cases i) (∈-cases j) (λ (p : x ∈ take k zs) (q : y ∈ zs). front-lowest k [] a p n q (λ t. out (Memᴰ.tail t)))
    where
      step : (x ≡ z) ⊎ (x ∈ take k zs) → (y ≡ z) ⊎ (y ∈ zs) → (x ∈ take k zs → y ∈ zs → before (key x) (key y) ≡ true) → before (key x) (key y) ≡ true
      step p (inl q) later = absurd (out (Memᴰ.head q))
      step (inl p) (inr q) later = subst (λ (w : A). before (key w) (key y) ≡ true) (sym p) (b y q)
      step (inr p) (inr q) later = later p q
  front-lowest (suc k) (z ∷ xs) {ys} a {x} i n j out =
      ⊎_elim (λ (p : x ≡ z). absurd (n (Memᴰ.head p)))
      (λ (p : x ∈ take k (xs ++ ys)). front-lowest k xs a p (λ q. n (Memᴰ.tail q)) j (λ t. out (Memᴰ.tail t))) (∈-cases i)

-- a list with a member has a first one
first_of : {A : Type 0} {x : A} {xs : List A} → x ∈ xs → (y : A) × (ys : List A) × (xs ≡ y ∷ ys)
first_of (Memᴰ.head {x = y} {xs = ys} e) = (y, ys, refl)
first_of (Memᴰ.tail {x = y} {xs = ys} m) = (y, ys, refl)

-- the first heads

module _ (T : Table) where
  first-heads-∈ : (hs ts : Table) {r : Row} → r ∈ first_heads T hs ts → r ∈ hs
  unfolding first_heads
  first-heads-∈ hs [] m = absurd (Memᴰ.not-nil m)
  first-heads-∈ hs (t ∷ ts) m = (keep-∈ (at_or_above T t) hs (take-∈ 1 (keep (at_or_above T t) hs) m)).0

  first-heads-few : (hs ts : Table) → length (first_heads T hs ts) ≤ 1
  unfolding first_heads
  first-heads-few hs [] = omega arith
  first-heads-few hs (t ∷ ts) =
      let n = length (keep (at_or_above T t) hs) in
      subst (λ (k : ℕ). k ≤ 1) (sym (length-take 1 (keep (at_or_above T t) hs))) (min-le_left 1 n)

  first-heads-distinct : (hs ts : Table) → Distinct row_id hs → Distinct row_id (first_heads T hs ts)
  unfolding first_heads
  first-heads-distinct hs [] d = distinct_nil
  first-heads-distinct hs (t ∷ ts) d = distinct-take 1 (distinct-keep (at_or_above T t) d)

-- the front of a list that has a member has one, if it is not empty
some-front : {A : Type 0} (n : ℕ) → 0 < n → {xs : List A} {x : A} → x ∈ xs → (y : A) × (y ∈ take n xs)
some-front zero h m = absurd (omega arith)
some-front (suc n) h m = some_taken n m

-- what is chosen of the heads hs, `most` at most
module _ (most : ℕ) (hs first : Table) (among : (r : Row) → r ∈ first → r ∈ hs) where
  abbrev candidates : Table
  candidates = first ++ others hs first

  abbrev taken : Table
  taken = take most candidates

  candidates-∈ : (r : Row) → r ∈ candidates → r ∈ hs
  unfolding others
  candidates-∈ r m =
      ⊎_elim (λ (k : r ∈ first). among r k)
      (λ (k : r ∈ others hs first). (keep-∈ (λ (h : Row). not (member h.id (map row_id first))) hs k).0) (append-∈ first m)

  -- each head is a candidate, or a first one has its id
  some-candidate : {h : Row} → h ∈ hs → (r : Row) × (r ∈ candidates) × (r.id ≡ h.id)
  unfolding others
  some-candidate {h} m = step (member h.id (map row_id first)) refl
    where
      step : (b : Bool) → member h.id (map row_id first) ≡ b → (r : Row) × (r ∈ candidates) × (r.id ≡ h.id)
      step true e =
          let f = map-∈ row_id first (member→∈ h.id (map row_id first) e) in
          (f.0, ∈-append-left (others hs first) f.1, f.2)
      step false e = (h, ∈-append-right first (∈-keep (λ (q : Row). not (member q.id (map row_id first))) m (ap not e)), refl)

  ∈-candidates : Identifies row_id hs → {h : Row} → h ∈ hs → h ∈ candidates
  ∈-candidates one {h} m =
      let f = some-candidate m in subst (λ (r : Row). r ∈ candidates) (one f.0 h (candidates-∈ f.0 f.1) m f.2) f.1

  candidates-distinct : Distinct row_id hs → Distinct row_id first → Distinct row_id candidates
  unfolding others
  candidates-distinct d c =
      distinct_append c (distinct-keep (λ (h : Row). not (member h.id (map row_id first))) d)
      (λ x y i j e.
      let m : y.id ∈ map row_id first = ∈-cast (sym e) (∈-map row_id i) in
      true-false (∈→member m)
      (not-true→ (member y.id (map row_id first)) (keep-∈ (λ (h : Row). not (member h.id (map row_id first))) hs j).1))

  taken-identified : Identifies row_id hs → Identifies row_id taken
  taken-identified one x y i j = one x y (candidates-∈ x (take-∈ most candidates i)) (candidates-∈ y (take-∈ most candidates j))

  -- the heads themselves where they are at most as many, else as many of the candidates
  chosen-cases : (P : Table → Type 0) → (length hs ≤ most → P hs) → (most < length hs → P (sort row_id taken)) → P (chosen_from most hs first)
  unfolding chosen_from
  chosen-cases P all many = step (leb (length hs) most) refl
    where
      step : (b : Bool) → leb (length hs) most ≡ b → P (cond b hs (sort row_id taken))
      step true e = all (leb-true (length hs) most e)
      step false e = many (leb-false (length hs) most e)

  from_all : length hs ≤ most → chosen_from most hs first ≡ hs
  from_all few = chosen-cases (λ (rs : Table). rs ≡ hs) (λ h. refl) (λ l. absurd (not-le_of_lt l few))

  from-few : length (chosen_from most hs first) ≤ most
  from-few =
      chosen-cases (λ (rs : Table). length rs ≤ most) (λ h. h)
      (λ l. le_trans (sort-length row_id taken)
      (subst (λ (n : ℕ). n ≤ most) (sym (length-take most candidates)) (min-le_left most (length candidates))))

  from-ascending : Ascending row_id hs → Ascending row_id (chosen_from most hs first)
  from-ascending a = chosen-cases (Ascending row_id) (λ h. a) (λ l. sort-ascending row_id taken)

  from-∈ : {r : Row} → r ∈ chosen_from most hs first → r ∈ hs
  from-∈ {r} =
      chosen-cases (λ (rs : Table). r ∈ rs → r ∈ hs) (λ h m. m)
      (λ l m. candidates-∈ r (take-∈ most candidates (sort-∈ row_id taken m)))

  from_first : Identifies row_id hs → length first ≤ most → {r : Row} → r ∈ first → r ∈ chosen_from most hs first
  from_first one few {r} m =
      chosen-cases (λ (rs : Table). r ∈ rs) (λ h. among r m)
      (λ l. ∈-sort row_id (taken-identified one) (front-∈ most first (others hs first) few m))

  from-number : Distinct row_id hs → Distinct row_id first → most < length hs → length (chosen_from most hs first) ≡ most
  from-number d c many =
      chosen-cases (λ (rs : Table). length rs ≡ most) (λ few. absurd (not-le_of_lt many few))
      (λ l.
      let enough : length hs ≤ length candidates = distinct-subset-length d candidates (λ h m. ∈-candidates (distinct-identifies d) m) in
      distinct-same-length (sort-distinct row_id taken) (distinct-take most (candidates-distinct d c))
      (sort-same row_id taken (taken-identified (distinct-identifies d)))
      ∙ length-take most candidates ∙ min-eq_left (omega arith))

  -- a head that is left out has a larger id than each that is chosen, but for the first
  from_lowest : Ascending row_id hs → length first ≤ most → {h g : Row} → h ∈ chosen_from most hs first → (h ∈ first → ⊥) → g ∈ hs
      → (g ∈ chosen_from most hs first → ⊥) → before h.id g.id ≡ true
  unfolding others
  from_lowest a few {h} {g} i n j =
      chosen-cases (λ (rs : Table). h ∈ rs → (g ∈ rs → ⊥) → before h.id g.id ≡ true) (λ l p out. absurd (out j))
      (λ l p out.
      let one : Identifies row_id hs = ascending-identifies a in
      let untaken : g ∈ taken → ⊥ = λ t. out (∈-sort row_id (taken-identified one) t) in
      front-lowest most first (ascending-keep (λ (q : Row). not (member q.id (map row_id first))) a) (sort-∈ row_id taken p) n
      (⊎_elim (λ (k : g ∈ first). absurd (untaken (front-∈ most first (others hs first) few k))) (λ (k : g ∈ others hs first). k)
      (append-∈ first (∈-candidates one j))) untaken) i

  from_some : 0 < most → {h : Row} → h ∈ hs → (r : Row) × (r ∈ chosen_from most hs first)
  from_some one {h} m =
      chosen-cases (λ (rs : Table). (r : Row) × (r ∈ rs)) (λ l. (h, m))
      (λ l. let q = sort-key row_id (some-front most one (some-candidate m).1).1 in (q.0, q.1))

-- the same, of the heads of a table
module _ (T : Table) (a : ℕ) where
  -- the author's own head, if it has held updates
  abbrev pub own_heads : Table
  own_heads = first_heads T (heads T) (ranked (held_by T a))

  first-among : (r : Row) → r ∈ own_heads → r ∈ heads T
  first-among r = first-heads-∈ T (heads T) (ranked (held_by T a))

  first-few : length own_heads ≤ 1
  first-few = first-heads-few T (heads T) (ranked (held_by T a))

  heads-ascending : Ascending row_id T → Ascending row_id (heads T)
  unfolding heads
  heads-ascending k = ascending-keep (λ (r : Row). held_row r && not (covered T r)) k

module _ (most : ℕ) (T : Table) (a : ℕ) where
  pub chosen-all : length (heads T) ≤ most → chosen most T a ≡ heads T
  unfolding chosen
  chosen-all = from_all most (heads T) (own_heads T a) (first-among T a)

  pub chosen-few : length (chosen most T a) ≤ most
  unfolding chosen
  chosen-few = from-few most (heads T) (own_heads T a) (first-among T a)

  pub chosen-ascending : Ascending row_id T → Ascending row_id (chosen most T a)
  unfolding chosen
  chosen-ascending k = from-ascending most (heads T) (own_heads T a) (first-among T a) (heads-ascending T a k)

  pub chosen-head : {r : Row} → r ∈ chosen most T a → r ∈ heads T
  unfolding chosen
  chosen-head = from-∈ most (heads T) (own_heads T a) (first-among T a)

  pub chosen-some : 0 < most → {h : Row} → h ∈ heads T → (r : Row) × (r ∈ chosen most T a)
  unfolding chosen
  chosen-some = from_some most (heads T) (own_heads T a) (first-among T a)

  pub chosen-number : Ascending row_id T → most < length (heads T) → length (chosen most T a) ≡ most
  unfolding chosen
  chosen-number k =
      let d = ascending-distinct (heads-ascending T a k) in
      from-number most (heads T) (own_heads T a) (first-among T a) d (first-heads-distinct T (heads T) (ranked (held_by T a)) d)

  pub chosen-lowest : 0 < most → Ascending row_id T → {h g : Row} → h ∈ chosen most T a → (h ∈ own_heads T a → ⊥) → g ∈ heads T → (g ∈ chosen most T a → ⊥)
      → before h.id g.id ≡ true
  unfolding chosen
  chosen-lowest one k = from_lowest most (heads T) (own_heads T a) (first-among T a) (heads-ascending T a k) (le_trans (first-few T a) one)

-- the held row h is that of t, or of an update with t's as an ancestor
abbrev pub RowAtOrAbove : Row → Row → Type 0
RowAtOrAbove t h = (h.id ≡ t.id) ⊎ (t.id ∈ h.above)

-- t is the author's held row of highest rank, and h the lowest head at or above it
pub record OwnRows (T : Table) (a : ℕ) (t h : Row) : Type 0 where
  pub top_held : HeldRow T t
  pub top_by : t.update.author ≡ a
  pub top : (q : Row) → HeldRow T q → q.update.author ≡ a → (q ≡ t) ⊎ (before (rank_key q) (rank_key t) ≡ true)
  pub is-head : h ∈ heads T
  pub is_above : RowAtOrAbove t h
  pub lowest : (g : Row) → g ∈ heads T → RowAtOrAbove t g → (g ≡ h) ⊎ (before h.id g.id ≡ true)
  pub is_own : own_heads T a ≡ h ∷ []

-- the choice from a table that decides its set
module _ {rules : Rules} {S : List Update} {T : Table} (distinct : Distinct rules.ident S) (decides : Decides rules S T) where
  pub head-row : {r : Row} → r ∈ heads T → HeldRow T r
  unfolding heads
  head-row m = (keep-held→ T (λ (q : Row). not (covered T q)) m).0

  at_or_above→ : {t h : Row} → HeldRow T t → HeldRow T h → at_or_above T t h ≡ true → RowAtOrAbove t h
  unfolding at_or_above
  at_or_above→ {t} {h} k l e =
      ⊎_elim
      (λ (o : order_in T t.id h.id ≡ Same).
      inl (row-id distinct decides l ∙ ap rules.ident (sym ((row-order distinct decides k l).right Same o)) ∙ sym (row-id distinct decides k)))
      (λ (o : order_in T t.id h.id ≡ Before). inr (ancestor→above distinct decides k l ((row-order distinct decides k l).right Before o)))
      (same_or_before→ (order_in T t.id h.id) e)

  →at_or_above : {t h : Row} → HeldRow T t → HeldRow T h → RowAtOrAbove t h → at_or_above T t h ≡ true
  unfolding at_or_above same_or_before
  →at_or_above {t} {h} k l c =
      ⊎_elim
      (λ (e : h.id ≡ t.id).
      ap same_or_before ((row-order distinct decides k l).all Same (ap (λ (r : Row). r.update) (row-eq distinct decides k.row-in l.row-in (sym e)))))
      (λ (m : t.id ∈ h.above). ap same_or_before ((row-order distinct decides k l).all Before (above→ancestor distinct decides k l m))) c

  at_or_above-trans : (t : Row) {q h : Row} → HeldRow T q → HeldRow T h → RowAtOrAbove t q → RowAtOrAbove q h → RowAtOrAbove t h
  at_or_above-trans t kq kh c (inl e) = subst (RowAtOrAbove t) (row-eq distinct decides kq.row-in kh.row-in (sym e)) c
  at_or_above-trans t kq kh (inl e) (inr m) = inr (∈-cast (sym e) m)
  at_or_above-trans t kq kh (inr n) (inr m) = inr (above-trans distinct decides kq kh m n)

  -- every held update is at or below a head; n bounds how many are above it
  head-above : (n : ℕ) (t : Row) → HeldRow T t → length T ≤ rank t + n → (h : Row) × (h ∈ heads T) × RowAtOrAbove t h
  unfolding covered heads
  head-above zero t k b = absurd (let l : rank t < length T = rank-bound distinct decides k in omega arith)
  head-above (suc n) t k b = step (covered T t) refl (λ q kq l. head-above n q kq l)
    where
      step : (c : Bool) → covered T t ≡ c → ((q : Row) → HeldRow T q → length T ≤ rank q + n → (h : Row) × (h ∈ heads T) × RowAtOrAbove q h)
          → (h : Row) × (h ∈ heads T) × RowAtOrAbove t h
      step true e below =
          let f = any-held→ T (λ (q : Row). is_before (order_in T t.id q.id)) e in
          let m : t.id ∈ f.0.above =
          ancestor→above distinct decides k f.1 ((row-order distinct decides k f.1).right Before (is_before→ (order_in T t.id f.0.id) f.2)) in
          let l : rank t < rank f.0 = rank_less distinct decides k f.1 m in
          let g = below f.0 f.1 (omega arith) in
          (g.0, g.1, at_or_above-trans t f.1 (head-row g.1) (inr m) g.2)
      step false e below = (t, →keep-held T (λ (q : Row). not (covered T q)) k (ap not e), inl refl)

  pub some-head : {t : Row} → HeldRow T t → (h : Row) × (h ∈ heads T) × RowAtOrAbove t h
  some-head {t} k = head-above (length T) t k (omega arith)

  heads-one : Identifies row_id (heads T)
  heads-one x y m k e = row-eq distinct decides (head-row m).row-in (head-row k).row-in e

  module _ (ordered : Ascending row_id T) (a : ℕ) where
    abbrev by_author : Row → Bool
    by_author r = eqb r.update.author a

    held-by→ : {r : Row} → r ∈ held_by T a → HeldRow T r × (r.update.author ≡ a)
    unfolding held_by
    held-by→ {r} m = let f = keep-held→ T by_author m in (f.0, eqb-true r.update.author a f.1)

    →held-by : {r : Row} → HeldRow T r → r.update.author ≡ a → r ∈ held_by T a
    unfolding held_by
    →held-by {r} k e = →keep-held T by_author k (eq-eqb r.update.author a e)

    by_rank : List Row
    by_rank = sort rank_key (held_by T a)

    ∈-by-rank : {r : Row} → HeldRow T r → r.update.author ≡ a → r ∈ by_rank
    unfolding by_rank
    ∈-by-rank k e =
        ∈-sort rank_key (λ x y m n q. row-eq distinct decides (held-by→ m).0.row-in (held-by→ n).0.row-in (tail-eq_of_cons-eq q)) (→held-by k e)

    -- of two held updates of an author without a fork, that of higher rank is at or above the other
    unforked : (Forked rules S a → ⊥) → {r t : Row} → HeldRow T r → HeldRow T t → r.update.author ≡ a → t.update.author ≡ a
        → rank r ≤ rank t → (r.id ≡ t.id → ⊥) → r.id ∈ t.above
    unforked n {r} {t} k l by-r by-t le ne = step (member r.id t.above) refl
      where
        apart : (x y : Row) → HeldRow T x → HeldRow T y → (x.id ∈ y.above → ⊥) → Ancestor rules S x.update y.update → ⊥
        apart x y kx ky not-above b = not-above (ancestor→above distinct decides kx ky b)

        step : (b : Bool) → member r.id t.above ≡ b → r.id ∈ t.above
        step true e = member→∈ r.id t.above e
        step false e =
            absurd
            (n
            (record {
              one = r.update;
              other = t.update;
              one-held = row-held distinct decides k;
              other-held = row-held distinct decides l;
              one-by = by-r;
              other-by = by-t;
              two = λ i. ne (row-id distinct decides k ∙ i ∙ sym (row-id distinct decides l));
              one_apart = apart r t k l (λ m. true-false (∈→member m) e);
              other-apart = apart t r l k (λ m. not-le_of_lt (rank_less distinct decides l k m) le);
            }))

    -- an author with a held update has these rows
    pub own-rows : {r : Row} → HeldRow T r → r.update.author ≡ a → (t h : Row) × OwnRows T a t h
    unfolding ranked by_rank first_heads
    own-rows k e =
        let f = greatest-first rank_key by_rank (sort-ascending rank_key (held_by T a)) (∈-by-rank k e) in
        let t : Row = f.0 in
        let l = held-by→ (sort-∈ rank_key (held_by T a) f.3) in
        let g = some-head l.0 in
        let above : (q : Row) → q ∈ heads T → RowAtOrAbove t q → q ∈ keep (at_or_above T t) (heads T) = λ q m c.
        ∈-keep (at_or_above T t) m (→at_or_above l.0 (head-row m) c) in
        let h = first_of (above g.0 g.1 g.2) in
        let m = keep-∈ (at_or_above T t) (heads T) (subst (λ (rs : Table). h.0 ∈ rs) (sym h.2) (Memᴰ.head refl)) in
        let sorted : Ascending row_id (h.0 ∷ h.1) =
        subst (Ascending row_id) h.2 (ascending-keep (at_or_above T t) (heads-ascending T a ordered)) in (
          t,
          h.0,
          record {
            top_held = l.0;
            top_by = l.1;
            top = λ q kq eq. f.4 q (∈-by-rank kq eq);
            is-head = m.0;
            is_above = at_or_above→ l.0 (head-row m.0) m.1;
            lowest = λ q mq c.
                ⊎_elim inl (λ (i : q ∈ h.1). inr (ascending-head sorted q i)) (∈-cases (subst (λ (rs : Table). q ∈ rs) h.2 (above q mq c)));
            is_own = ap (first_heads T (heads T)) f.2 ∙ ap (take 1) h.2;
          },
        )

    -- a first head is the author's own
    pub own-∈ : {r : Row} → r ∈ own_heads T a → (t : Row) × OwnRows T a t r
    unfolding ranked first_heads
    own-∈ {r} m = step (ranked (held_by T a)) refl
      where
        step : (rs : Table) → ranked (held_by T a) ≡ rs → (t : Row) × OwnRows T a t r
        step [] e = absurd (Memᴰ.not-nil (subst (λ (rs : Table). r ∈ first_heads T (heads T) rs) e m))
        step (q ∷ qs) e =
            let i : q ∈ ranked (held_by T a) = subst (λ (rs : Table). q ∈ rs) (sym e) (Memᴰ.head refl) in
            let l = held-by→ (sort-∈ rank_key (held_by T a) (reverse-∈ (sort rank_key (held_by T a)) i)) in
            let f = own-rows l.0 l.1 in
            (f.0, subst (OwnRows T a f.0) (sym (∈-singleton (subst (λ (rs : Table). r ∈ rs) f.2.is_own m))) f.2)

    -- it is chosen
    pub chosen-own : (most : ℕ) → 0 < most → {t h : Row} → OwnRows T a t h → h ∈ chosen most T a
    unfolding chosen
    chosen-own most one {t} {h} o =
        from_first most (heads T) (own_heads T a) (first-among T a) heads-one (le_trans (first-few T a) one)
        (subst (λ (rs : Table). h ∈ rs) (sym o.is_own) (Memᴰ.head refl))

    -- a head at or above each held update of an author without a fork is named
    pub named : (most : ℕ) → 0 < most → (Forked rules S a → ⊥) → {r : Row} → HeldRow T r → r.update.author ≡ a → (h : Row) × (h ∈ chosen most T a) × HeldRow T h × RowAtOrAbove r h
    named most one n {r} k e =
        let f = own-rows k e in
        let t : Row = f.0 in
        let o = f.2 in
        let l = o.top_held in
        let ne : before (rank_key r) (rank_key t) ≡ true → r.id ≡ t.id → ⊥ = λ b q.
        before→ne (rank_key r) (rank_key t) b (ap rank_key (row-eq distinct decides k.row-in l.row-in q)) in
        let below : RowAtOrAbove r t =
        ⊎_elim (λ (q : r ≡ t). inl (ap row_id (sym q)))
        (λ (b : before (rank_key r) (rank_key t) ≡ true).
        inr (unforked n k l e o.top_by (before-first (rank r) (rank t) r.id t.id b) (ne b))) (o.top r k e) in
        (f.1, chosen-own most one o, head-row o.is-head, at_or_above-trans r l (head-row o.is-head) below o.is_above)
