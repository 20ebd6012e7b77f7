-- The laws of the sort, and of ascending lists. In order: ascending lists, with the test of them and that a set has one (`ascending-unique`); inserting; sorting: the members
-- (`sort-∈`, `∈-sort`), the order (`sort-ascending`), that it depends on the set alone (`same-sort`, `sort-unique`), its length, and that no key stands twice; other keys;
-- under a map; the greatest member; lists under a map and one after the other.
use Prim.Native.Nat.{ℕ, suc, ◌≤◌, zero-le, suc-le-suc}
use Rattle.std.proofs.Math.Nat.{le_refl}
use native.Mathlib.Omega.{arith}
use Rattle.std.specs.Prelude.{◌≡◌, ◌⊎◌, Bool}
use Rattle.std.proofs.Math.Path.{refl, sym, ap, subst}
use Rattle.std.proofs.Common.{◌∙◌, subst₂}
use Rattle.std.proofs.Math.Logic.{inl, inr, ⊎_elim}
use mathlib.Core.List.Memᴰ
use mathlib.Core.List.{List, [], ◌∷◌, ◌++◌, map, reverse, reverse_aux}
use Rattle.std.proofs.Math.Bool.{true, false, cond}
use Rattle.std.proofs.Math.ListN.{length}
use Rattle.bytes_order.specs.Order.{before, same, ascending}
use Rattle.bytes_order.specs.Member.{◌∈◌, keep, SameMembers, concat_map}
use Rattle.bytes_order.specs.Sort.{insert, sort}
use Rattle.bytes_order.specs.Distinct.{Distinct, distinct_nil, distinct_cons, Identifies}
use Rattle.bytes_order.specs.Ascending.{Ascending, ascending-nil, ascending-cons}
use Rattle.bytes_order.specs.BoolLaws.{true-false, and-true→, and-true}
use Rattle.bytes_order.specs.OrderLaws.{same→eq, before-trans, before-asym, before→ne, not-before→after}
use Rattle.bytes_order.specs.MemberLaws.{∈-cases, ∈-singleton, ∈-cast, append-∈, keep-∈, same-members-refl, same-members-sym, same-members-trans, map-∈, reverse-∈, concat_map-∈}
use Rattle.bytes_order.specs.DistinctLaws.{distinct-identifies}

-- ascending lists
module _ {A : Type 0} {key : A → List ℕ} where
  pub ascending-head : {x : A} {xs : List A} → Ascending key (x ∷ xs) → (y : A) → y ∈ xs → before (key x) (key y) ≡ true
  ascending-head (ascending-cons h d) = h

  pub ascending-tail : {x : A} {xs : List A} → Ascending key (x ∷ xs) → Ascending key xs
  ascending-tail (ascending-cons h d) = d

  pub ascending-one : {x : A} → Ascending key (x ∷ [])
  ascending-one = ascending-cons (λ y m. absurd (Memᴰ.not-nil m)) ascending-nil

  pub ascending-distinct : {xs : List A} → Ascending key xs → Distinct key xs
  ascending-distinct ascending-nil = distinct_nil
  ascending-distinct (ascending-cons {x = x} h d) = distinct_cons (λ y m. before→ne (key x) (key y) (h y m)) (ascending-distinct d)

  pub ascending-identifies : {xs : List A} → Ascending key xs → Identifies key xs
  ascending-identifies d = distinct-identifies (ascending-distinct d)

  pub ascending-keep : (p : A → Bool) {xs : List A} → Ascending key xs → Ascending key (keep p xs)
  unfolding keep
  ascending-keep p ascending-nil = ascending-nil
  ascending-keep p (ascending-cons {x = x} {xs = xs} h d) = step (p x) (ascending-keep p d)
    where
      step : (b : Bool) → Ascending key (keep p xs) → Ascending key (cond b (x ∷ keep p xs) (keep p xs))
      step true k = ascending-cons (λ y m. h y (keep-∈ p xs m).0) k
      step false k = k

  pub ascending-append : {xs ys : List A} → Ascending key xs → Ascending key ys
      → ((x y : A) → x ∈ xs → y ∈ ys → before (key x) (key y) ≡ true) → Ascending key (xs ++ ys)
  ascending-append ascending-nil e h = e
  ascending-append {ys = ys} (ascending-cons {x = x} {xs = xs} b d) e h =
      ascending-cons (λ y m. ⊎_elim (λ (k : y ∈ xs). b y k) (λ (k : y ∈ ys). h x y (Memᴰ.head refl) k) (append-∈ xs m))
      (ascending-append d e (λ a c k. h a c (Memᴰ.tail k)))

  -- by another key that keeps the order
  pub ascending-rekey : (key' : A → List ℕ) {xs : List A} → Ascending key xs
      → ((x y : A) → x ∈ xs → y ∈ xs → before (key x) (key y) ≡ true → before (key' x) (key' y) ≡ true) → Ascending key' xs
  ascending-rekey key' ascending-nil h = ascending-nil
  ascending-rekey key' (ascending-cons {x = x} b d) h =
      ascending-cons (λ y m. h x y (Memᴰ.head refl) (Memᴰ.tail m) (b y m)) (ascending-rekey key' d (λ y z m k. h y z (Memᴰ.tail m) (Memᴰ.tail k)))

  -- the test `ascending`
  pub Ascending→ascending : {xs : List A} → Ascending key xs → ascending (map key xs) ≡ true
  unfolding ascending
  Ascending→ascending ascending-nil = refl
  Ascending→ascending (ascending-cons h ascending-nil) = refl
  Ascending→ascending (ascending-cons {x = x} h (ascending-cons {x = y} {xs = ys} k d)) =
      and-true (before (key x) (key y)) (ascending (map key (y ∷ ys))) (h y (Memᴰ.head refl)) (Ascending→ascending (ascending-cons k d))

  pub ascending→Ascending : (xs : List A) → ascending (map key xs) ≡ true → Ascending key xs
  unfolding ascending
  ascending→Ascending [] e = ascending-nil
  ascending→Ascending (x ∷ []) e = ascending-one
  ascending→Ascending (x ∷ y ∷ ys) e = step (and-true→ (before (key x) (key y)) (ascending (map key (y ∷ ys))) e) (ascending→Ascending (y ∷ ys))
    where
      step : (before (key x) (key y) ≡ true) × (ascending (map key (y ∷ ys)) ≡ true) → (ascending (map key (y ∷ ys)) ≡ true → Ascending key (y ∷ ys)) → Ascending key (x ∷ y ∷ ys)
      step h below = ascending-cons (λ z m. ⊎_elim (λ (q : z ≡ y). subst (λ (w : A). before (key x) (key w) ≡ true) (sym q) h.0) (λ (k : z ∈ ys). before-trans (key x) (key y) (key z) h.0 (ascending-head (below h.1) z k)) (∈-cases m)) (below h.1)

  -- one set has one ascending list
  head-eq : {x y : A} {xs ys : List A} → Ascending key (x ∷ xs) → Ascending key (y ∷ ys) → SameMembers (x ∷ xs) (y ∷ ys) → x ≡ y
  head-eq {x} {y} {xs} {ys} d e s = step (∈-cases (s.forth x (Memᴰ.head refl))) (∈-cases (s.back y (Memᴰ.head refl)))
    where
      step : (x ≡ y) ⊎ (x ∈ ys) → (y ≡ x) ⊎ (y ∈ xs) → x ≡ y
      step (inl p) q = p
      step (inr m) (inl q) = sym q
      step (inr m) (inr k) = absurd (true-false (ascending-head e x m) (before-asym (key x) (key y) (ascending-head d y k)))

  tail-sub : {x y : A} {xs ys : List A} → Ascending key (x ∷ xs) → x ≡ y → ((z : A) → z ∈ x ∷ xs → z ∈ y ∷ ys) → (z : A) → z ∈ xs → z ∈ ys
  tail-sub {x} {y} {xs} {ys} d p f z m = ⊎_elim (λ (q : z ≡ y). absurd (before→ne (key x) (key z) (ascending-head d z m) (ap key (p ∙ sym q)))) (λ (k : z ∈ ys). k) (∈-cases (f z (Memᴰ.tail m)))

  pub ascending-unique : {xs ys : List A} → Ascending key xs → Ascending key ys → SameMembers xs ys → xs ≡ ys
  ascending-unique ascending-nil ascending-nil s = refl
  ascending-unique ascending-nil (ascending-cons {x = y} k e) s = absurd (Memᴰ.not-nil (s.back y (Memᴰ.head refl)))
  ascending-unique (ascending-cons {x = x} h d) ascending-nil s = absurd (Memᴰ.not-nil (s.forth x (Memᴰ.head refl)))
  ascending-unique (ascending-cons {x = x} {xs = xs} h d) (ascending-cons {x = y} {xs = ys} k e) s =
      let p : x ≡ y = head-eq (ascending-cons h d) (ascending-cons k e) s in
      let t : SameMembers xs ys = record { forth = tail-sub (ascending-cons h d) p s.forth; back = tail-sub (ascending-cons k e) (sym p) s.back } in
      let r : xs ≡ ys = ascending-unique d e t in
      λ i. p i ∷ r i

-- insert and sort
module _ {A : Type 0} (key : A → List ℕ) where
  pub insert-∈ : (x : A) (ys : List A) {z : A} → z ∈ insert key x ys → (z ≡ x) ⊎ (z ∈ ys)
  unfolding insert
  insert-∈ x [] m = inl (∈-singleton m)
  insert-∈ x (y ∷ ys) {z} m = step (before (key x) (key y)) (same (key x) (key y)) m (λ (k : z ∈ insert key x ys). insert-∈ x ys k)
    where
      step : (b s : Bool) → z ∈ cond b (x ∷ y ∷ ys) (cond s (y ∷ ys) (y ∷ insert key x ys)) → (z ∈ insert key x ys → (z ≡ x) ⊎ (z ∈ ys)) → (z ≡ x) ⊎ (z ∈ y ∷ ys)
      step true s m below = ∈-cases m
      step false true m below = inr m
      step false false m below = ⊎_elim (λ (q : z ≡ y). inr (Memᴰ.head q)) (λ (k : z ∈ insert key x ys). ⊎_elim (λ (q : z ≡ x). inl q) (λ (l : z ∈ ys). inr (Memᴰ.tail l)) (below k)) (∈-cases m)

  pub ∈-insert : (x : A) {z : A} {ys : List A} → z ∈ ys → z ∈ insert key x ys
  unfolding insert
  ∈-insert x {z = z} (Memᴰ.head {x = y} {xs = ys} e) = step (before (key x) (key y)) (same (key x) (key y))
    where
      step : (b s : Bool) → z ∈ cond b (x ∷ y ∷ ys) (cond s (y ∷ ys) (y ∷ insert key x ys))
      step true s = Memᴰ.tail (Memᴰ.head e)
      step false true = Memᴰ.head e
      step false false = Memᴰ.head e
  ∈-insert x {z = z} (Memᴰ.tail {x = y} {xs = ys} m) = step (before (key x) (key y)) (same (key x) (key y)) (∈-insert x m)
    where
      step : (b s : Bool) → z ∈ insert key x ys → z ∈ cond b (x ∷ y ∷ ys) (cond s (y ∷ ys) (y ∷ insert key x ys))
      step true s k = Memᴰ.tail (Memᴰ.tail m)
      step false true k = Memᴰ.tail m
      step false false k = Memᴰ.tail k

  -- the key of what is inserted is there, though the element may be another's
  pub insert_key : (x : A) (ys : List A) → (z : A) × (z ∈ insert key x ys) × (key z ≡ key x)
  unfolding insert
  insert_key x [] = (x, Memᴰ.head refl, refl)
  insert_key x (y ∷ ys) = step (before (key x) (key y)) (same (key x) (key y)) refl (insert_key x ys)
    where
      step : (b s : Bool) → same (key x) (key y) ≡ s → (z : A) × (z ∈ insert key x ys) × (key z ≡ key x)
          → (z : A) × (z ∈ cond b (x ∷ y ∷ ys) (cond s (y ∷ ys) (y ∷ insert key x ys))) × (key z ≡ key x)
      step true s e below = (x, Memᴰ.head refl, refl)
      step false true e below = (y, Memᴰ.head refl, sym (same→eq (key x) (key y) e))
      step false false e below = (below.0, Memᴰ.tail below.1, below.2)

  pub insert-length : (x : A) (ys : List A) → length (insert key x ys) ≤ suc (length ys)
  unfolding insert
  insert-length x [] = le_refl (suc 0)
  insert-length x (y ∷ ys) = step (before (key x) (key y)) (same (key x) (key y)) (insert-length x ys)
    where
      step : (b s : Bool) → length (insert key x ys) ≤ suc (length ys) → length (cond b (x ∷ y ∷ ys) (cond s (y ∷ ys) (y ∷ insert key x ys))) ≤ suc (length (y ∷ ys))
      step true s h = omega arith
      step false true h = omega arith
      step false false h = suc-le-suc h

  pub insert-ascending : (x : A) {ys : List A} → Ascending key ys → Ascending key (insert key x ys)
  unfolding insert
  insert-ascending x ascending-nil = ascending-one
  insert-ascending x (ascending-cons {x = y} {xs = ys} h d) = step (before (key x) (key y)) refl (same (key x) (key y)) refl (insert-ascending x d)
    where
      step : (b : Bool) → before (key x) (key y) ≡ b → (s : Bool) → same (key x) (key y) ≡ s → Ascending key (insert key x ys) → Ascending key (cond b (x ∷ y ∷ ys) (cond s (y ∷ ys) (y ∷ insert key x ys)))
      step true p s q below =
          ascending-cons (λ z m. ⊎_elim (λ (e : z ≡ y). subst (λ (w : A). before (key x) (key w) ≡ true) (sym e) p) (λ (k : z ∈ ys). before-trans (key x) (key y) (key z) p (h z k)) (∈-cases m)) (ascending-cons h d)
      step false p true q below = ascending-cons h d
      step false p false q below =
          ascending-cons (λ z m. ⊎_elim (λ (e : z ≡ x). subst (λ (w : A). before (key y) (key w) ≡ true) (sym e) (not-before→after (key x) (key y) p q)) (λ (k : z ∈ ys). h z k) (insert-∈ x ys m)) below

  pub sort-∈ : (xs : List A) {x : A} → x ∈ sort key xs → x ∈ xs
  unfolding sort
  sort-∈ [] m = absurd (Memᴰ.not-nil m)
  sort-∈ (y ∷ ys) {x} m = ⊎_elim (λ (q : x ≡ y). Memᴰ.head q) (λ (k : x ∈ sort key ys). Memᴰ.tail (sort-∈ ys k)) (insert-∈ y (sort key ys) m)

  -- every key of xs is a key of the sorted list
  pub sort-key : {x : A} {xs : List A} → x ∈ xs → (y : A) × (y ∈ sort key xs) × (key y ≡ key x)
  unfolding sort
  sort-key (Memᴰ.head {x = z} {xs = zs} e) = let r = insert_key z (sort key zs) in (r.0, r.1, r.2 ∙ ap key (sym e))
  sort-key (Memᴰ.tail {x = z} {xs = zs} m) = let r = sort-key m in (r.0, ∈-insert z r.1, r.2)

  pub ∈-sort : {x : A} {xs : List A} → Identifies key xs → x ∈ xs → x ∈ sort key xs
  ∈-sort {x} {xs} h m = let r = sort-key m in ∈-cast (sym (h r.0 x (sort-∈ xs r.1) m r.2)) r.1

  pub sort-ascending : (xs : List A) → Ascending key (sort key xs)
  unfolding sort
  sort-ascending [] = ascending-nil
  sort-ascending (x ∷ xs) = insert-ascending x (sort-ascending xs)

  pub sort-same : (xs : List A) → Identifies key xs → SameMembers (sort key xs) xs
  sort-same xs h = record { forth = λ x m. sort-∈ xs m; back = λ x m. ∈-sort h m }

  -- the sort depends on the set alone
  pub same-sort : {xs ys : List A} → Identifies key xs → SameMembers xs ys → sort key xs ≡ sort key ys
  same-sort {xs} {ys} h s =
      let k : Identifies key ys = λ x y m n. h x y (s.back x m) (s.back y n) in
      ascending-unique (sort-ascending xs) (sort-ascending ys) (same-members-trans (sort-same xs h) (same-members-trans s (same-members-sym (sort-same ys k))))

  -- an ascending list with the members of xs is its sort
  pub sort-unique : {xs ys : List A} → Identifies key xs → Ascending key ys → SameMembers xs ys → sort key xs ≡ ys
  sort-unique {xs} h d s = ascending-unique (sort-ascending xs) d (same-members-trans (sort-same xs h) s)

  pub sort_sorted : {xs : List A} → Ascending key xs → sort key xs ≡ xs
  sort_sorted {xs} d = sort-unique (ascending-identifies d) d (same-members-refl xs)

  pub sort-length : (xs : List A) → length (sort key xs) ≤ length xs
  unfolding sort
  sort-length [] = zero-le
  sort-length (x ∷ xs) = let h = sort-length xs in let k = insert-length x (sort key xs) in omega arith

  pub sort-distinct : (xs : List A) → Distinct key (sort key xs)
  sort-distinct xs = ascending-distinct (sort-ascending xs)

-- the sort depends on the keys of the members alone
module _ {A : Type 0} (key key' : A → List ℕ) where
  pub insert-cong : (x : A) (ys : List A) → key x ≡ key' x → ((y : A) → y ∈ ys → key y ≡ key' y) → insert key x ys ≡ insert key' x ys
  unfolding insert
  insert-cong x [] e h = refl
  insert-cong x (y ∷ ys) e h = λ i. cond (before (e i) (h y (Memᴰ.head refl) i)) (x ∷ y ∷ ys) (cond (same (e i) (h y (Memᴰ.head refl) i)) (y ∷ ys) (y ∷ insert-cong x ys e (λ z m. h z (Memᴰ.tail m)) i))

  pub sort-cong : (xs : List A) → ((x : A) → x ∈ xs → key x ≡ key' x) → sort key xs ≡ sort key' xs
  unfolding sort
  sort-cong [] h = refl
  sort-cong (x ∷ xs) h =
      insert-cong x (sort key xs) (h x (Memᴰ.head refl)) (λ y m. h y (Memᴰ.tail (sort-∈ key xs m)))
      ∙ ap (insert key' x) (sort-cong xs (λ y m. h y (Memᴰ.tail m)))

-- the sort of a map
module _ {A B : Type 0} (key : B → List ℕ) (f : A → B) where
  pub insert-map : (x : A) (ys : List A) → insert key (f x) (map f ys) ≡ map f (insert (λ z. key (f z)) x ys)
  unfolding insert
  insert-map x [] = refl
  insert-map x (y ∷ ys) = step (before (key (f x)) (key (f y))) (same (key (f x)) (key (f y))) (insert-map x ys)
    where
      step : (b s : Bool) → insert key (f x) (map f ys) ≡ map f (insert (λ z. key (f z)) x ys)
          → cond b (f x ∷ f y ∷ map f ys) (cond s (f y ∷ map f ys) (f y ∷ insert key (f x) (map f ys))) ≡ map f (cond b (x ∷ y ∷ ys) (cond s (y ∷ ys) (y ∷ insert (λ z. key (f z)) x ys)))
      step true s e = refl
      step false true e = refl
      step false false e = ap (λ (l : List B). f y ∷ l) e

  pub sort-map : (xs : List A) → sort key (map f xs) ≡ map f (sort (λ x. key (f x)) xs)
  unfolding sort
  sort-map [] = refl
  sort-map (x ∷ xs) = ap (insert key (f x)) (sort-map xs) ∙ insert-map x (sort (λ z. key (f z)) xs)

-- the greatest member of an ascending list, and an ascending list under a map
module _ {A : Type 0} (key : A → List ℕ) where
  -- t has the greatest key of xs
  abbrev pub Greatest : A → List A → Type 0
  Greatest t xs = (x : A) → x ∈ xs → (x ≡ t) ⊎ (before (key x) (key t) ≡ true)

  greatest-cons : {t y : A} {ys : List A} (x : A) → before (key x) (key y) ≡ true → Greatest t (y ∷ ys) → Greatest t (x ∷ y ∷ ys)
  greatest-cons {t} {y} {ys} x b g z m =
      ⊎_elim
      (λ (e : z ≡ x).
      inr
      (subst (λ (v : A). before (key v) (key t) ≡ true) (sym e)
      (⊎_elim (λ (d : y ≡ t). subst (λ (v : A). before (key x) (key v) ≡ true) d b)
      (λ (c : before (key y) (key t) ≡ true). before-trans (key x) (key y) (key t) b c) (g y (Memᴰ.head refl)))))
      (λ (k : z ∈ y ∷ ys). g z k) (∈-cases m)

  greatest-reverse_aux : (x : A) (xs r : List A) → Ascending key (x ∷ xs)
      → (t : A) × (ts : List A) × (reverse_aux xs (x ∷ r) ≡ t ∷ ts) × Greatest t (x ∷ xs)
  greatest-reverse_aux x [] r a = (x, r, refl, λ y m. ⊎_elim inl (λ (k : y ∈ []). absurd (Memᴰ.not-nil k)) (∈-cases m))
  greatest-reverse_aux x (y ∷ ys) r (ascending-cons b a) =
      let f = greatest-reverse_aux y ys (x ∷ r) a in
      (f.0, f.1, f.2, greatest-cons x (b y (Memᴰ.head refl)) f.3)

  -- an ascending list with a member, read backwards, begins with the member of greatest key
  pub greatest-first : (xs : List A) {x : A} → Ascending key xs → x ∈ xs
      → (t : A) × (ts : List A) × (reverse xs ≡ t ∷ ts) × (t ∈ xs) × Greatest t xs
  greatest-first [] a m = absurd (Memᴰ.not-nil m)
  greatest-first (x ∷ xs) a m =
      let f = greatest-reverse_aux x xs [] a in
      (f.0, f.1, f.2, reverse-∈ (x ∷ xs) (subst (λ (ys : List A). f.0 ∈ ys) (sym f.2) (Memᴰ.head refl)), f.3)

-- lists of elements with the keys of an ascending list, one after the other
pub ascending-concat_map : {A B : Type 0} {key : A → List ℕ} (key' : B → List ℕ) (f : A → List B) {xs : List A} → Ascending key xs
    → ((x : A) → Ascending key' (f x)) → ((x : A) (y : B) → y ∈ f x → key' y ≡ key x) → Ascending key' (concat_map f xs)
unfolding concat_map
ascending-concat_map key' f ascending-nil a e = ascending-nil
ascending-concat_map key' f (ascending-cons {x = x} {xs = xs} b d) a e =
    ascending-append (a x) (ascending-concat_map key' f d a e)
    (λ u v m n.
    let q = concat_map-∈ f xs n in
    subst₂ (λ (i j : List ℕ). before i j ≡ true) (sym (e x u m)) (sym (e q.0 v q.2)) (b q.0 q.1))

-- a map that keeps the keys keeps the order
pub ascending-map : {A B : Type 0} {key : A → List ℕ} (key' : B → List ℕ) (f : A → B) {xs : List A} → Ascending key xs
    → ((x : A) → key' (f x) ≡ key x) → Ascending key' (map f xs)
ascending-map key' f ascending-nil e = ascending-nil
ascending-map {key = key} key' f (ascending-cons {x = x} {xs = xs} b a) e =
    ascending-cons
    (λ y m.
    let q = map-∈ f xs m in
    subst₂ (λ (i j : List ℕ). before i j ≡ true) (sym (e x)) (sym (e q.0) ∙ ap key' q.2) (b q.0 q.1))
    (ascending-map key' f a e)
