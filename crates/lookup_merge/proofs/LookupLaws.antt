-- That every asked id is answered, by the byte of the stored one with that id; and the bounds of the comparisons.
use Rattle.std.specs.Prelude.{ℕ, suc, ◌+◌, ◌-◌, ◌≤◌, ◌<◌, ◌≡◌, refl, List, [], ◌∷◌, map, Bool, true, false, cond, length}
use Rattle.std.proofs.Common.{sym, ap, ap₂, ◌∙◌, ⊎_elim, arith}
use mathlib.Core.List.Memᴰ
use Rattle.std.proofs.lemmas.List.{length-map}
use Rattle.bytes_order.specs.Order.{before, same}
use Rattle.bytes_order.specs.OrderLaws.{same→eq, eq→same, ne→same-false, before-trans, before→ne, not-before→after}
use Rattle.bytes_order.specs.Member.{◌∈◌}
use Rattle.bytes_order.specs.MemberLaws.{∈-cases, map-cong}
use Rattle.bytes_order.specs.Ascending.{Ascending}
use Rattle.bytes_order.specs.SortLaws.{ascending-head, ascending-tail}
use Rattle.bytes_order.specs.Compare.{order_of}
use Rattle.std.specs.declared.cmp.Ordering.TheVariants.{Less, Equal, Greater}
use Rattle.update_format.specs.Update.{Id}
use Rattle.standing_bytes.specs.StandingByte.{unknown_byte}
use Rattle.lookup_merge.specs.Merge.{Stored, id_of, merge}
use Rattle.lookup_merge.specs.MergeLaws.{merge-asked-end, merge-stored-end, merge_less, merge_equal, merge_greater}

-- the byte of the stored id that is i, and of none that is: unknown
unfoldable pub byte_for : List Stored → Id → ℕ
byte_for [] i = unknown_byte
byte_for (x ∷ xs) i = cond (same x.id i) x.byte (byte_for xs i)

-- how a stands to b
data Stands (a b : Id) : Type 0 where
  stands_less : order_of a b ≡ Less → before a b ≡ true → Stands a b
  stands_equal : order_of a b ≡ Equal → a ≡ b → Stands a b
  stands_greater : order_of a b ≡ Greater → before b a ≡ true → Stands a b

stands : (a b : Id) → Stands a b
unfolding order_of
stands a b = go (before a b) refl (same a b) refl
  where
    go : (p : Bool) → before a b ≡ p → (q : Bool) → same a b ≡ q → Stands a b
    go true h q k = stands_less (rw h) h
    go false h true k = stands_equal (rw (h, k)) (same→eq a b k)
    go false h false k = stands_greater (rw (h, k)) (not-before→after a b h k)

-- induction along the walk
module _ (P : List Stored → List Id → Type 0)
    (no-stored : (is : List Id) → P [] is)
    (no-asked : (xs : List Stored) → P xs [])
    (less : (x : Stored) (xs : List Stored) (i : Id) (is : List Id) → order_of x.id i ≡ Less → before x.id i ≡ true → P xs (i ∷ is) → P (x ∷ xs) (i ∷ is))
    (equal : (x : Stored) (xs : List Stored) (i : Id) (is : List Id) → order_of x.id i ≡ Equal → x.id ≡ i → P xs is → P (x ∷ xs) (i ∷ is))
    (greater : (x : Stored) (xs : List Stored) (i : Id) (is : List Id) → order_of x.id i ≡ Greater → before i x.id ≡ true → P (x ∷ xs) is → P (x ∷ xs) (i ∷ is))
  where
    from : (x : Stored) (xs : List Stored) → ((is : List Id) → P xs is) → (is : List Id) → P (x ∷ xs) is
    from x xs rest [] = no-asked (x ∷ xs)
    from x xs rest (i ∷ is) = step (stands x.id i) (from x xs rest is)
      where
        step : Stands x.id i → P (x ∷ xs) is → P (x ∷ xs) (i ∷ is)
        step (stands_less e h) k = less x xs i is e h (rest (i ∷ is))
        step (stands_equal e h) k = equal x xs i is e h (rest is)
        step (stands_greater e h) k = greater x xs i is e h k

    pub along : (xs : List Stored) (is : List Id) → P xs is
    along [] is = no-stored is
    along (x ∷ xs) is = from x xs (along xs) is

-- every asked id is answered
pub answers-length : (xs : List Stored) (is : List Id) → length (merge xs is).answers ≡ length is
answers-length =
    along (λ xs is. length (merge xs is).answers ≡ length is)
    (λ is. rw (merge-stored-end is) (length-map is (λ (i : Id). unknown_byte)))
    (λ xs. rw (merge-asked-end xs))
    (λ x xs i is e h k. rw (merge_less x xs i is e) k)
    (λ x xs i is e h k. rw (merge_equal x xs i is e) (ap suc k))
    (λ x xs i is e h k. rw (merge_greater x xs i is e) (ap suc k))

-- the first stored id is i, or comes before it
byte_for-found : (x : Stored) (xs : List Stored) (i : Id) → x.id ≡ i → byte_for (x ∷ xs) i ≡ x.byte
unfolding byte_for
byte_for-found x xs i e = rw (eq→same x.id i e)

byte_for-passed : (x : Stored) (xs : List Stored) (i : Id) → before x.id i ≡ true → byte_for (x ∷ xs) i ≡ byte_for xs i
unfolding byte_for
byte_for-passed x xs i h = rw (ne→same-false x.id i (before→ne x.id i h))

-- an id before all the stored ones
byte_for-unknown : (xs : List Stored) (i : Id) → ((x : Stored) → x ∈ xs → before i x.id ≡ true) → byte_for xs i ≡ unknown_byte
unfolding byte_for
byte_for-unknown [] i h = refl
byte_for-unknown (x ∷ xs) i h =
    rw (ne→same-false x.id i (λ e. before→ne i x.id (h x (Memᴰ.head refl)) (sym e))) (byte_for-unknown xs i (λ y m. h y (Memᴰ.tail m)))

-- an id before the first of an ascending list comes before all of it
pub after-all : {A : Type 0} {key : A → Id} {x : A} {xs : List A} (z : Id) → Ascending key (x ∷ xs) → before z (key x) ≡ true
    → (y : A) → y ∈ x ∷ xs → before z (key y) ≡ true
after-all {A} {key} {x} {xs} z p h y m =
    ⊎_elim (λ (e : y ≡ x). rw e h) (λ (k : y ∈ xs). before-trans z (key x) (key y) h (ascending-head p y k)) (∈-cases m)

-- Where both lists ascend, each asked id is answered by the byte of the stored one with that id.
pub merge-finds : (xs : List Stored) (is : List Id) → Ascending id_of xs → Ascending (λ (i : Id). i) is → (merge xs is).answers ≡ map (byte_for xs) is
merge-finds =
    along (λ xs is. Ascending id_of xs → Ascending (λ (i : Id). i) is → (merge xs is).answers ≡ map (byte_for xs) is)
    (λ is p q. rw (merge-stored-end is) (map-cong (λ (i : Id). unknown_byte) (byte_for []) is (λ i m. sym (byte_for-unknown [] i (λ x n. absurd (Memᴰ.not-nil n))))))
    (λ xs p q. rw (merge-asked-end xs))
    (λ x xs i is e h k p q.
    rw (merge_less x xs i is e)
    (k (ascending-tail p) q ∙ map-cong (byte_for xs) (byte_for (x ∷ xs)) (i ∷ is) (λ j m. sym (byte_for-passed x xs j (after-all x.id q h j m)))))
    (λ x xs i is e h k p q.
    rw (merge_equal x xs i is e)
    (ap₂ (λ (b : ℕ) (bs : List ℕ). b ∷ bs)
    (sym (byte_for-found x xs i h))
    (k (ascending-tail p) (ascending-tail q) ∙ map-cong (byte_for xs) (byte_for (x ∷ xs)) is (λ j m. sym (byte_for-passed x xs j (rw h (ascending-head q j m)))))))
    (λ x xs i is e h k p q.
    rw (merge_greater x xs i is e) (ap₂ (λ (b : ℕ) (bs : List ℕ). b ∷ bs) (sym (byte_for-unknown (x ∷ xs) i (after-all i p h))) (k p (ascending-tail q))))

-- one less than both lists' lengths together, where they are not empty
bound : (xs : List Stored) (is : List Id) → (merge xs is).comparisons ≤ length xs + length is - 1
bound =
    along (λ xs is. (merge xs is).comparisons ≤ length xs + length is - 1)
    (λ is. rw (merge-stored-end is) (omega arith))
    (λ xs. rw (merge-asked-end xs) (omega arith))
    (λ x xs i is e h k. rw (merge_less x xs i is e) (omega arith))
    (λ x xs i is e h k. rw (merge_equal x xs i is e) (omega arith))
    (λ x xs i is e h k. rw (merge_greater x xs i is e) (omega arith))

-- "never exceeds stored plus asked", whether the lists ascend or not
pub comparisons-bound : (xs : List Stored) (is : List Id) → (merge xs is).comparisons ≤ length xs + length is
comparisons-bound xs is = omega (arith, bound xs is)

-- The best bound: one less where neither list is empty (and 0 where one is: `none-stored`, `none-asked`).
pub comparisons-best : (x : Stored) (xs : List Stored) (i : Id) (is : List Id) → (merge (x ∷ xs) (i ∷ is)).comparisons < length (x ∷ xs) + length (i ∷ is)
comparisons-best x xs i is = omega (arith, bound (x ∷ xs) (i ∷ is))

pub none-stored : (is : List Id) → (merge [] is).comparisons ≡ 0
none-stored is = rw (merge-stored-end is)

pub none-asked : (xs : List Stored) → (merge xs []).comparisons ≡ 0
none-asked xs = rw (merge-asked-end xs)

-- the byte of a stored id, where no other has that id
pub byte_for-∈ : (xs : List Stored) {x : Stored} (i : Id) → Ascending id_of xs → x ∈ xs → x.id ≡ i → byte_for xs i ≡ x.byte
byte_for-∈ [] i p m e = absurd (Memᴰ.not-nil m)
byte_for-∈ (y ∷ xs) {x} i p m e =
    ⊎_elim (λ (q : x ≡ y). byte_for-found y xs i (ap id_of (sym q) ∙ e) ∙ ap (λ (z : Stored). z.byte) (sym q))
    (λ (k : x ∈ xs). byte_for-passed y xs i (rw (← e) (ascending-head p x k)) ∙ byte_for-∈ xs i (ascending-tail p) k e)
    (∈-cases m)

-- and where none has it
pub byte_for-none : (xs : List Stored) (i : Id) → ((x : Stored) → x ∈ xs → x.id ≡ i → ⊥) → byte_for xs i ≡ unknown_byte
unfolding byte_for
byte_for-none [] i h = refl
byte_for-none (x ∷ xs) i h = rw (ne→same-false x.id i (h x (Memᴰ.head refl))) (byte_for-none xs i (λ y m. h y (Memᴰ.tail m)))
