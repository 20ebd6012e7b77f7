-- The front of an ascending list, and its front with one of its members for sure; the first member that passes a test.
use Rattle.std.specs.Prelude.{ℕ, zero, suc, ◌≤◌, ◌<◌, ◌≡◌, refl, List, [], ◌∷◌, ◌++◌, map, Bool, true, false, cond, length, get_or, take, ltb}
use Rattle.std.proofs.Common.{suc-le-suc, arith, le_of_suc-le-suc, not-suc-le-zero, sym, ◌∙◌, ap, subst, ⊎_elim, ltb-true, ltb-false}
use mathlib.Core.List.Memᴰ
use Rattle.bytes_order.specs.Order.{before}
use Rattle.bytes_order.specs.Member.{◌∈◌, keep, SameMembers}
use Rattle.bytes_order.specs.Distinct.{Distinct, Identifies}
use Rattle.bytes_order.specs.Ascending.{Ascending, ascending-nil, ascending-cons}
use Rattle.bytes_order.specs.Sort.{sort}
use Rattle.bytes_order.specs.MemberLaws.{∈-cases, ∈-singleton, ∈-append-left, ∈-append-right, append-∈, keep-∈, keep-true, keep-false, keep_all, keep-none, same-members-refl, get_or-∈, ∈-get_or, take-∈}
use Rattle.bytes_order.specs.DistinctLaws.{distinct_head, distinct_tail}
use Rattle.bytes_order.specs.SortLaws.{ascending-head, ascending-tail, ascending-one, ascending-append, ascending-distinct, ascending-identifies, sort-unique}

pub take-map : {A B : Type 0} (f : A → B) (n : ℕ) (xs : List A) → take n (map f xs) ≡ map f (take n xs)
take-map f zero xs = refl
take-map f (suc n) [] = refl
take-map {B = B} f (suc n) (x ∷ xs) = ap (λ (r : List B). f x ∷ r) (take-map f n xs)

module _ {A : Type 0} (p : A → Bool) where
  -- of the members that pass a test the first is the one at the lowest index
  pub first-kept : (xs : List A) (j : ℕ) (d : A) → j < length xs → p (get_or xs j d) ≡ true → ((i : ℕ) → i < j → p (get_or xs i d) ≡ false)
      → take 1 (keep p xs) ≡ get_or xs j d ∷ []
  first-kept [] j d h e f = absurd (not-suc-le-zero h)
  first-kept (x ∷ xs) zero d h e f = ap (take 1) (keep-true p x xs e)
  first-kept (x ∷ xs) (suc j) d h e f =
      ap (take 1) (keep-false p x xs (f 0 (omega arith))) ∙ first-kept xs j d (le_of_suc-le-suc h) e (λ i l. f (suc i) (suc-le-suc l))

  pub none_kept : (xs : List A) (d : A) → ((i : ℕ) → i < length xs → p (get_or xs i d) ≡ false) → keep p xs ≡ []
  none_kept xs d f = keep-none p xs (λ x m. let r = ∈-get_or d m in ap p (sym r.2) ∙ f r.0 r.1)

module _ {A : Type 0} {key : A → List ℕ} where
  pub ascending-take : (n : ℕ) {xs : List A} → Ascending key xs → Ascending key (take n xs)
  ascending-take zero a = ascending-nil
  ascending-take (suc n) ascending-nil = ascending-nil
  ascending-take (suc n) (ascending-cons {xs = xs} h a) = ascending-cons (λ y m. h y (take-∈ n xs m)) (ascending-take n a)

  taken-before : (n : ℕ) (xs : List A) (j : ℕ) (d : A) → Ascending key xs → n ≤ j → j < length xs → (y : A) → y ∈ take n xs
      → before (key y) (key (get_or xs j d)) ≡ true
  taken-before zero xs j d a h l y m = absurd (Memᴰ.not-nil m)
  taken-before (suc n) [] j d a h l y m = absurd (Memᴰ.not-nil m)
  taken-before (suc n) (x ∷ xs) zero d a h l y m = absurd (not-suc-le-zero h)
  taken-before (suc n) (x ∷ xs) (suc j) d a h l y m =
      ⊎_elim
      (λ (q : y ≡ x).
      subst (λ (z : A). before (key z) (key (get_or xs j d)) ≡ true) (sym q) (ascending-head a (get_or xs j d) (get_or-∈ xs j d (le_of_suc-le-suc l))))
      (λ (k : y ∈ take n xs). taken-before n xs j d (ascending-tail a) (le_of_suc-le-suc h) (le_of_suc-le-suc l) y k) (∈-cases m)

  -- the first n members and a later one
  pub front-ascending : (n : ℕ) {xs : List A} (j : ℕ) (d : A) → Ascending key xs → n ≤ j → j < length xs → Ascending key (take n xs ++ (get_or xs j d ∷ []))
  front-ascending n {xs} j d a h l =
      ascending-append (ascending-take n a) ascending-one
      (λ y z m k. subst (λ (w : A). before (key y) (key w) ≡ true) (sym (∈-singleton k)) (taken-before n xs j d a h l y m))

  -- x is the member at index j, and all but it pass p
  module _ (p : A → Bool) (x d : A) (without : p x ≡ false) (others : (y : A) → (key y ≡ key x → ⊥) → p y ≡ true) where
    passes : {y : A} {ys : List A} (j : ℕ) → Distinct key (y ∷ ys) → j < length ys → get_or ys j d ≡ x → p y ≡ true
    passes {y} {ys} j c h e = others y (λ q. distinct_head c (get_or ys j d) (get_or-∈ ys j d h) (q ∙ ap key (sym e)))

    late : (n : ℕ) (xs : List A) (j : ℕ) → Distinct key xs → n ≤ j → j < length xs → get_or xs j d ≡ x → take n (keep p xs) ≡ take n xs
    late zero xs j c l h e = refl
    late (suc n) [] j c l h e = absurd (not-suc-le-zero h)
    late (suc n) (y ∷ ys) zero c l h e = absurd (not-suc-le-zero l)
    late (suc n) (y ∷ ys) (suc j) c l h e =
        ap (take (suc n)) (keep-true p y ys (passes j c (le_of_suc-le-suc h) e))
        ∙ ap (λ (r : List A). y ∷ r) (late n ys j (distinct_tail c) (le_of_suc-le-suc l) (le_of_suc-le-suc h) e)

    exchange : (y : A) {zs ws : List A} → SameMembers (x ∷ zs) ws → SameMembers (x ∷ y ∷ zs) (y ∷ ws)
    exchange y {zs} {ws} s = record {
      forth = λ z m.
          ⊎_elim (λ (q : z ≡ x). Memᴰ.tail (s.forth z (Memᴰ.head q)))
          (λ (k : z ∈ y ∷ zs).
          ⊎_elim (λ (q : z ≡ y). Memᴰ.head q) (λ (i : z ∈ zs). Memᴰ.tail (s.forth z (Memᴰ.tail i))) (∈-cases k)) (∈-cases m);
      back = λ z m.
          ⊎_elim (λ (q : z ≡ y). Memᴰ.tail (Memᴰ.head q))
          (λ (k : z ∈ ws).
          ⊎_elim (λ (q : z ≡ x). Memᴰ.head q) (λ (i : z ∈ zs). Memᴰ.tail (Memᴰ.tail i)) (∈-cases (s.back z k))) (∈-cases m);
    }

    early : (n : ℕ) (xs : List A) (j : ℕ) → Distinct key xs → j ≤ n → j < length xs → get_or xs j d ≡ x
        → SameMembers (x ∷ take n (keep p xs)) (take (suc n) xs)
    early n [] j c l h e = absurd (not-suc-le-zero h)
    early n (y ∷ ys) zero c l h e =
        let rest : keep p (y ∷ ys) ≡ ys =
        keep-false p y ys (ap p e ∙ without) ∙ keep_all p ys (λ z m. others z (λ q. distinct_head c z m (ap key e ∙ sym q))) in
        subst (λ (r : List A). SameMembers r (y ∷ take n ys)) (λ i. e i ∷ take n (sym rest i)) (same-members-refl (y ∷ take n ys))
    early zero (y ∷ ys) (suc j) c l h e = absurd (not-suc-le-zero l)
    early (suc n) (y ∷ ys) (suc j) c l h e =
        subst (λ (r : List A). SameMembers (x ∷ take (suc n) r) (y ∷ take (suc n) ys)) (sym (keep-true p y ys (passes j c (le_of_suc-le-suc h) e)))
        (exchange y (early n ys j (distinct_tail c) (le_of_suc-le-suc l) (le_of_suc-le-suc h) e))

    -- x and the first n others, ascending
    pub front-with : (n : ℕ) {xs : List A} (j : ℕ) → Ascending key xs → j < length xs → get_or xs j d ≡ x
        → sort key (x ∷ take n (keep p xs)) ≡ cond (ltb j (suc n)) (take (suc n) xs) (take n xs ++ (x ∷ []))
    front-with n {xs} j a h e = step (ltb j (suc n)) refl
      where
        member_of : {y : A} → y ∈ x ∷ take n (keep p xs) → y ∈ xs
        member_of {y} m =
            ⊎_elim (λ (q : y ≡ x). subst (λ (z : A). z ∈ xs) (e ∙ sym q) (get_or-∈ xs j d h))
            (λ (k : y ∈ take n (keep p xs)). (keep-∈ p xs (take-∈ n (keep p xs) k)).0) (∈-cases m)

        one : Identifies key (x ∷ take n (keep p xs))
        one y z m k = ascending-identifies a y z (member_of m) (member_of k)

        last : n ≤ j → SameMembers (x ∷ take n (keep p xs)) (take n xs ++ (x ∷ []))
        last l =
            let same : take n (keep p xs) ≡ take n xs = late n xs j (ascending-distinct a) l h e in
            record {
              forth = λ y m.
                  ⊎_elim (λ (q : y ≡ x). ∈-append-right (take n xs) (Memᴰ.head q))
                  (λ (k : y ∈ take n (keep p xs)). ∈-append-left (x ∷ []) (subst (λ (r : List A). y ∈ r) same k)) (∈-cases m);
              back = λ y m.
                  ⊎_elim (λ (k : y ∈ take n xs). Memᴰ.tail (subst (λ (r : List A). y ∈ r) (sym same) k))
                  (λ (k : y ∈ x ∷ []). Memᴰ.head (∈-singleton k)) (append-∈ (take n xs) m);
            }

        step : (b : Bool) → ltb j (suc n) ≡ b → sort key (x ∷ take n (keep p xs)) ≡ cond b (take (suc n) xs) (take n xs ++ (x ∷ []))
        step true q =
            sort-unique key one (ascending-take (suc n) a) (early n xs j (ascending-distinct a) (le_of_suc-le-suc (ltb-true j (suc n) q)) h e)
        step false q =
            let l : n ≤ j = let g = ltb-false j (suc n) q in omega arith in
            sort-unique key one (subst (λ (w : A). Ascending key (take n xs ++ (w ∷ []))) e (front-ascending n j d a l h)) (last l)
