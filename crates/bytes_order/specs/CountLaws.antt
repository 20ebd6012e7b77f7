-- How many: the members that pass a test, those that pass one of three tests, and the elements of lists one after another.
use Prim.Native.Nat.{ℕ, suc, ◌*◌, ◌+◌, ◌<◌, ◌≤◌, suc-le-suc, zero-le}
use Rattle.std.proofs.Common.{le_of_eq, le_of_lt, le_trans, sym, ap, subst, inl, inr, ⊎_elim}
use Rattle.std.proofs.Math.Nat.{mul-suc}
use native.Mathlib.Omega.{arith}
use Rattle.std.specs.Prelude.{◌≡◌, refl, ◌⊎◌, Bool, cond}
use mathlib.Core.List.Memᴰ
use mathlib.Core.List.{List, [], ◌∷◌, ◌++◌, map}
use Rattle.std.proofs.Math.Bool.{true, false}
use Rattle.std.proofs.Math.ListN.{length, length-append}
use Rattle.bytes_order.specs.Member.{◌∈◌, keep, concat_map}
use Rattle.bytes_order.specs.MemberLaws.{keep-false, keep-true, keep-length}

module _ {A : Type 0} where
  -- how many members pass a test
  abbrev pub count_members : (A → Bool) → List A → ℕ
  count_members p xs = length (keep p xs)

  count-cons : (p : A → Bool) (x : A) (xs ys : List A) → count_members p xs < count_members p ys → count_members p (x ∷ xs) < count_members p (x ∷ ys)
  unfolding keep
  count-cons p x xs ys l = step (p x)
    where
      step : (b : Bool) → length (cond b (x ∷ keep p xs) (keep p xs)) < length (cond b (x ∷ keep p ys) (keep p ys))
      step true = suc-le-suc l
      step false = l

  -- a map that leaves each member or makes it fail a test that it passed leaves the list or lowers the count
  pub map-lowers : (p : A → Bool) (f : A → A) → ((x : A) → (f x ≡ x) ⊎ ((p x ≡ true) × (p (f x) ≡ false)))
      → (xs : List A) → (map f xs ≡ xs) ⊎ (count_members p (map f xs) < count_members p xs)
  map-lowers p f h [] = inl refl
  map-lowers p f h (x ∷ xs) = step (h x) (map-lowers p f h xs)
    where
      step : (f x ≡ x) ⊎ ((p x ≡ true) × (p (f x) ≡ false)) → (map f xs ≡ xs) ⊎ (count_members p (map f xs) < count_members p xs)
          → (f x ∷ map f xs ≡ x ∷ xs) ⊎ (count_members p (f x ∷ map f xs) < count_members p (x ∷ xs))
      step (inl e) (inl d) = inl (λ i. e i ∷ d i)
      step (inl e) (inr l) = inr (subst (λ (y : A). count_members p (y ∷ map f xs) < count_members p (x ∷ xs)) (sym e) (count-cons p x (map f xs) xs l))
      step (inr g) d =
          let l : count_members p (map f xs) ≤ count_members p xs =
          ⊎_elim (λ (e : map f xs ≡ xs). le_of_eq (ap (count_members p) e)) (λ (k : count_members p (map f xs) < count_members p xs). le_of_lt k) d in
          inr (rw (keep-false p (f x) (map f xs) g.1, keep-true p x xs g.0) (suc-le-suc l))

-- one where a test is passed
abbrev pub one_if : Bool → ℕ
one_if true = 1
one_if false = 0

module _ {A : Type 0} where
  keep-cons-length : (p : A → Bool) (x : A) (xs : List A) → length (keep p (x ∷ xs)) ≡ one_if (p x) + length (keep p xs)
  unfolding keep
  keep-cons-length p x xs = step (p x)
    where
      step : (b : Bool) → length (cond b (x ∷ keep p xs) (keep p xs)) ≡ one_if b + length (keep p xs)
      step true = omega arith
      step false = omega arith

  -- of three tests each member passes one at most, and none where it fails a fourth
  pub keep-apart-length : (p q r t : A → Bool) (xs : List A) → ((x : A) → one_if (p x) + one_if (q x) + one_if (r x) ≤ one_if (t x))
      → length (keep p xs) + length (keep q xs) + length (keep r xs) ≤ length (keep t xs)
  unfolding keep
  keep-apart-length p q r t [] h = zero-le
  keep-apart-length p q r t (x ∷ xs) h =
      omega (
        arith,
        h x,
        keep-cons-length p x xs,
        keep-cons-length q x xs,
        keep-cons-length r x xs,
        keep-cons-length t x xs,
        keep-apart-length p q r t xs h,
      )

  pub keep-three-length : (p q r : A → Bool) (xs : List A) → ((x : A) → one_if (p x) + one_if (q x) + one_if (r x) ≤ 1)
      → length (keep p xs) + length (keep q xs) + length (keep r xs) ≤ length xs
  keep-three-length p q r xs h = le_trans (keep-apart-length p q r (λ (x : A). true) xs h) (keep-length (λ (x : A). true) xs)

module _ {A B : Type 0} where
  -- lists of at most k elements each
  pub concat_map-length : (f : A → List B) (k : ℕ) (xs : List A) → ((x : A) → x ∈ xs → length (f x) ≤ k) → length (concat_map f xs) ≤ k * length xs
  unfolding concat_map
  concat_map-length f k [] h = zero-le
  concat_map-length f k (x ∷ xs) h =
      let a : length (f x) ≤ k = h x (Memᴰ.head refl) in
      let b : length (concat_map f xs) ≤ k * length xs = concat_map-length f k xs (λ y m. h y (Memᴰ.tail m)) in
      let e : length (f x ++ concat_map f xs) ≡ length (f x) + length (concat_map f xs) = length-append (f x) (concat_map f xs) in
      let s : k * suc (length xs) ≡ k * length xs + k = mul-suc k (length xs) in
      omega arith

  -- a part of the lists
  pub keep-concat_map-length : (f : A → List B) (p : A → Bool) (xs : List A) → length (concat_map f (keep p xs)) ≤ length (concat_map f xs)
  unfolding concat_map keep
  keep-concat_map-length f p [] = zero-le
  keep-concat_map-length f p (x ∷ xs) = step (p x) (keep-concat_map-length f p xs) (length-append (f x) (concat_map f xs)) (length-append (f x) (concat_map f (keep p xs)))
    where
      step : (b : Bool) → length (concat_map f (keep p xs)) ≤ length (concat_map f xs)
          → length (f x ++ concat_map f xs) ≡ length (f x) + length (concat_map f xs)
          → length (f x ++ concat_map f (keep p xs)) ≡ length (f x) + length (concat_map f (keep p xs))
          → length (concat_map f (cond b (x ∷ keep p xs) (keep p xs))) ≤ length (f x ++ concat_map f xs)
      step true h e e' = omega arith
      step false h e e' = omega arith
