-- The laws of lists with distinct keys, and the pigeonhole principle.
use Prim.Native.Nat.{ℕ, zero, suc, ◌≤◌, ◌<◌, zero-le}
use Rattle.std.proofs.Common.{le_antisymm, le_of_suc-le-suc, not-suc-le-zero, arith, ◌∙◌, subst, inl, inr}
use Rattle.std.specs.Prelude.{◌≡◌, ◌⊎◌, Bool, cond, length, get_or}
use Rattle.std.proofs.Math.Path.{refl, sym, ap}
use Rattle.std.proofs.Math.Logic.{⊎_elim}
use mathlib.Core.List.Memᴰ
use mathlib.Core.List.{List, [], ◌∷◌, ◌++◌, map, reverse, reverse_aux}
use Rattle.std.proofs.Math.Bool.{true, false}
use Rattle.std.proofs.lemmas.List.{length-map}
use Rattle.bytes_order.specs.Member.{◌∈◌, keep, SameMembers}
use Rattle.bytes_order.specs.MemberLaws.{∈-cases, ∈-map, map-∈, append-∈, keep-∈, get_or-∈}
use Rattle.bytes_order.specs.Distinct.{Distinct, distinct_nil, distinct_cons, Identifies}

-- a list without one of its positions
module _ {A : Type 0} where
  without : {x : A} {xs : List A} → x ∈ xs → List A
  without (Memᴰ.head {xs = ys} e) = ys
  without (Memᴰ.tail {x = y} m) = y ∷ without m

  without-length : {x : A} {xs : List A} (m : x ∈ xs) → length xs ≡ suc (length (without m))
  unfolding without
  without-length (Memᴰ.head e) = refl
  without-length (Memᴰ.tail m) = ap suc (without-length m)

  ∈-without : {x y : A} {xs : List A} (m : x ∈ xs) → y ∈ xs → (y ≡ x → ⊥) → y ∈ without m
  unfolding without
  ∈-without {x} {y} (Memᴰ.head {x = z} {xs = zs} e) k n = ⊎_elim (λ (q : y ≡ z). absurd (n (q ∙ sym e))) (λ (h : y ∈ zs). h) (∈-cases k)
  ∈-without {x} {y} (Memᴰ.tail {x = z} {xs = zs} m) k n = ⊎_elim (λ (q : y ≡ z). Memᴰ.head q) (λ (h : y ∈ zs). Memᴰ.tail (∈-without m h n)) (∈-cases k)

module _ {A : Type 0} {key : A → List ℕ} where
  pub distinct_head : {x : A} {xs : List A} → Distinct key (x ∷ xs) → (y : A) → y ∈ xs → key x ≡ key y → ⊥
  distinct_head (distinct_cons n d) = n

  pub distinct_tail : {x : A} {xs : List A} → Distinct key (x ∷ xs) → Distinct key xs
  distinct_tail (distinct_cons n d) = d

  -- two members with one key are one
  pub distinct-eq : {x y : A} {xs : List A} → Distinct key xs → x ∈ xs → y ∈ xs → key x ≡ key y → x ≡ y
  distinct-eq distinct_nil m k e = absurd (Memᴰ.not-nil m)
  distinct-eq {x} {y} (distinct_cons {x = z} {xs = zs} n d) m k e = step (∈-cases m) (∈-cases k) (λ (m' : x ∈ zs) (k' : y ∈ zs). distinct-eq d m' k' e)
    where
      step : (x ≡ z) ⊎ (x ∈ zs) → (y ≡ z) ⊎ (y ∈ zs) → (x ∈ zs → y ∈ zs → x ≡ y) → x ≡ y
      step (inl p) (inl q) below = p ∙ sym q
      step (inl p) (inr k') below = absurd (n y k' (ap key (sym p) ∙ e))
      step (inr m') (inl q) below = absurd (n x m' (ap key (sym q) ∙ sym e))
      step (inr m') (inr k') below = below m' k'

  pub distinct-identifies : {xs : List A} → Distinct key xs → Identifies key xs
  distinct-identifies d x y m k e = distinct-eq d m k e

  -- a member stands in one place, and its key in no other
  pub distinct-split : {x : A} {xs : List A} → Distinct key xs → x ∈ xs → (ys zs : List A) × (xs ≡ ys ++ (x ∷ zs)) × ((y : A) → y ∈ ys ++ zs → key y ≡ key x → ⊥)
  distinct-split distinct_nil m = absurd (Memᴰ.not-nil m)
  distinct-split {x} (distinct_cons {x = w} {xs = xs} n d) m = step (∈-cases m) (λ (k : x ∈ xs). distinct-split d k)
    where
      step : (x ≡ w) ⊎ (x ∈ xs) → (x ∈ xs → (ys zs : List A) × (xs ≡ ys ++ (x ∷ zs)) × ((y : A) → y ∈ ys ++ zs → key y ≡ key x → ⊥))
          → (ys zs : List A) × (w ∷ xs ≡ ys ++ (x ∷ zs)) × ((y : A) → y ∈ ys ++ zs → key y ≡ key x → ⊥)
      step (inl e) below = ([], xs, ap (λ (z : A). z ∷ xs) (sym e), λ y k q. n y k (sym (q ∙ ap key e)))
      step (inr k) below =
          let f = below k in (
            w ∷ f.0,
            f.1,
            ap (λ (l : List A). w ∷ l) f.2,
            λ y h q. ⊎_elim (λ (e : y ≡ w). n x k (ap key (sym e) ∙ q)) (λ (j : y ∈ f.0 ++ f.1). f.3 y j q) (∈-cases h),
          )

  -- members with one key stand at one index
  pub distinct-index : {xs : List A} (d : A) → Distinct key xs → (i j : ℕ) → i < length xs → j < length xs
      → key (get_or xs i d) ≡ key (get_or xs j d) → i ≡ j
  distinct-index d distinct_nil i j h g e = absurd (not-suc-le-zero h)
  distinct-index d (distinct_cons n s) zero zero h g e = refl
  distinct-index d (distinct_cons {xs = xs} n s) zero (suc j) h g e = absurd (n (get_or xs j d) (get_or-∈ xs j d (le_of_suc-le-suc g)) e)
  distinct-index d (distinct_cons {xs = xs} n s) (suc i) zero h g e =
      absurd (n (get_or xs i d) (get_or-∈ xs i d (le_of_suc-le-suc h)) (sym e))
  distinct-index d (distinct_cons n s) (suc i) (suc j) h g e =
      ap suc (distinct-index d s i j (le_of_suc-le-suc h) (le_of_suc-le-suc g) e)

  pub distinct-keep : (p : A → Bool) {xs : List A} → Distinct key xs → Distinct key (keep p xs)
  unfolding keep
  distinct-keep p distinct_nil = distinct_nil
  distinct-keep p (distinct_cons {x = x} {xs = xs} n d) = step (p x) (distinct-keep p d)
    where
      step : (b : Bool) → Distinct key (keep p xs) → Distinct key (cond b (x ∷ keep p xs) (keep p xs))
      step true h = distinct_cons (λ y m. n y (keep-∈ p xs m).0) h
      step false h = h

  pub distinct_append : {xs ys : List A} → Distinct key xs → Distinct key ys → ((x y : A) → x ∈ xs → y ∈ ys → key x ≡ key y → ⊥) → Distinct key (xs ++ ys)
  distinct_append distinct_nil e h = e
  distinct_append {ys = ys} (distinct_cons {x = x} {xs = xs} n d) e h =
      distinct_cons (λ y m. ⊎_elim (λ (k : y ∈ xs). n y k) (λ (k : y ∈ ys). h x y (Memᴰ.head refl) k) (append-∈ xs m)) (distinct_append d e (λ a b k. h a b (Memᴰ.tail k)))

  -- the pigeonhole principle: no more elements than keys
  pub distinct-length : {xs : List A} → Distinct key xs → (ks : List (List ℕ)) → ((x : A) → x ∈ xs → key x ∈ ks) → length xs ≤ length ks
  distinct-length distinct_nil ks f = zero-le
  distinct-length (distinct_cons {x = x} {xs = xs} n d) ks f =
      let m : key x ∈ ks = f x (Memᴰ.head refl) in
      let h : length xs ≤ length (without m) = distinct-length d (without m) (λ y k. ∈-without m (f y (Memᴰ.tail k)) (λ e. n y k (sym e))) in
      let e : length ks ≡ suc (length (without m)) = without-length m in
      omega arith

  -- and fewer, where one key is left over
  pub distinct-length-lt : {xs : List A} → Distinct key xs → (ks : List (List ℕ)) → ((x : A) → x ∈ xs → key x ∈ ks) → {k : List ℕ} → k ∈ ks → ((x : A) → x ∈ xs → key x ≡ k → ⊥) → length xs < length ks
  distinct-length-lt {xs} d ks f {k} m n =
      let h : length xs ≤ length (without m) = distinct-length d (without m) (λ y i. ∈-without m (f y i) (n y i)) in
      let e : length ks ≡ suc (length (without m)) = without-length m in
      omega arith

  pub distinct-subset-length : {xs : List A} → Distinct key xs → (ys : List A) → ((x : A) → x ∈ xs → x ∈ ys) → length xs ≤ length ys
  distinct-subset-length {xs} d ys f = subst (λ (n : ℕ). length xs ≤ n) (length-map ys key) (distinct-length d (map key ys) (λ x m. ∈-map key (f x m)))

  pub distinct-same-length : {xs ys : List A} → Distinct key xs → Distinct key ys → SameMembers xs ys → length xs ≡ length ys
  distinct-same-length {xs} {ys} d e s = le_antisymm (distinct-subset-length d ys s.forth) (distinct-subset-length e xs s.back)

-- under a map that keeps keys apart
module _ {A B : Type 0} where
  pub distinct-map : {key : A → List ℕ} (key' : B → List ℕ) (f : A → B) {xs : List A} → Distinct key xs → ((x y : A) → x ∈ xs → y ∈ xs → key' (f x) ≡ key' (f y) → key x ≡ key y) → Distinct key' (map f xs)
  distinct-map key' f distinct_nil h = distinct_nil
  distinct-map key' f (distinct_cons {x = x} {xs = xs} n d) h =
      distinct_cons (λ y m e. let r = map-∈ f xs m in n r.0 r.1 (h x r.0 (Memᴰ.head refl) (Memᴰ.tail r.1) (e ∙ ap key' (sym r.2)))) (distinct-map key' f d (λ a b i j. h a b (Memᴰ.tail i) (Memᴰ.tail j)))

pub distinct-keys : {A : Type 0} (key : A → List ℕ) {xs : List A} → Distinct key xs → Distinct (λ (k : List ℕ). k) (map key xs)
distinct-keys key d = distinct-map (λ k. k) key d (λ x y i j e. e)

-- read backwards, and by another key
module _ {A : Type 0} {key : A → List ℕ} where
  distinct-reverse_aux : {xs r : List A} → Distinct key xs → Distinct key r → ((x y : A) → x ∈ xs → y ∈ r → key x ≡ key y → ⊥) → Distinct key (reverse_aux xs r)
  distinct-reverse_aux distinct_nil d apart = d
  distinct-reverse_aux {r = r} (distinct_cons {x = x} {xs = xs} n e) d apart =
      distinct-reverse_aux e (distinct_cons (λ y m. apart x y (Memᴰ.head refl) m) d)
      (λ a b i j q. ⊎_elim (λ (p : b ≡ x). n a i (sym (q ∙ ap key p))) (λ (k : b ∈ r). apart a b (Memᴰ.tail i) k q) (∈-cases j))

  pub distinct-reverse : {xs : List A} → Distinct key xs → Distinct key (reverse xs)
  distinct-reverse d = distinct-reverse_aux d distinct_nil (λ x y i j q. Memᴰ.not-nil j)

  -- by another key that tells no fewer apart
  pub distinct-rekey : (key' : A → List ℕ) {xs : List A} → Distinct key xs → ((x y : A) → x ∈ xs → y ∈ xs → key' x ≡ key' y → key x ≡ key y) → Distinct key' xs
  distinct-rekey key' distinct_nil h = distinct_nil
  distinct-rekey key' (distinct_cons {x = x} n d) h =
      distinct_cons (λ y m e. n y m (h x y (Memᴰ.head refl) (Memᴰ.tail m) e))
      (distinct-rekey key' d (λ a b i j. h a b (Memᴰ.tail i) (Memᴰ.tail j)))
