-- The laws of membership, and of the operations on lists as sets.
use Prim.Native.Nat.{ℕ, zero, suc, ◌≤◌, ◌<◌, zero-le, suc-le-suc}
use Rattle.std.proofs.Common.{le_of_suc-le-suc, not-suc-le-zero, ◌∙◌, subst, inl, inr, take-append-drop}
use native.Mathlib.Omega.{arith}
use Rattle.std.specs.Prelude.{◌≡◌, ◌⊎◌, Bool, ◌&&◌, get_or, take, drop}
use Rattle.std.proofs.Math.Path.{refl, sym, ap}
use Rattle.std.proofs.Math.Logic.{⊎_elim}
use mathlib.Core.List.Memᴰ
use mathlib.Core.List.{List, [], ◌∷◌, ◌++◌, map, reverse, reverse_aux, append_assoc, nil≢cons, cons≢nil, head-eq_of_cons-eq, tail-eq_of_cons-eq}
use Rattle.std.proofs.Math.Bool.{true, false, cond}
use Rattle.std.proofs.lemmas.Bool.{false≢true}
use Rattle.std.proofs.Math.ListN.{length}
use Rattle.bytes_order.specs.Order.{same}
use Rattle.bytes_order.specs.Member.{◌∈◌, member, keep, any, all, SameMembers, concat_map}
use Rattle.bytes_order.specs.BoolLaws.{true-false, not-true→false, or-true→, or_left, or_right, and-true→, and-true}
use Rattle.bytes_order.specs.OrderLaws.{same→eq, eq→same}
-- membership in a cons, in ++ and in a map; a member replaced by an equal one
pub use mathlib.Core.List.Memᴰ.{cases_cons as ∈-cases}
pub use mathlib.Core.List.Memᴰ.{cast as ∈-cast}
pub use mathlib.Core.List.Memᴰ.{eq_of_singleton as ∈-singleton}
pub use mathlib.Core.List.Memᴰ.{append_cases as append-∈}
pub use mathlib.Core.List.Memᴰ.{append_left as ∈-append-left}
pub use mathlib.Core.List.Memᴰ.{append_right as ∈-append-right}
pub use mathlib.Core.List.Memᴰ.{map as ∈-map}
pub use mathlib.Core.List.Memᴰ.{of_map as map-∈}

-- member
pub ∈→member : {x : List ℕ} {xs : List (List ℕ)} → x ∈ xs → member x xs ≡ true
unfolding member
∈→member {x} (Memᴰ.head {x = y} {xs = ys} e) = or_left (same x y) (member x ys) (eq→same x y e)
∈→member {x} (Memᴰ.tail {x = y} {xs = ys} m) = or_right (same x y) (member x ys) (∈→member m)

pub member→∈ : (x : List ℕ) (xs : List (List ℕ)) → member x xs ≡ true → x ∈ xs
unfolding member
member→∈ x [] e = absurd (false≢true e)
member→∈ x (y ∷ ys) e = ⊎_elim (λ (h : same x y ≡ true). Memᴰ.head (same→eq x y h)) (λ (h : member x ys ≡ true). Memᴰ.tail (member→∈ x ys h)) (or-true→ (same x y) (member x ys) e)

pub member-false→ : {x : List ℕ} {xs : List (List ℕ)} → member x xs ≡ false → x ∈ xs → ⊥
member-false→ e m = true-false (∈→member m) e

pub member-false : (x : List ℕ) (xs : List (List ℕ)) → (x ∈ xs → ⊥) → member x xs ≡ false
member-false x xs n = not-true→false (member x xs) (λ e. n (member→∈ x xs e))

module _ {A : Type 0} where
  -- SameMembers is an equivalence
  pub same-members-refl : (xs : List A) → SameMembers xs xs
  same-members-refl xs = record { forth = λ x m. m; back = λ x m. m }

  pub same-members-sym : {xs ys : List A} → SameMembers xs ys → SameMembers ys xs
  same-members-sym s = record { forth = s.back; back = s.forth }

  pub same-members-trans : {xs ys zs : List A} → SameMembers xs ys → SameMembers ys zs → SameMembers xs zs
  same-members-trans s t = record { forth = λ x m. t.forth x (s.forth x m); back = λ x m. s.back x (t.back x m) }

  -- keep
  pub keep-true : (p : A → Bool) (x : A) (xs : List A) → p x ≡ true → keep p (x ∷ xs) ≡ x ∷ keep p xs
  unfolding keep
  keep-true p x xs e = ap (λ (b : Bool). cond b (x ∷ keep p xs) (keep p xs)) e

  pub keep-false : (p : A → Bool) (x : A) (xs : List A) → p x ≡ false → keep p (x ∷ xs) ≡ keep p xs
  unfolding keep
  keep-false p x xs e = ap (λ (b : Bool). cond b (x ∷ keep p xs) (keep p xs)) e

  pub ∈-keep : (p : A → Bool) {x : A} {xs : List A} → x ∈ xs → p x ≡ true → x ∈ keep p xs
  unfolding keep
  ∈-keep p {x} (Memᴰ.head {x = y} {xs = ys} e) h = step (p y) (ap p (sym e) ∙ h)
    where
      step : (b : Bool) → b ≡ true → x ∈ cond b (y ∷ keep p ys) (keep p ys)
      step true q = Memᴰ.head e
      step false q = absurd (false≢true q)
  ∈-keep p {x} (Memᴰ.tail {x = y} {xs = ys} m) h = step (p y) (∈-keep p m h)
    where
      step : (b : Bool) → x ∈ keep p ys → x ∈ cond b (y ∷ keep p ys) (keep p ys)
      step true m = Memᴰ.tail m
      step false m = m

  pub keep-∈ : (p : A → Bool) (xs : List A) {x : A} → x ∈ keep p xs → (x ∈ xs) × (p x ≡ true)
  unfolding keep
  keep-∈ p [] m = absurd (Memᴰ.not-nil m)
  keep-∈ p (y ∷ ys) {x} m = step (p y) refl m (λ (m' : x ∈ keep p ys). keep-∈ p ys m')
    where
      step : (b : Bool) → p y ≡ b → x ∈ cond b (y ∷ keep p ys) (keep p ys) → (x ∈ keep p ys → (x ∈ ys) × (p x ≡ true)) → (x ∈ y ∷ ys) × (p x ≡ true)
      step true e m below = ⊎_elim (λ (q : x ≡ y). (Memᴰ.head q, ap p q ∙ e)) (λ (m' : x ∈ keep p ys). let r = below m' in (Memᴰ.tail r.0, r.1)) (∈-cases m)
      step false e m below = let r = below m in (Memᴰ.tail r.0, r.1)

  pub keep-cong : (p q : A → Bool) (xs : List A) → ((x : A) → x ∈ xs → p x ≡ q x) → keep p xs ≡ keep q xs
  unfolding keep
  keep-cong p q [] h = refl
  keep-cong p q (y ∷ ys) h = λ i. cond (h y (Memᴰ.head refl) i) (y ∷ keep-cong p q ys (λ x m. h x (Memᴰ.tail m)) i) (keep-cong p q ys (λ x m. h x (Memᴰ.tail m)) i)

  pub keep-length : (p : A → Bool) (xs : List A) → length (keep p xs) ≤ length xs
  unfolding keep
  keep-length p [] = zero-le
  keep-length p (y ∷ ys) = step (p y) (keep-length p ys)
    where
      step : (b : Bool) → length (keep p ys) ≤ length ys → length (cond b (y ∷ keep p ys) (keep p ys)) ≤ length (y ∷ ys)
      step true h = suc-le-suc h
      step false h = omega arith

  pub keep_append : (p : A → Bool) (xs ys : List A) → keep p (xs ++ ys) ≡ keep p xs ++ keep p ys
  unfolding keep
  keep_append p [] ys = refl
  keep_append p (x ∷ xs) ys = step (p x) (keep_append p xs ys)
    where
      step : (b : Bool) → keep p (xs ++ ys) ≡ keep p xs ++ keep p ys → cond b (x ∷ keep p (xs ++ ys)) (keep p (xs ++ ys)) ≡ cond b (x ∷ keep p xs) (keep p xs) ++ keep p ys
      step true e = ap (λ (l : List A). x ∷ l) e
      step false e = e

  pub keep_all : (p : A → Bool) (xs : List A) → ((x : A) → x ∈ xs → p x ≡ true) → keep p xs ≡ xs
  unfolding keep
  keep_all p [] h = refl
  keep_all p (x ∷ xs) h = keep-true p x xs (h x (Memᴰ.head refl)) ∙ ap (λ (l : List A). x ∷ l) (keep_all p xs (λ y m. h y (Memᴰ.tail m)))

  pub keep-none : (p : A → Bool) (xs : List A) → ((x : A) → x ∈ xs → p x ≡ false) → keep p xs ≡ []
  unfolding keep
  keep-none p [] h = refl
  keep-none p (x ∷ xs) h = keep-false p x xs (h x (Memᴰ.head refl)) ∙ keep-none p xs (λ y m. h y (Memᴰ.tail m))

  -- any
  pub any→∈ : (p : A → Bool) (xs : List A) → any p xs ≡ true → (x : A) × (x ∈ xs) × (p x ≡ true)
  unfolding any
  any→∈ p [] e = absurd (false≢true e)
  any→∈ p (y ∷ ys) e = step (or-true→ (p y) (any p ys) e) (any→∈ p ys)
    where
      step : (p y ≡ true) ⊎ (any p ys ≡ true) → (any p ys ≡ true → (x : A) × (x ∈ ys) × (p x ≡ true)) → (x : A) × (x ∈ y ∷ ys) × (p x ≡ true)
      step (inl h) below = (y, Memᴰ.head refl, h)
      step (inr h) below = let r = below h in (r.0, Memᴰ.tail r.1, r.2)

  pub ∈→any : (p : A → Bool) {x : A} {xs : List A} → x ∈ xs → p x ≡ true → any p xs ≡ true
  unfolding any
  ∈→any p (Memᴰ.head {x = y} {xs = ys} e) h = or_left (p y) (any p ys) (ap p (sym e) ∙ h)
  ∈→any p (Memᴰ.tail {x = y} {xs = ys} m) h = or_right (p y) (any p ys) (∈→any p m h)

  pub any-false→ : (p : A → Bool) (xs : List A) → any p xs ≡ false → (x : A) → x ∈ xs → p x ≡ false
  any-false→ p xs e x m = not-true→false (p x) (λ h. true-false (∈→any p m h) e)

  pub any_false : (p : A → Bool) (xs : List A) → ((x : A) → x ∈ xs → p x ≡ false) → any p xs ≡ false
  any_false p xs h = not-true→false (any p xs) (λ e. let r = any→∈ p xs e in true-false r.2 (h r.0 r.1))

  -- all
  pub all→∈ : (p : A → Bool) (xs : List A) → all p xs ≡ true → (x : A) → x ∈ xs → p x ≡ true
  unfolding all
  all→∈ p [] e x m = absurd (Memᴰ.not-nil m)
  all→∈ p (y ∷ ys) e x m = let h = and-true→ (p y) (all p ys) e in ⊎_elim (λ (q : x ≡ y). ap p q ∙ h.0) (λ (m' : x ∈ ys). all→∈ p ys h.1 x m') (∈-cases m)

  pub ∈→all : (p : A → Bool) (xs : List A) → ((x : A) → x ∈ xs → p x ≡ true) → all p xs ≡ true
  unfolding all
  ∈→all p [] h = refl
  ∈→all p (y ∷ ys) h = and-true (p y) (all p ys) (h y (Memᴰ.head refl)) (∈→all p ys (λ x m. h x (Memᴰ.tail m)))

  pub all-cong : (p q : A → Bool) (xs : List A) → ((x : A) → x ∈ xs → p x ≡ q x) → all p xs ≡ all q xs
  unfolding all
  all-cong p q [] h = refl
  all-cong p q (y ∷ ys) h = λ i. h y (Memᴰ.head refl) i && all-cong p q ys (λ x m. h x (Memᴰ.tail m)) i

  -- reverse
  ∈-reverse_aux-right : (xs : List A) {x : A} {r : List A} → x ∈ r → x ∈ reverse_aux xs r
  ∈-reverse_aux-right [] m = m
  ∈-reverse_aux-right (y ∷ ys) m = ∈-reverse_aux-right ys (Memᴰ.tail m)

  ∈-reverse_aux : {x : A} {xs : List A} (r : List A) → x ∈ xs → x ∈ reverse_aux xs r
  ∈-reverse_aux r (Memᴰ.head {x = y} {xs = ys} e) = ∈-reverse_aux-right ys (Memᴰ.head e)
  ∈-reverse_aux r (Memᴰ.tail {x = y} {xs = ys} m) = ∈-reverse_aux (y ∷ r) m

  reverse_aux-∈ : (xs : List A) {x : A} (r : List A) → x ∈ reverse_aux xs r → (x ∈ xs) ⊎ (x ∈ r)
  reverse_aux-∈ [] r m = inr m
  reverse_aux-∈ (y ∷ ys) {x} r m = ⊎_elim (λ (h : x ∈ ys). inl (Memᴰ.tail h)) (λ (h : x ∈ y ∷ r). ⊎_elim (λ (e : x ≡ y). inl (Memᴰ.head e)) (λ (k : x ∈ r). inr k) (∈-cases h)) (reverse_aux-∈ ys (y ∷ r) m)

  pub ∈-reverse : {x : A} {xs : List A} → x ∈ xs → x ∈ reverse xs
  ∈-reverse m = ∈-reverse_aux [] m

  pub reverse-∈ : (xs : List A) {x : A} → x ∈ reverse xs → x ∈ xs
  reverse-∈ xs {x} m = ⊎_elim (λ (h : x ∈ xs). h) (λ (h : x ∈ []). absurd (Memᴰ.not-nil h)) (reverse_aux-∈ xs [] m)

  -- members by their indices
  pub get_or-∈ : (xs : List A) (k : ℕ) (d : A) → k < length xs → get_or xs k d ∈ xs
  get_or-∈ [] k d h = absurd (not-suc-le-zero h)
  get_or-∈ (x ∷ xs) zero d h = Memᴰ.head refl
  get_or-∈ (x ∷ xs) (suc k) d h = Memᴰ.tail (get_or-∈ xs k d (le_of_suc-le-suc h))

  pub ∈-get_or : {x : A} {xs : List A} (d : A) → x ∈ xs → (k : ℕ) × (k < length xs) × (get_or xs k d ≡ x)
  ∈-get_or d (Memᴰ.head e) = (0, suc-le-suc zero-le, sym e)
  ∈-get_or d (Memᴰ.tail m) = let r = ∈-get_or d m in (suc r.0, suc-le-suc r.1, r.2)

module _ {A B : Type 0} where
  -- concat_map
  pub ∈-concat_map : (f : A → List B) {x : A} {xs : List A} {y : B} → x ∈ xs → y ∈ f x → y ∈ concat_map f xs
  unfolding concat_map
  ∈-concat_map f {y = y} (Memᴰ.head {x = z} {xs = zs} e) m = ∈-append-left (concat_map f zs) (subst (λ (w : A). y ∈ f w) e m)
  ∈-concat_map f (Memᴰ.tail {x = z} {xs = zs} n) m = ∈-append-right (f z) (∈-concat_map f n m)

  pub concat_map-∈ : (f : A → List B) (xs : List A) {y : B} → y ∈ concat_map f xs → (x : A) × (x ∈ xs) × (y ∈ f x)
  unfolding concat_map
  concat_map-∈ f [] m = absurd (Memᴰ.not-nil m)
  concat_map-∈ f (z ∷ zs) {y} m = step (append-∈ (f z) m) (λ (m' : y ∈ concat_map f zs). concat_map-∈ f zs m')
    where
      step : (y ∈ f z) ⊎ (y ∈ concat_map f zs) → (y ∈ concat_map f zs → (x : A) × (x ∈ zs) × (y ∈ f x)) → (x : A) × (x ∈ z ∷ zs) × (y ∈ f x)
      step (inl h) below = (z, Memᴰ.head refl, h)
      step (inr h) below = let r = below h in (r.0, Memᴰ.tail r.1, r.2)

  pub concat_map-cong : (f g : A → List B) (xs : List A) → ((x : A) → x ∈ xs → f x ≡ g x) → concat_map f xs ≡ concat_map g xs
  unfolding concat_map
  concat_map-cong f g [] h = refl
  concat_map-cong f g (z ∷ zs) h = λ i. h z (Memᴰ.head refl) i ++ concat_map-cong f g zs (λ x m. h x (Memᴰ.tail m)) i

  pub concat_map-append : (f : A → List B) (xs ys : List A) → concat_map f (xs ++ ys) ≡ concat_map f xs ++ concat_map f ys
  unfolding concat_map
  concat_map-append f [] ys = refl
  concat_map-append f (z ∷ zs) ys = ap (λ (l : List B). f z ++ l) (concat_map-append f zs ys) ∙ sym (append_assoc (f z) (concat_map f zs) (concat_map f ys))

  -- map
  pub map-cong : (f g : A → B) (xs : List A) → ((x : A) → x ∈ xs → f x ≡ g x) → map f xs ≡ map g xs
  map-cong f g [] h = refl
  map-cong f g (x ∷ xs) h = λ i. h x (Memᴰ.head refl) i ∷ map-cong f g xs (λ y m. h y (Memᴰ.tail m)) i

  -- what tells the members of two lists apart tells the lists apart
  pub map_injective : (f : A → B) (xs ys : List A) → ((x y : A) → x ∈ xs → y ∈ ys → f x ≡ f y → x ≡ y) → map f xs ≡ map f ys → xs ≡ ys
  map_injective f [] [] h q = refl
  map_injective f [] (y ∷ ys) h q = absurd (nil≢cons q)
  map_injective f (x ∷ xs) [] h q = absurd (cons≢nil q)
  map_injective f (x ∷ xs) (y ∷ ys) h q =
      let first = h x y (Memᴰ.head refl) (Memᴰ.head refl) (head-eq_of_cons-eq q) in
      let rest = map_injective f xs ys (λ v w m n. h v w (Memᴰ.tail m) (Memᴰ.tail n)) (tail-eq_of_cons-eq q) in
      λ i. first i ∷ rest i

  pub keep-map : (p : B → Bool) (f : A → B) (xs : List A) → keep p (map f xs) ≡ map f (keep (λ x. p (f x)) xs)
  unfolding keep
  keep-map p f [] = refl
  keep-map p f (x ∷ xs) = step (p (f x)) (keep-map p f xs)
    where
      step : (b : Bool) → keep p (map f xs) ≡ map f (keep (λ y. p (f y)) xs) → cond b (f x ∷ keep p (map f xs)) (keep p (map f xs)) ≡ map f (cond b (x ∷ keep (λ y. p (f y)) xs) (keep (λ y. p (f y)) xs))
      step true e = ap (λ (l : List B). f x ∷ l) e
      step false e = e

-- if each member gives P or Q, then all give P, or Q holds
pub all-or : {A : Type 0} {P : A → Type 0} {Q : Type 0} (xs : List A) → ((x : A) → x ∈ xs → P x ⊎ Q) → ((x : A) → x ∈ xs → P x) ⊎ Q
all-or [] f = inl (λ x m. absurd (Memᴰ.not-nil m))
all-or {A} {P} {Q} (y ∷ ys) f = step (f y (Memᴰ.head refl)) (all-or ys (λ x m. f x (Memᴰ.tail m)))
  where
    step : P y ⊎ Q → ((x : A) → x ∈ ys → P x) ⊎ Q → ((x : A) → x ∈ (y ∷ ys) → P x) ⊎ Q
    step (inl p) (inl g) = inl (λ x m. ⊎_elim (λ (e : x ≡ y). subst P (sym e) p) (λ (n : x ∈ ys). g x n) (∈-cases m))
    step (inl p) (inr q) = inr q
    step (inr q) h = inr q

-- the first members
module _ {A : Type 0} where
  pub take-∈ : (n : ℕ) (xs : List A) {x : A} → x ∈ take n xs → x ∈ xs
  take-∈ n xs {x} m = subst (λ (ys : List A). x ∈ ys) (take-append-drop n xs) (∈-append-left (drop n xs) m)

  -- the members of a short front are taken
  pub front-∈ : (n : ℕ) (xs ys : List A) {x : A} → length xs ≤ n → x ∈ xs → x ∈ take n (xs ++ ys)
  front-∈ n [] ys h m = absurd (Memᴰ.not-nil m)
  front-∈ zero (y ∷ xs) ys h m = absurd (not-suc-le-zero h)
  front-∈ (suc n) (y ∷ xs) ys {x} h m =
      ⊎_elim (λ (e : x ≡ y). Memᴰ.head e) (λ (k : x ∈ xs). Memᴰ.tail (front-∈ n xs ys (le_of_suc-le-suc h) k)) (∈-cases m)

  -- some are taken of a list with a member
  pub some_taken : (n : ℕ) {xs : List A} {x : A} → x ∈ xs → (y : A) × (y ∈ take (suc n) xs)
  some_taken n (Memᴰ.head {x = y} e) = (y, Memᴰ.head refl)
  some_taken n (Memᴰ.tail {x = y} m) = (y, Memᴰ.head refl)

-- lists under a map
module _ {A B C : Type 0} where
  pub concat_map-map : (g : B → List C) (f : A → B) (xs : List A) → concat_map g (map f xs) ≡ concat_map (λ (x : A). g (f x)) xs
  unfolding concat_map
  concat_map-map g f [] = refl
  concat_map-map g f (x ∷ xs) = ap (λ (r : List C). g (f x) ++ r) (concat_map-map g f xs)

  -- what is given for the members that pass, before and after a map
  pub concat_map-keep-map : (g : B → List C) (p : B → Bool) (f : A → B) (g' : A → List C) (p' : A → Bool) (xs : List A)
      → ((x : A) → x ∈ xs → p (f x) ≡ p' x) → ((x : A) → x ∈ xs → g (f x) ≡ g' x)
      → concat_map g (keep p (map f xs)) ≡ concat_map g' (keep p' xs)
  concat_map-keep-map g p f g' p' xs h k =
      ap (concat_map g) (keep-map p f xs ∙ ap (map f) (keep-cong (λ (x : A). p (f x)) p' xs h))
      ∙ concat_map-map g f (keep p' xs)
      ∙ concat_map-cong (λ (x : A). g (f x)) g' (keep p' xs) (λ x m. k x (keep-∈ p' xs m).0)
