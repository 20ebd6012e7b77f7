-- The laws of the tests, counts and lists over the numbers below n. In order: the step of each at `n + 1`, as a loop makes it; `all_below`, `any_below`, `up_to`, `count_below`,
-- `first_below`, each by what it says of a number, in both directions; after `all_below` and `any_below` the loop that tests the numbers one after the other (`-none` before the first,
-- `-next` one more, `-stop` where one decides, `-end` after the last); counts of two tests (`count_below-mono`, `count_below-one`, `count_below-lt`); a count as the length of a list.
use Prim.Native.Nat.{ℕ, zero, suc, ◌+◌, ◌≤◌, ◌<◌, zero-le}
use Rattle.std.proofs.Common.{arith, le_of_suc-le-suc, eq-or-lt_of_le, lt_of_not-le, not-suc-le-zero, add-one, sym, ◌∙◌, ap₂, subst, ⊎_elim, true≢false, length-append, eq-eqb, ne_eqb, eqb-true}
use Rattle.std.specs.Prelude.{◌≡◌, ◌⊎◌, Bool, ◌&&◌, ◌||◌, get_or, eqb}
use Rattle.std.proofs.Math.Path.{refl, ap}
use mathlib.Core.List.Memᴰ
use mathlib.Core.List.{[], ◌∷◌, List}
use Rattle.std.proofs.Math.Bool.{true, false, cond}
use Rattle.std.proofs.lemmas.Bool.{false≢true}
use Rattle.std.specs.Prelude.{Option, None, Some}
use Rattle.std.proofs.Math.ListN.{length}
use Rattle.bytes_order.specs.BoolLaws.{true-false, not-true→false, or-true→, or_left, or_right, and-true→, and-true}
use Rattle.bytes_order.specs.Member.{◌∈◌, keep}
use Rattle.bytes_order.specs.Ascending.{Ascending, ascending-nil}
use Rattle.bytes_order.specs.OrderLaws.{before-less}
use Rattle.bytes_order.specs.MemberLaws.{∈-singleton, append-∈, ∈-append-left, ∈-append-right, keep_append}
use Rattle.bytes_order.specs.SortLaws.{ascending-one, ascending-append}
use Rattle.bitset.specs.Below.{all_below, any_below, count_below, up_to, or_else, first_below}

-- a number below n + 1 is below n or is n
below_suc : {k n : ℕ} → k < suc n → (k ≡ n) ⊎ (k < n)
below_suc h = eq-or-lt_of_le (le_of_suc-le-suc h)

-- the step of each, at the code's `n + 1`
pub all_below-more : (n : ℕ) (p : ℕ → Bool) → all_below (n + 1) p ≡ (all_below n p && p n)
unfolding all_below
all_below-more n p = ap (λ (m : ℕ). all_below m p) (add-one n)

pub any_below-more : (n : ℕ) (p : ℕ → Bool) → any_below (n + 1) p ≡ (any_below n p || p n)
unfolding any_below
any_below-more n p = ap (λ (m : ℕ). any_below m p) (add-one n)

pub count_below-more : (n : ℕ) (p : ℕ → Bool) → count_below (n + 1) p ≡ cond (p n) (count_below n p + 1) (count_below n p)
unfolding count_below
count_below-more n p = ap (λ (m : ℕ). count_below m p) (add-one n)

pub first_below-more : (n : ℕ) (p : ℕ → Bool) → first_below (n + 1) p ≡ or_else (first_below n p) (cond (p n) (Some n) None)
unfolding first_below
first_below-more n p = ap (λ (m : ℕ). first_below m p) (add-one n)

-- all_below
pub all_below→ : (n : ℕ) (p : ℕ → Bool) → all_below n p ≡ true → (k : ℕ) → k < n → p k ≡ true
unfolding all_below
all_below→ zero p e k h = absurd (not-suc-le-zero h)
all_below→ (suc n) p e k h =
    let a = and-true→ (all_below n p) (p n) e in ⊎_elim (λ (q : k ≡ n). ap p q ∙ a.1) (λ (l : k < n). all_below→ n p a.0 k l) (below_suc h)

pub all_below← : (n : ℕ) (p : ℕ → Bool) → ((k : ℕ) → k < n → p k ≡ true) → all_below n p ≡ true
unfolding all_below
all_below← zero p f = refl
all_below← (suc n) p f = and-true (all_below n p) (p n) (all_below← n p (λ k h. f k (omega arith))) (f n (omega arith))

-- a loop that goes on while each passes
pub all_below-none : (p : ℕ → Bool) → all_below 0 p ≡ true
unfolding all_below
all_below-none p = refl

pub all_below-next : (p : ℕ → Bool) (k : ℕ) → all_below k p ≡ true → p k ≡ true → all_below (k + 1) p ≡ true
all_below-next p k i e = all_below-more k p ∙ and-true (all_below k p) (p k) i e

pub all_below-stop : (n : ℕ) (p : ℕ → Bool) (k : ℕ) → k < n → p k ≡ false → false ≡ all_below n p
all_below-stop n p k h e = sym (not-true→false (all_below n p) (λ a. true-false (all_below→ n p a k h) e))

pub all_below-end : (n : ℕ) (p : ℕ → Bool) (k : ℕ) → k ≤ n → n ≤ k → all_below k p ≡ true → true ≡ all_below n p
all_below-end n p k h g i = let e : k ≡ n = omega arith in sym i ∙ ap (λ (m : ℕ). all_below m p) e

-- any_below
pub any_below→ : (n : ℕ) (p : ℕ → Bool) → any_below n p ≡ true → (k : ℕ) × (k < n) × (p k ≡ true)
unfolding any_below
any_below→ zero p e = absurd (false≢true e)
any_below→ (suc n) p e =
    ⊎_elim
    (λ (a : any_below n p ≡ true). let r = any_below→ n p a in (r.0, omega (arith, r.1), r.2))
    (λ (b : p n ≡ true). (n, omega arith, b))
    (or-true→ (any_below n p) (p n) e)

pub any_below← : (n : ℕ) (p : ℕ → Bool) (k : ℕ) → k < n → p k ≡ true → any_below n p ≡ true
unfolding any_below
any_below← zero p k h e = absurd (not-suc-le-zero h)
any_below← (suc n) p k h e =
    ⊎_elim
    (λ (q : k ≡ n). or_right (any_below n p) (p n) (ap p (sym q) ∙ e))
    (λ (l : k < n). or_left (any_below n p) (p n) (any_below← n p k l e))
    (below_suc h)

-- a loop that goes on while none passes; the end is by any answer, so that a loop may gather a set of answers
pub any_below-none : (p : ℕ → Bool) → any_below 0 p ≡ false
unfolding any_below
any_below-none p = refl

pub any_below-next : (p : ℕ → Bool) (k : ℕ) → any_below k p ≡ false → p k ≡ false → any_below (k + 1) p ≡ false
any_below-next p k i e = any_below-more k p ∙ ap₂ ◌||◌ i e

pub any_below-stop : (n : ℕ) (p : ℕ → Bool) (k : ℕ) → k < n → p k ≡ true → true ≡ any_below n p
any_below-stop n p k h e = sym (any_below← n p k h e)

pub any_below-end : (n : ℕ) (p : ℕ → Bool) (k : ℕ) → k ≤ n → n ≤ k → {b : Bool} → any_below k p ≡ b → b ≡ any_below n p
any_below-end n p k h g i = let e : k ≡ n = omega arith in sym i ∙ ap (λ (m : ℕ). any_below m p) e

-- up_to
pub up_to-∈ : (n : ℕ) {k : ℕ} → k ∈ up_to n → k < n
unfolding up_to
up_to-∈ zero m = absurd (Memᴰ.not-nil m)
up_to-∈ (suc n) {k} m =
    ⊎_elim
    (λ (i : k ∈ up_to n). let h : k < n = up_to-∈ n i in omega arith)
    (λ (i : k ∈ n ∷ []). let q : k ≡ n = ∈-singleton i in omega arith)
    (append-∈ (up_to n) m)

pub ∈-up_to : (n : ℕ) {k : ℕ} → k < n → k ∈ up_to n
unfolding up_to
∈-up_to zero h = absurd (not-suc-le-zero h)
∈-up_to (suc n) {k} h =
    ⊎_elim
    (λ (q : k ≡ n). ∈-append-right (up_to n) (Memᴰ.head q))
    (λ (l : k < n). ∈-append-left (n ∷ []) (∈-up_to n l))
    (below_suc h)

pub up_to-ascending : (n : ℕ) → Ascending (λ (k : ℕ). k ∷ []) (up_to n)
unfolding up_to
up_to-ascending zero = ascending-nil
up_to-ascending (suc n) =
    ascending-append (up_to-ascending n) ascending-one
    (λ x y m k. before-less [] [] (let h : x < n = up_to-∈ n m in let q : y ≡ n = ∈-singleton k in omega arith))

pub up_to-length : (n : ℕ) → length (up_to n) ≡ n
unfolding up_to
up_to-length zero = refl
up_to-length (suc n) = length-append (up_to n) (n ∷ []) ∙ ap (λ (m : ℕ). m + 1) (up_to-length n) ∙ add-one n

-- count_below
pub count_below-cong : (n : ℕ) (p q : ℕ → Bool) → ((k : ℕ) → k < n → p k ≡ q k) → count_below n p ≡ count_below n q
unfolding count_below
count_below-cong zero p q f = refl
count_below-cong (suc n) p q f =
    ap₂ (λ (b : Bool) (c : ℕ). cond b (c + 1) c) (f n (omega arith)) (count_below-cong n p q (λ k h. f k (omega arith)))

pub count_below-le : (n : ℕ) (p : ℕ → Bool) → count_below n p ≤ n
unfolding count_below
count_below-le zero p = zero-le
count_below-le (suc n) p = step (p n) (count_below-le n p)
  where
    step : (b : Bool) {c : ℕ} → c ≤ n → cond b (c + 1) c ≤ suc n
    step true h = omega arith
    step false h = omega arith

-- where each number that passes p passes q, q counts no fewer
pub count_below-mono : (n : ℕ) (p q : ℕ → Bool) → ((k : ℕ) → k < n → p k ≡ true → q k ≡ true) → count_below n p ≤ count_below n q
unfolding count_below
count_below-mono zero p q f = zero-le
count_below-mono (suc n) p q f = step (p n) (q n) (f n (omega arith)) (count_below-mono n p q (λ k h. f k (omega arith)))
  where
    step : (a b : Bool) {c d : ℕ} → (a ≡ true → b ≡ true) → c ≤ d → cond a (c + 1) c ≤ cond b (d + 1) d
    step true true g h = omega arith
    step true false g h = absurd (false≢true (g refl))
    step false true g h = omega arith
    step false false g h = h

-- where p and q differ at k alone, which passes p, p counts one more
pub count_below-one : (n : ℕ) (p q : ℕ → Bool) (k : ℕ) → k < n → p k ≡ true → q k ≡ false
    → ((j : ℕ) → j < n → (j ≡ k → ⊥) → p j ≡ q j) → count_below n p ≡ count_below n q + 1
unfolding count_below
count_below-one zero p q k h a b f = absurd (not-suc-le-zero h)
count_below-one (suc n) p q k h a b f =
    ⊎_elim
    (λ (e : k ≡ n).
    here (p n) (q n) (ap p (sym e) ∙ a) (ap q (sym e) ∙ b) (count_below-cong n p q (λ j l. f j (omega arith) (λ (g : j ≡ k). omega arith))))
    (λ (l : k < n). later (p n) (q n) (count_below n p) (count_below n q) (f n (omega arith) (λ (g : n ≡ k). omega arith)) (count_below-one n p q k l a b (λ j i. f j (omega arith))))
    (below_suc h)
  where
    here : (x y : Bool) {c d : ℕ} → x ≡ true → y ≡ false → c ≡ d → cond x (c + 1) c ≡ cond y (d + 1) d + 1
    here true true s t e = absurd (true≢false t)
    here true false s t e = ap (λ (m : ℕ). m + 1) e
    here false y s t e = absurd (false≢true s)

    later : (x y : Bool) (c d : ℕ) → x ≡ y → c ≡ d + 1 → cond x (c + 1) c ≡ cond y (d + 1) d + 1
    later true true c d s e = ap (λ (m : ℕ). m + 1) e
    later true false c d s e = absurd (true≢false s)
    later false true c d s e = absurd (false≢true s)
    later false false c d s e = e

-- one number more adds one at most
pub count_below-with : (n : ℕ) (p : ℕ → Bool) (j : ℕ) → count_below n (λ (k : ℕ). p k || eqb k j) ≤ count_below n p + 1
unfolding count_below
count_below-with zero p j = zero-le
count_below-with (suc n) p j = step (eqb n j) refl (p n) (count_below-with n p j)
  where
    with-j : ℕ → Bool
    with-j k = p k || eqb k j

    -- below j nothing is added
    below : n ≡ j → count_below n with-j ≤ count_below n p
    below e =
        count_below-mono n with-j p
        (λ k l t.
        ⊎_elim (λ (q : p k ≡ true). q) (λ (q : eqb k j ≡ true). absurd (let same : k ≡ j = eqb-true k j q in omega (arith, same, e, l)))
        (or-true→ (p k) (eqb k j) t))

    step : (c : Bool) → eqb n j ≡ c → (b : Bool) → count_below n with-j ≤ count_below n p + 1
        → cond (b || c) (count_below n with-j + 1) (count_below n with-j) ≤ cond b (count_below n p + 1) (count_below n p) + 1
    step true e true h = omega (arith, below (eqb-true n j e))
    step true e false h = omega (arith, below (eqb-true n j e))
    step false e true h = omega arith
    step false e false h = omega arith

-- where each number that passes p passes q, and k passes q alone, q counts more
pub count_below-lt : (n : ℕ) (p q : ℕ → Bool) → ((k : ℕ) → k < n → p k ≡ true → q k ≡ true)
    → (k : ℕ) → k < n → p k ≡ false → q k ≡ true → count_below n p < count_below n q
count_below-lt n p q f k h a b =
    let one = count_below-one n with-k p k h (or_right (p k) (eqb k k) (eq-eqb k k refl)) a (λ j l g. other (p j) (ne_eqb j k g)) in
    omega (arith, one, count_below-mono n with-k q (λ j l e. ⊎_elim (f j l) (λ (g : eqb j k ≡ true). ap q (eqb-true j k g) ∙ b) (or-true→ (p j) (eqb j k) e)))
  where
    with-k : ℕ → Bool
    with-k j = p j || eqb j k

    other : (x : Bool) {y : Bool} → y ≡ false → (x || y) ≡ x
    other true e = refl
    other false e = e

-- how many numbers below n pass is the length of their list
pub count_below-length : (n : ℕ) (p : ℕ → Bool) → length (keep p (up_to n)) ≡ count_below n p
unfolding up_to count_below keep
count_below-length zero p = refl
count_below-length (suc n) p =
    ap length (keep_append p (up_to n) (n ∷ [])) ∙ length-append (keep p (up_to n)) (keep p (n ∷ []))
    ∙ step (p n) ∙ ap (λ (m : ℕ). cond (p n) (m + 1) m) (count_below-length n p)
  where
    step : (b : Bool) → length (keep p (up_to n)) + length (cond b (n ∷ []) []) ≡ cond b (length (keep p (up_to n)) + 1) (length (keep p (up_to n)))
    step true = refl
    step false = omega arith

-- first_below

-- what a search says
Says : ℕ → (ℕ → Bool) → Option ℕ → Type 0
Says n p None = (k : ℕ) → k < n → p k ≡ false
Says n p (Some k) = (k < n) × (p k ≡ true) × ((j : ℕ) → j < k → p j ≡ false)

first_below-says : (n : ℕ) (p : ℕ → Bool) → Says n p (first_below n p)
unfolding first_below or_else Says
first_below-says zero p = λ k h. absurd (not-suc-le-zero h)
first_below-says (suc n) p = step (first_below n p) (p n) refl (first_below-says n p)
  where
    step : (o : Option ℕ) (b : Bool) → p n ≡ b → Says n p o → Says (suc n) p (or_else o (cond b (Some n) None))
    step None true e s = (omega arith, e, s)
    step None false e s = λ k h. ⊎_elim (λ (q : k ≡ n). ap p q ∙ e) (λ (l : k < n). s k l) (below_suc h)
    step (Some k) b e s = (omega (arith, s.0), s.1, s.2)

pub first_below-some→ : (n : ℕ) (p : ℕ → Bool) {k : ℕ} → first_below n p ≡ Some k → (k < n) × (p k ≡ true) × ((j : ℕ) → j < k → p j ≡ false)
unfolding Says
first_below-some→ n p e = subst (Says n p) e (first_below-says n p)

pub first_below-none→ : (n : ℕ) (p : ℕ → Bool) → first_below n p ≡ None → (k : ℕ) → k < n → p k ≡ false
unfolding Says
first_below-none→ n p e = subst (Says n p) e (first_below-says n p)

pub first_below-some← : (n : ℕ) (p : ℕ → Bool) (k : ℕ) → k < n → p k ≡ true → ((j : ℕ) → j < k → p j ≡ false) → first_below n p ≡ Some k
unfolding Says
first_below-some← n p k h e f = is (first_below n p) (first_below-says n p)
  where
    is : (o : Option ℕ) → Says n p o → o ≡ Some k
    is None s = absurd (true-false e (s k h))
    is (Some m) s =
        ap Some
        (⊎_elim
        (λ (q : m ≡ k). q)
        (λ (l : m < k). absurd (true-false s.1 (f m l)))
        (below_suc (lt_of_not-le (λ (l : k < m). true-false e (s.2 k l)))))

-- the one number below n that passes
pub first_below-one : (n : ℕ) (p : ℕ → Bool) (k : ℕ) → k < n → p k ≡ true → ((j : ℕ) → j < n → p j ≡ true → j ≡ k) → first_below n p ≡ Some k
first_below-one n p k h e f =
    first_below-some← n p k h e (λ j l. not-true→false (p j) (λ g. let q : j ≡ k = f j (omega arith) g in omega arith))

-- a count by its first number
count-first : (p : ℕ → Bool) (n : ℕ)
    → count_below (suc n) p ≡ cond (p 0) (suc (count_below n (λ (k : ℕ). p (suc k)))) (count_below n (λ (k : ℕ). p (suc k)))
unfolding count_below
count-first p zero = elim (p 0) as (λ b. cond b (0 + 1) 0 ≡ cond b 1 0) [ true ↦ refl | false ↦ refl ]
count-first p (suc n) = step (p 0) (p (suc n)) (count_below n (λ (k : ℕ). p (suc k))) (count-first p n)
  where
    step : (a b : Bool) (d : ℕ) {c : ℕ} → c ≡ cond a (suc d) d → cond b (c + 1) c ≡ cond a (suc (cond b (d + 1) d)) (cond b (d + 1) d)
    step true true d e = omega arith
    step true false d e = e
    step false true d e = omega arith
    step false false d e = e

module _ {A : Type 0} where
  -- the indices of the elements that pass, and those elements
  pub count-keep : (p : A → Bool) (xs : List A) (d : A) → count_below (length xs) (λ (k : ℕ). p (get_or xs k d)) ≡ length (keep p xs)
  unfolding count_below keep
  count-keep p [] d = refl
  count-keep p (x ∷ xs) d = count-first (λ (k : ℕ). p (get_or (x ∷ xs) k d)) (length xs) ∙ step (p x) (count-keep p xs d)
    where
      step : (b : Bool) {c : ℕ} → c ≡ length (keep p xs) → cond b (suc c) c ≡ length (cond b (x ∷ keep p xs) (keep p xs))
      step true e = ap suc e
      step false e = e
