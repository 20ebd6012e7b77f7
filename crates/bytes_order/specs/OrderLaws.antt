-- `same` decides equality and `before` is a strict total order on byte strings.
use Rattle.std.specs.Prelude.{ℕ, ◌<◌, ◌≤◌, ◌≡◌, refl, ◌⊎◌, List, [], ◌∷◌, ◌++◌, Bool, true, false, ◌&&◌, ◌||◌, length, ltb, eqb}
use Rattle.std.proofs.Common.{sym, ◌∙◌, ap, subst, inl, inr, ⊎_elim, lt_irrefl, le_of_eq, le_of_lt, arith, ltb-true, ltb-false, lt-ltb, eqb-true, eq-eqb}
use Rattle.std.proofs.lemmas.Bool.{false≢true, eqb-false}
use Rattle.bytes_order.specs.Order.{before, same}
use Rattle.bytes_order.specs.BoolLaws.{bool_cases, true-false, not-true→false, or-true→, or_left, or_right, and-true→, and-true}

pub same_refl : (a : List ℕ) → same a a ≡ true
unfolding same
same_refl [] = refl
same_refl (x ∷ xs) = and-true (eqb x x) (same xs xs) (eq-eqb x x refl) (same_refl xs)

pub same→eq : (a b : List ℕ) → same a b ≡ true → a ≡ b
unfolding same
same→eq [] [] e = refl
same→eq [] (y ∷ ys) e = absurd (false≢true e)
same→eq (x ∷ xs) [] e = absurd (false≢true e)
same→eq (x ∷ xs) (y ∷ ys) e = let h = and-true→ (eqb x y) (same xs ys) e in λ i. eqb-true x y h.0 i ∷ same→eq xs ys h.1 i

pub eq→same : (a b : List ℕ) → a ≡ b → same a b ≡ true
eq→same a b e = subst (λ (c : List ℕ). same a c ≡ true) e (same_refl a)

pub ne→same-false : (a b : List ℕ) → (a ≡ b → ⊥) → same a b ≡ false
ne→same-false a b n = not-true→false (same a b) (λ e. n (same→eq a b e))

pub same-false→ne : (a b : List ℕ) → same a b ≡ false → a ≡ b → ⊥
same-false→ne a b n e = true-false (eq→same a b e) n

pub dec_eq : (a b : List ℕ) → Dec (a ≡ b)
dec_eq a b = ⊎_elim (λ (e : same a b ≡ true). yes (same→eq a b e)) (λ (e : same a b ≡ false). no (same-false→ne a b e)) (bool_cases (same a b))

-- `before` at two conses
pub before-less : {x y : ℕ} (xs ys : List ℕ) → x < y → before (x ∷ xs) (y ∷ ys) ≡ true
unfolding before
before-less {x} {y} xs ys h = or_left (ltb x y) (eqb x y && before xs ys) (lt-ltb x y h)

pub before-equal : {x y : ℕ} (xs ys : List ℕ) → x ≡ y → before xs ys ≡ true → before (x ∷ xs) (y ∷ ys) ≡ true
unfolding before
before-equal {x} {y} xs ys e h = or_right (ltb x y) (eqb x y && before xs ys) (and-true (eqb x y) (before xs ys) (eq-eqb x y e) h)

before-cases : (x y : ℕ) (xs ys : List ℕ) → before (x ∷ xs) (y ∷ ys) ≡ true → (x < y) ⊎ ((x ≡ y) × (before xs ys ≡ true))
unfolding before
before-cases x y xs ys e = ⊎_elim (λ h. inl (ltb-true x y h)) (λ h. let k = and-true→ (eqb x y) (before xs ys) h in inr (eqb-true x y k.0, k.1)) (or-true→ (ltb x y) (eqb x y && before xs ys) e)

before-irrefl-⊥ : (a : List ℕ) → before a a ≡ true → ⊥
unfolding before
before-irrefl-⊥ [] e = false≢true e
before-irrefl-⊥ (x ∷ xs) e = ⊎_elim (λ (h : x < x). lt_irrefl x h) (λ (h : (x ≡ x) × (before xs xs ≡ true)). before-irrefl-⊥ xs h.1) (before-cases x x xs xs e)

pub before-irrefl : (a : List ℕ) → before a a ≡ false
before-irrefl a = not-true→false (before a a) (before-irrefl-⊥ a)

pub before-trans : (a b c : List ℕ) → before a b ≡ true → before b c ≡ true → before a c ≡ true
unfolding before
before-trans [] [] c p q = absurd (false≢true p)
before-trans [] (y ∷ ys) [] p q = absurd (false≢true q)
before-trans [] (y ∷ ys) (z ∷ zs) p q = refl
before-trans (x ∷ xs) [] c p q = absurd (false≢true p)
before-trans (x ∷ xs) (y ∷ ys) [] p q = absurd (false≢true q)
before-trans (x ∷ xs) (y ∷ ys) (z ∷ zs) p q = step (before-cases x y xs ys p) (before-cases y z ys zs q) (before-trans xs ys zs)
  where
    step : (x < y) ⊎ ((x ≡ y) × (before xs ys ≡ true)) → (y < z) ⊎ ((y ≡ z) × (before ys zs ≡ true))
        → (before xs ys ≡ true → before ys zs ≡ true → before xs zs ≡ true) → before (x ∷ xs) (z ∷ zs) ≡ true
    step (inl h) (inl k) below = before-less {x = x} {y = z} xs zs (omega arith)
    step (inl h) (inr k) below = before-less {x = x} {y = z} xs zs (omega arith)
    step (inr h) (inl k) below = before-less {x = x} {y = z} xs zs (omega arith)
    step (inr h) (inr k) below = before-equal xs zs (h.0 ∙ k.0) (below h.1 k.1)

pub before-asym : (a b : List ℕ) → before a b ≡ true → before b a ≡ false
before-asym a b p = not-true→false (before b a) (λ q. before-irrefl-⊥ a (before-trans a b a p q))

pub before→ne : (a b : List ℕ) → before a b ≡ true → a ≡ b → ⊥
before→ne a b p e = before-irrefl-⊥ b (subst (λ (c : List ℕ). before c b ≡ true) e p)

nat-trichotomy : (x y : ℕ) → (x < y) ⊎ ((x ≡ y) ⊎ (y < x))
nat-trichotomy x y = go (ltb x y) refl (eqb x y) refl
  where
    go : (l : Bool) → ltb x y ≡ l → (e : Bool) → eqb x y ≡ e → (x < y) ⊎ ((x ≡ y) ⊎ (y < x))
    go true p e q = inl (ltb-true x y p)
    go false p true q = inr (inl (eqb-true x y q))
    go false p false q = let h = ltb-false x y p in let n = eqb-false x y q in inr (inr (omega arith))

pub trichotomy : (a b : List ℕ) → (before a b ≡ true) ⊎ ((a ≡ b) ⊎ (before b a ≡ true))
unfolding before
trichotomy [] [] = inr (inl refl)
trichotomy [] (y ∷ ys) = inl refl
trichotomy (x ∷ xs) [] = inr (inr refl)
trichotomy (x ∷ xs) (y ∷ ys) = step (nat-trichotomy x y) (trichotomy xs ys)
  where
    step : (x < y) ⊎ ((x ≡ y) ⊎ (y < x)) → (before xs ys ≡ true) ⊎ ((xs ≡ ys) ⊎ (before ys xs ≡ true))
        → (before (x ∷ xs) (y ∷ ys) ≡ true) ⊎ ((x ∷ xs ≡ y ∷ ys) ⊎ (before (y ∷ ys) (x ∷ xs) ≡ true))
    step (inl h) t = inl (before-less xs ys h)
    step (inr (inl e)) (inl h) = inl (before-equal xs ys e h)
    step (inr (inl e)) (inr (inl h)) = inr (inl (λ i. e i ∷ h i))
    step (inr (inl e)) (inr (inr h)) = inr (inr (before-equal ys xs (sym e) h))
    step (inr (inr h)) t = inr (inr (before-less ys xs h))

pub not-before→after : (a b : List ℕ) → before a b ≡ false → same a b ≡ false → before b a ≡ true
not-before→after a b p q = ⊎_elim (λ (h : before a b ≡ true). absurd (true-false h p)) (⊎_elim (λ (e : a ≡ b). absurd (same-false→ne a b q e)) (λ (h : before b a ≡ true). h)) (trichotomy a b)

-- of two keys in order the first numbers are in order
pub before-first : (m n : ℕ) (xs ys : List ℕ) → before (m ∷ xs) (n ∷ ys) ≡ true → m ≤ n
unfolding before
before-first m n xs ys e =
    ⊎_elim (λ (h : ltb m n ≡ true). le_of_lt (ltb-true m n h))
    (λ (h : (eqb m n && before xs ys) ≡ true). le_of_eq (eqb-true m n (and-true→ (eqb m n) (before xs ys) h).0))
    (or-true→ (ltb m n) (eqb m n && before xs ys) e)

-- two strings of one length, each followed by another: the first tell, and where they are the same, what follows
pub before-append : (a b c d : List ℕ) → length a ≡ length b → before (a ++ c) (b ++ d) ≡ (before a b || (same a b && before c d))
unfolding before same
before-append [] [] c d h = refl
before-append [] (y ∷ b) c d h = absurd (omega arith)
before-append (x ∷ a) [] c d h = absurd (omega arith)
before-append (x ∷ a) (y ∷ b) c d h =
    ap (λ (r : Bool). ltb x y || (eqb x y && r)) (before-append a b c d (omega arith))
    ∙ step (ltb x y) (eqb x y) (before a b) (same a b) (before c d)
  where
    step : (l e p s q : Bool) → (l || (e && (p || (s && q)))) ≡ ((l || (e && p)) || ((e && s) && q))
    step true e p s q = refl
    step false true p s q = refl
    step false false p s q = refl

pub same-append : (a b c d : List ℕ) → length a ≡ length b → same (a ++ c) (b ++ d) ≡ (same a b && same c d)
unfolding same
same-append [] [] c d h = refl
same-append [] (y ∷ b) c d h = absurd (omega arith)
same-append (x ∷ a) [] c d h = absurd (omega arith)
same-append (x ∷ a) (y ∷ b) c d h = ap (λ (r : Bool). eqb x y && r) (same-append a b c d (omega arith)) ∙ step (eqb x y) (same a b) (same c d)
  where
    step : (e s q : Bool) → (e && (s && q)) ≡ ((e && s) && q)
    step true s q = refl
    step false s q = refl
