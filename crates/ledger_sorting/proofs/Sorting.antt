-- A list of places met one after the other: putting a place by its key; and the numbers below n.
use Prim.Native.Nat.{ℕ, zero, suc, ◌+◌, ◌-◌, ◌≤◌, ◌<◌}
use mathlib.Core.Path.{◌≡◌, refl, sym, ap, ◌∙◌}
use mathlib.Core.Logic.{⊎_elim}
use mathlib.Core.List.{List, [], ◌∷◌, ◌++◌}
use mathlib.Core.Bool.{Bool, true, false, cond}
use native.Mathlib.Nat.{le_of_suc-le-suc, eq-or-lt_of_le}
use native.Mathlib.Omega.{arith}
use lib.ListN.{length, take, drop, take-append-drop}
use lib.Seq.{drop-append-le, drop_at, drop-length}
use Rattle.bytes_order.specs.Order.{before, same}
use Rattle.bytes_order.specs.Compare.{order_of}
use Rattle.bytes_order.specs.Sort.{insert, sort}
use Rattle.bytes_order.specs.Member.{keep}
use Rattle.bytes_order.specs.MemberLaws.{keep_all}
use Rattle.std.specs.declared.cmp.Ordering.{Ordering}
use Rattle.std.specs.declared.cmp.Ordering.TheVariants.{Less, Equal, Greater}
use Rattle.bitset.specs.Below.{up_to}
use Rattle.bitset.specs.BelowLaws.{up_to-length}
use Rattle.ledger_state.specs.State.{Book}
use Rattle.ledger_sorting.specs.declared.Key.TheVariants.{Id}
use Rattle.ledger_relations.specs.PlaceTests.{id_at, id_order}
use Rattle.ledger_sorting.specs.PlaceLists.{ins, candidate, sorted_by}
use Rattle.ledger_sorting.proofs.Inserting.{shift}

module _ (key : ℕ → List ℕ) (x : ℕ) where
  abbrev by_order : Ordering → ℕ → List ℕ → List ℕ
  by_order Less y ys = x ∷ y ∷ ys
  by_order Equal y ys = y ∷ ys
  by_order Greater y ys = y ∷ insert key x ys

  insert-by : (y : ℕ) (ys : List ℕ) → insert key x (y ∷ ys) ≡ by_order (order_of (key x) (key y)) y ys
  unfolding insert order_of
  insert-by y ys = go (before (key x) (key y)) (same (key x) (key y))
    where
      go : (p q : Bool) → cond p (x ∷ y ∷ ys) (cond q (y ∷ ys) (y ∷ insert key x ys)) ≡ by_order (cond p Less (cond q Equal Greater)) y ys
      go true q = refl
      go false true = refl
      go false false = refl

  module _ (xs : List ℕ) (i y : ℕ) (inv : insert key x xs ≡ take i xs ++ insert key x (drop i xs)) where
    met : {o : Ordering} → drop i xs ≡ y ∷ drop (i + 1) xs → o ≡ order_of (key x) (key y) → insert key x xs ≡ take i xs ++ by_order o y (drop (i + 1) xs)
    met d e =
        inv
        ∙ ap (λ (r : List ℕ). take i xs ++ r)
        (ap (insert key x) d ∙ insert-by y (drop (i + 1) xs) ∙ ap (λ (o : Ordering). by_order o y (drop (i + 1) xs)) (sym e))

    pub less : drop i xs ≡ y ∷ drop (i + 1) xs → Less ≡ order_of (key x) (key y) → ins i x xs ≡ insert key x xs
    less d e = sym (met d e ∙ ap (λ (r : List ℕ). take i xs ++ (x ∷ r)) (sym d))

    pub equal : drop i xs ≡ y ∷ drop (i + 1) xs → Equal ≡ order_of (key x) (key y) → xs ≡ insert key x xs
    equal d e = sym (met d e ∙ ap (λ (r : List ℕ). take i xs ++ r) (sym d) ∙ take-append-drop i xs)

    pub greater :
        drop i xs ≡ y ∷ drop (i + 1) xs → take (i + 1) xs ≡ take i xs ++ (y ∷ []) → Greater ≡ order_of (key x) (key y) →
        insert key x xs ≡ take (i + 1) xs ++ insert key x (drop (i + 1) xs)
    greater d t e = met d e ∙ shift xs (insert key x (drop (i + 1) xs)) i y t

    pub over : drop i xs ≡ [] → ins i x xs ≡ insert key x xs
    unfolding insert
    over d = sym (inv ∙ ap (λ (r : List ℕ). take i xs ++ insert key x r) d ∙ ap (λ (r : List ℕ). take i xs ++ (x ∷ r)) (sym d))

-- the numbers below n
pub up_to-next : (n k : ℕ) → k < n → drop k (up_to n) ≡ k ∷ drop (suc k) (up_to n)
unfolding up_to
up_to-next zero k h = absurd (omega arith)
up_to-next (suc n) k h = ⊎_elim (λ (e : k ≡ n). here e) (λ (g : k < n). earlier g (up_to-next n k g)) (eq-or-lt_of_le (le_of_suc-le-suc h))
  where
    whole : length (up_to n ++ (n ∷ [])) ≡ suc n
    whole = up_to-length (suc n)

    here : k ≡ n → drop k (up_to n ++ (n ∷ [])) ≡ k ∷ drop (suc k) (up_to n ++ (n ∷ []))
    here e =
        rw e
        (drop_at (up_to n) (n ∷ []) n (up_to-length n)
        ∙ ap (λ (r : List ℕ). n ∷ r) (sym (ap (λ (m : ℕ). drop m (up_to n ++ (n ∷ []))) (sym whole) ∙ drop-length (up_to n ++ (n ∷ [])))))

    earlier : k < n → drop k (up_to n) ≡ k ∷ drop (suc k) (up_to n) → drop k (up_to n ++ (n ∷ [])) ≡ k ∷ drop (suc k) (up_to n ++ (n ∷ []))
    earlier g e =
        drop-append-le k (up_to n) (n ∷ []) (omega (arith, up_to-length n))
        ∙ ap (λ (r : List ℕ). r ++ (n ∷ [])) e
        ∙ ap (λ (r : List ℕ). k ∷ r) (sym (drop-append-le (suc k) (up_to n) (n ∷ []) (omega (arith, up_to-length n))))

pub up_to-end : (n : ℕ) → drop n (up_to n) ≡ []
up_to-end n = ap (λ (m : ℕ). drop m (up_to n)) (sym (up_to-length n)) ∙ drop-length (up_to n)

-- the sorted list of those from k on that pass
module _ (key : ℕ → List ℕ) (p : ℕ → Bool) (n : ℕ) where
  abbrev pub from : ℕ → List ℕ
  from k = sort key (keep p (drop k (up_to n)))

  pub from_end : from n ≡ []
  unfolding sort keep
  from_end = ap (λ (r : List ℕ). sort key (keep p r)) (up_to-end n)

  pub from_next : (k : ℕ) → k < n → from k ≡ cond (p k) (insert key k (from (suc k))) (from (suc k))
  unfolding sort keep
  from_next k h = ap (λ (r : List ℕ). sort key (keep p r)) (up_to-next n k h) ∙ go (p k)
    where
      go : (b : Bool) → sort key (cond b (k ∷ keep p (drop (suc k) (up_to n))) (keep p (drop (suc k) (up_to n)))) ≡ cond b (insert key k (from (suc k))) (from (suc k))
      go true = refl
      go false = refl

  -- one place down
  pub from_step : (k : ℕ) {xs : List ℕ} → 0 < k → k ≤ n → xs ≡ from k → cond (p (k - 1)) (insert key (k - 1) xs) xs ≡ from (k - 1)
  from_step k {xs} h g e =
      let q : k ≡ suc (k - 1) = omega arith in
      ap (λ (r : List ℕ). cond (p (k - 1)) (insert key (k - 1) r) r) (e ∙ ap from q) ∙ sym (from_next (k - 1) (omega arith))

  pub from_all : (k : ℕ) → k ≤ 0 → from k ≡ sort key (keep p (up_to n))
  from_all k h = let e : k ≡ 0 = omega arith in ap from e

-- the places by id
module _ (l : Book) (s : List ℕ) where
  pub sorted-ids : sorted_by l s Id ≡ id_order l s
  unfolding sorted_by id_order
  sorted-ids = ap (sort (id_at l s)) (keep_all (candidate l s Id) (up_to l.used) (λ x m. refl))
