-- The comparisons of a walk are those of the closed form, step by step as the walk goes.
use Rattle.std.specs.Prelude.{suc, ◌≡◌, refl, List, [], ◌∷◌, ◌++◌, map, Bool, true, false, cond, not, ◌⊎◌, length}
use Rattle.std.proofs.Common.{sym, ap, ◌∙◌, inl, inr, ⊎_elim}
use mathlib.Core.List.Memᴰ
use Rattle.bytes_order.specs.Order.{before}
use Rattle.bytes_order.specs.OrderLaws.{before-irrefl, before-asym}
use Rattle.bytes_order.specs.Member.{◌∈◌, keep, SameMembers}
use Rattle.bytes_order.specs.MemberLaws.{∈-cases, ∈-append-left, ∈-append-right, append-∈, keep-true, keep-none, same-members-refl, same-members-trans}
use Rattle.bytes_order.specs.Sort.{sort}
use Rattle.bytes_order.specs.Ascending.{Ascending, ascending-cons}
use Rattle.bytes_order.specs.SortLaws.{ascending-head, ascending-tail, ascending-map, sort-∈, ∈-sort, sort-ascending, sort-unique}
use Rattle.update_format.specs.Update.{Id}
use Rattle.lookup_merge.specs.Merge.{Stored, id_of, merge}
use Rattle.lookup_merge.specs.MergeLaws.{merge_less, merge_equal, merge_greater}
use Rattle.lookup_merge.proofs.LookupLaws.{along, after-all, none-stored, none-asked}
use Rattle.lookup_merge.specs.ClosedForm.{last_of, smaller, not_above, closed_form}

-- the last is one of them, and the smaller one of the two
last-∈ : (i : Id) (js : List Id) → last_of i js ∈ i ∷ js
unfolding last_of
last-∈ i [] = Memᴰ.head refl
last-∈ i (j ∷ js) = Memᴰ.tail (last-∈ j js)

smaller-∈ : {i j : Id} {vs : List Id} → i ∈ vs → j ∈ vs → smaller i j ∈ vs
smaller-∈ {i} {j} {vs} m n = go (before j i)
  where
    go : (b : Bool) → cond b j i ∈ vs
    go true = n
    go false = m

abbrev sorted : List Id → List Id
sorted vs = sort (λ (i : Id). i) vs

-- The ids vs are z, which comes before all others, and these, us.
module _ {z : Id} {us vs : List Id} (parts : SameMembers vs (z ∷ us)) (first : (i : Id) → i ∈ us → before z i ≡ true) where
  first-sorted : sorted vs ≡ z ∷ sorted us
  first-sorted =
      sort-unique (λ (i : Id). i) (λ i j m n e. e)
      (ascending-cons (λ i m. first i (sort-∈ (λ (j : Id). j) us m)) (sort-ascending (λ (i : Id). i) us))
      (same-members-trans parts (record { forth = λ i m. into i (∈-cases m); back = λ i m. out i (∈-cases m) }))
    where
      into : (i : Id) → (i ≡ z) ⊎ (i ∈ us) → i ∈ z ∷ sorted us
      into i (inl e) = Memᴰ.head e
      into i (inr m) = Memᴰ.tail (∈-sort (λ (j : Id). j) (λ j k m n e. e) m)

      out : (i : Id) → (i ≡ z) ⊎ (i ∈ sorted us) → i ∈ z ∷ us
      out i (inl e) = Memᴰ.head e
      out i (inr m) = Memᴰ.tail (sort-∈ (λ (j : Id). j) us m)

  none_before : (i : Id) → i ∈ vs → before i z ≡ false
  none_before i m = ⊎_elim (λ (e : i ≡ z). rw e (before-irrefl z)) (λ (n : i ∈ us). before-asym z i (first i n)) (∈-cases (parts.forth i m))

  -- z is not above a limit that is one of the ids
  counts-more : (limit : Id) → limit ∈ vs → length (keep (not_above limit) (sorted vs)) ≡ suc (length (keep (not_above limit) (sorted us)))
  counts-more limit m =
      ap (λ (l : List Id). length (keep (not_above limit) l)) first-sorted ∙ ap length (keep-true (not_above limit) z (sorted us) (ap not (none_before limit m)))

  -- the others are above a limit that is z
  counts-one : (limit : Id) → limit ≡ z → length (keep (not_above limit) (sorted vs)) ≡ 1
  counts-one limit e =
      counts-more limit (parts.back limit (Memᴰ.head e))
      ∙ ap (λ (l : List Id). suc (length l)) (keep-none (not_above limit) (sorted us) (λ i m. rw (e, first i (sort-∈ (λ (j : Id). j) us m))))

  -- one of the two lists ends with z
  stored-ends : (i : Id) → i ∈ vs → length (keep (not_above (smaller z i)) (sorted vs)) ≡ 1
  stored-ends i m = counts-one (smaller z i) (ap (λ (b : Bool). cond b i z) (none_before i m))

  asked-ends : (i j : Id) → i ∈ vs → z ≡ j → length (keep (not_above (smaller i j)) (sorted vs)) ≡ 1
  asked-ends i j m e =
      counts-one (smaller i j)
      (ap (smaller i) (sym e) ∙ ⊎_elim (λ (d : i ≡ z). go (before z i) d) (λ (n : i ∈ us). ap (λ (b : Bool). cond b z i) (first i n)) (∈-cases (parts.forth i m)))
    where
      go : (b : Bool) → i ≡ z → cond b z i ≡ z
      go true d = refl
      go false d = d

-- Two ascending lists: in each of the three orders of their first ids, the smaller comes before all others.
module _ (s : Id) (stored : List Id) (a : Id) (asked : List Id) where
  -- the limit is one of the ids
  stored_last : last_of s stored ∈ (s ∷ stored) ++ (a ∷ asked)
  stored_last = ∈-append-left (a ∷ asked) (last-∈ s stored)

  asked-last : last_of a asked ∈ (s ∷ stored) ++ (a ∷ asked)
  asked-last = ∈-append-right (s ∷ stored) (last-∈ a asked)

  limit-∈ : smaller (last_of s stored) (last_of a asked) ∈ (s ∷ stored) ++ (a ∷ asked)
  limit-∈ = smaller-∈ stored_last asked-last

  -- what is left without the first asked id, and without both first ids where they are equal
  without-asked : SameMembers ((s ∷ stored) ++ (a ∷ asked)) (a ∷ ((s ∷ stored) ++ asked))
  without-asked = record { forth = λ i m. into i (append-∈ (s ∷ stored) m); back = λ i m. out i (∈-cases m) }
    where
      into : (i : Id) → (i ∈ s ∷ stored) ⊎ (i ∈ a ∷ asked) → i ∈ a ∷ ((s ∷ stored) ++ asked)
      into i (inl m) = Memᴰ.tail (∈-append-left asked m)
      into i (inr m) = ⊎_elim (λ (e : i ≡ a). Memᴰ.head e) (λ (n : i ∈ asked). Memᴰ.tail (∈-append-right (s ∷ stored) n)) (∈-cases m)

      out : (i : Id) → (i ≡ a) ⊎ (i ∈ (s ∷ stored) ++ asked) → i ∈ (s ∷ stored) ++ (a ∷ asked)
      out i (inl e) = ∈-append-right (s ∷ stored) (Memᴰ.head e)
      out i (inr m) =
          ⊎_elim (λ (n : i ∈ s ∷ stored). ∈-append-left (a ∷ asked) n) (λ (n : i ∈ asked). ∈-append-right (s ∷ stored) (Memᴰ.tail n)) (append-∈ (s ∷ stored) m)

  without-both : s ≡ a → SameMembers ((s ∷ stored) ++ (a ∷ asked)) (s ∷ (stored ++ asked))
  without-both e = record { forth = λ i m. into i (∈-cases (without-asked.forth i m)); back = λ i m. without-asked.back i (Memᴰ.tail m) }
    where
      into : (i : Id) → (i ≡ a) ⊎ (i ∈ s ∷ (stored ++ asked)) → i ∈ s ∷ (stored ++ asked)
      into i (inl d) = Memᴰ.head (d ∙ sym e)
      into i (inr m) = m

  module _ (p : Ascending (λ (i : Id). i) (s ∷ stored)) (q : Ascending (λ (i : Id). i) (a ∷ asked)) where
    less-first : before s a ≡ true → (i : Id) → i ∈ stored ++ (a ∷ asked) → before s i ≡ true
    less-first h i m = ⊎_elim (λ (n : i ∈ stored). ascending-head p i n) (λ (n : i ∈ a ∷ asked). after-all s q h i n) (append-∈ stored m)

    equal-first : s ≡ a → (i : Id) → i ∈ stored ++ asked → before s i ≡ true
    equal-first e i m = ⊎_elim (λ (n : i ∈ stored). ascending-head p i n) (λ (n : i ∈ asked). rw e (ascending-head q i n)) (append-∈ stored m)

    greater-first : before a s ≡ true → (i : Id) → i ∈ (s ∷ stored) ++ asked → before a i ≡ true
    greater-first h i m = ⊎_elim (λ (n : i ∈ s ∷ stored). after-all a p h i n) (λ (n : i ∈ asked). ascending-head q i n) (append-∈ (s ∷ stored) m)

-- The closed form, step by step as the walk goes: one more than that of what is left. The limit stays while neither list ends.
closed-less : (s : Id) (stored : List Id) (a : Id) (asked : List Id) → Ascending (λ (i : Id). i) (s ∷ stored) → Ascending (λ (i : Id). i) (a ∷ asked)
    → before s a ≡ true → closed_form (s ∷ stored) (a ∷ asked) ≡ suc (closed_form stored (a ∷ asked))
unfolding closed_form last_of
closed-less s [] a asked p q h = stored-ends (same-members-refl (s ∷ a ∷ asked)) (less-first s [] a asked p q h) (last_of a asked) (asked-last s [] a asked)
closed-less s (t ∷ stored) a asked p q h =
    counts-more (same-members-refl ((s ∷ t ∷ stored) ++ (a ∷ asked))) (less-first s (t ∷ stored) a asked p q h)
    (smaller (last_of t stored) (last_of a asked)) (limit-∈ s (t ∷ stored) a asked)

closed-equal : (s : Id) (stored : List Id) (a : Id) (asked : List Id) → Ascending (λ (i : Id). i) (s ∷ stored) → Ascending (λ (i : Id). i) (a ∷ asked)
    → s ≡ a → closed_form (s ∷ stored) (a ∷ asked) ≡ suc (closed_form stored asked)
unfolding closed_form last_of
closed-equal s [] a asked p q e = stored-ends (without-both s [] a asked e) (equal-first s [] a asked p q e) (last_of a asked) (asked-last s [] a asked)
closed-equal s (t ∷ stored) a [] p q e =
    asked-ends (without-both s (t ∷ stored) a [] e) (equal-first s (t ∷ stored) a [] p q e) (last_of t stored) a (stored_last s (t ∷ stored) a []) e
closed-equal s (t ∷ stored) a (b ∷ asked) p q e =
    counts-more (without-both s (t ∷ stored) a (b ∷ asked) e) (equal-first s (t ∷ stored) a (b ∷ asked) p q e)
    (smaller (last_of t stored) (last_of b asked)) (limit-∈ s (t ∷ stored) a (b ∷ asked))

closed-greater : (s : Id) (stored : List Id) (a : Id) (asked : List Id) → Ascending (λ (i : Id). i) (s ∷ stored) → Ascending (λ (i : Id). i) (a ∷ asked)
    → before a s ≡ true → closed_form (s ∷ stored) (a ∷ asked) ≡ suc (closed_form (s ∷ stored) asked)
unfolding closed_form last_of
closed-greater s stored a [] p q h = asked-ends (without-asked s stored a []) (greater-first s stored a [] p q h) (last_of s stored) a (stored_last s stored a []) refl
closed-greater s stored a (b ∷ asked) p q h =
    counts-more (without-asked s stored a (b ∷ asked)) (greater-first s stored a (b ∷ asked) p q h)
    (smaller (last_of s stored) (last_of b asked)) (limit-∈ s stored a (b ∷ asked))

closed-stored-end : (asked : List Id) → closed_form [] asked ≡ 0
unfolding closed_form
closed-stored-end asked = refl

closed-asked-end : (stored : List Id) → closed_form stored [] ≡ 0
unfolding closed_form
closed-asked-end [] = refl
closed-asked-end (s ∷ stored) = refl

ids-ascending : {xs : List Stored} → Ascending id_of xs → Ascending (λ (i : Id). i) (map id_of xs)
ids-ascending p = ascending-map (λ (i : Id). i) id_of p (λ x. refl)

pub comparisons-closed : (xs : List Stored) (is : List Id) → Ascending id_of xs → Ascending (λ (i : Id). i) is → (merge xs is).comparisons ≡ closed_form (map id_of xs) is
comparisons-closed =
    along (λ xs is. Ascending id_of xs → Ascending (λ (i : Id). i) is → (merge xs is).comparisons ≡ closed_form (map id_of xs) is)
    (λ is p q. none-stored is ∙ sym (closed-stored-end is))
    (λ xs p q. none-asked xs ∙ sym (closed-asked-end (map id_of xs)))
    (λ x xs i is e h k p q.
    rw (merge_less x xs i is e) (ap suc (k (ascending-tail p) q) ∙ sym (closed-less x.id (map id_of xs) i is (ids-ascending p) q h)))
    (λ x xs i is e h k p q.
    rw (merge_equal x xs i is e) (ap suc (k (ascending-tail p) (ascending-tail q)) ∙ sym (closed-equal x.id (map id_of xs) i is (ids-ascending p) q h)))
    (λ x xs i is e h k p q.
    rw (merge_greater x xs i is e) (ap suc (k p (ascending-tail q)) ∙ sym (closed-greater x.id (map id_of xs) i is (ids-ascending p) q h)))
