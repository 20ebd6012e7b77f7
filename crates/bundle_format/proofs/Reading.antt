-- Reading a bundle from byte `at` on: where a whole item ends, its bytes; and counting the items.
use Rattle.std.specs.Prelude.{ℕ, zero, suc, ◌+◌, ◌-◌, ◌≤◌, ◌<◌, ◌≡◌, refl, List, Option, None, Some, true, false, length, take, drop}
use Rattle.std.proofs.Common.{sym, ap, ◌∙◌, arith, length-drop, drop-drop, leb-true}
use Rattle.bundle_format.specs.Bundle.{length_bytes, most_items, first_length, first_item, after_first, first_whole, with_first, items_within, items_of}
use Rattle.bundle_format.specs.Counted.{length_of}
use Rattle.bundle_format.proofs.BundleLaws.{items-end, items-next, items-cut, items-many}

module _ (b : List ℕ) (at : ℕ) where
  -- an item that is whole ends within the bundle
  pub whole-within : at ≤ length b → first_whole (drop at b) ≡ true → at + (length_bytes + first_length (drop at b)) ≤ length b
  whole-within h w = omega (arith, length-drop at b, leb-true (length_bytes + first_length (drop at b)) (length (drop at b)) w)

  -- the bytes of the item
  pub item-bytes : {n : ℕ} → n ≡ first_length (drop at b) → take n (drop (at + length_bytes) b) ≡ first_item (drop at b)
  item-bytes {n} e = ap (λ (k : ℕ). take k (drop (at + length_bytes) b)) e ∙ ap (take (first_length (drop at b))) (sym (drop-drop length_bytes at b))

-- n more, where there is a number
unfoldable pub plus : ℕ → Option ℕ → Option ℕ
plus n None = None
plus n (Some k) = Some (n + k)

plus-zero : (o : Option ℕ) → o ≡ plus 0 o
unfolding plus
plus-zero None = refl
plus-zero (Some k) = let z : k ≡ 0 + k = omega arith in ap Some z

plus-first : (n : ℕ) (x : List ℕ) (o : Option (List (List ℕ))) → plus n (length_of (with_first x o)) ≡ plus (n + 1) (length_of o)
unfolding plus
plus-first n x None = refl
plus-first n x (Some xs) = ap Some (omega arith)

-- how many items the bytes are, where they are fewer than m
unfoldable pub fewer : ℕ → List ℕ → Option ℕ
fewer zero d = None
fewer (suc m) d = length_of (items_within m d)

-- n items before byte `at`, and what is counted from there on
abbrev pub CountedTo : List ℕ → ℕ → ℕ → Type 0
CountedTo b at n = length_of (items_of b) ≡ plus n (fewer (suc most_items - n) (drop at b))

-- a first item, and what follows it
first-counted : (n m : ℕ) (d : List ℕ) → 0 < length d → first_whole d ≡ true → plus n (fewer (suc m) d) ≡ plus (n + 1) (fewer m (after_first d))
unfolding fewer plus
first-counted n zero d h w = ap (λ (o : Option (List (List ℕ))). plus n (length_of o)) (items-many d h)
first-counted n (suc m) d h w =
    ap (λ (o : Option (List (List ℕ))). plus n (length_of o)) (items-next m d h w) ∙ plus-first n (first_item d) (items_within m (after_first d))

pub counted_none : (b : List ℕ) → CountedTo b 0 0
unfolding fewer
counted_none b = plus-zero (length_of (items_of b))

module _ (b : List ℕ) (at n : ℕ) (few : n ≤ most_items) (counted : CountedTo b at n) where
  more : suc most_items - n ≡ suc (most_items - n)
  more = omega arith

  here : length_of (items_of b) ≡ plus n (fewer (suc (most_items - n)) (drop at b))
  here = counted ∙ ap (λ (m : ℕ). plus n (fewer m (drop at b))) more

  pub counted_next : at < length b → first_whole (drop at b) ≡ true → {k : ℕ} → k ≡ first_length (drop at b) → CountedTo b (at + (length_bytes + k)) (n + 1)
  counted_next h w {k} e =
      let d = drop at b in
      let m : most_items - n ≡ suc most_items - (n + 1) = omega arith in
      let after : after_first d ≡ drop (at + (length_bytes + k)) b =
      ap (λ (i : ℕ). drop (length_bytes + i) d) (sym e) ∙ drop-drop (length_bytes + k) at b in
      here
      ∙ first-counted n (most_items - n) d (omega (arith, length-drop at b)) w
      ∙ ap (λ (r : List ℕ). plus (n + 1) (fewer (most_items - n) r)) after
      ∙ ap (λ (i : ℕ). plus (n + 1) (fewer i (drop (at + (length_bytes + k)) b))) m

  pub counted-cut : at < length b → first_whole (drop at b) ≡ false → None ≡ length_of (items_of b)
  unfolding fewer plus
  counted-cut h w =
      sym (here ∙ ap (λ (o : Option (List (List ℕ))). plus n (length_of o)) (items-cut (most_items - n) (drop at b) (omega (arith, length-drop at b)) w))

  pub counted-all : length b ≤ at → Some n ≡ length_of (items_of b)
  unfolding fewer plus
  counted-all h =
      let z : n + 0 ≡ n = omega arith in
      sym
      (here
      ∙ ap (λ (o : Option (List (List ℕ))). plus n (length_of o)) (items-end (most_items - n) (drop at b) (omega (arith, length-drop at b)))
      ∙ ap Some z)

-- more than most_items are none
pub counted-many : (b : List ℕ) (at n : ℕ) → most_items < n → CountedTo b at n → None ≡ length_of (items_of b)
unfolding fewer plus
counted-many b at n h counted =
    let z : suc most_items - n ≡ 0 = omega arith in
    sym (counted ∙ ap (λ (m : ℕ). plus n (fewer m (drop at b))) z)
