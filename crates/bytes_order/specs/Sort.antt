-- One sort, by a key that is a byte string: strictly ascending, of each key one element. It serves the report's ascending parts, the
-- siblings of the list (with the key `rank ∷ id`, read backwards) and the canonical order of a set.
use Rattle.std.specs.Prelude.{ℕ, List, [], ◌∷◌, cond}
use Rattle.bytes_order.specs.Order.{before, same}

module _ {A : Type 0} (key : A → List ℕ) where
  unfoldable pub insert : A → List A → List A
  insert x [] = x ∷ []
  insert x (y ∷ ys) = cond (before (key x) (key y)) (x ∷ y ∷ ys) (cond (same (key x) (key y)) (y ∷ ys) (y ∷ insert x ys))

  unfoldable pub sort : List A → List A
  sort [] = []
  sort (x ∷ xs) = insert x (sort xs)
