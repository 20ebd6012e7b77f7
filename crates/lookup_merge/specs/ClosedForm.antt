-- The comparisons of a walk in closed form, from the two sets of ids alone: a check of the definition `merge`.
use Rattle.std.specs.Prelude.{ℕ, List, [], ◌∷◌, ◌++◌, Bool, cond, not, length}
use Rattle.bytes_order.specs.Order.{before}
use Rattle.bytes_order.specs.Member.{keep}
use Rattle.bytes_order.specs.Sort.{sort}
use Rattle.update_format.specs.Update.{Id}

-- the different ids, stored or asked, ascending
abbrev pub different_ids : List Id → List Id → List Id
different_ids stored asked = sort (λ (i : Id). i) (stored ++ asked)

-- the last of i and the ids after it
unfoldable pub last_of : Id → List Id → Id
last_of i [] = i
last_of i (j ∷ js) = last_of j js

-- the smaller of two ids
abbrev pub smaller : Id → Id → Id
smaller i j = cond (before j i) j i

abbrev pub not_above : Id → Id → Bool
not_above last i = not (before last i)

-- the number of different ids, stored or asked, that are not above the smaller of the two lists' last ones; 0 where either list is empty
unfoldable pub closed_form : List Id → List Id → ℕ
closed_form [] asked = 0
closed_form (s ∷ stored) [] = 0
closed_form (s ∷ stored) (a ∷ asked) = length (keep (not_above (smaller (last_of s stored) (last_of a asked))) (different_ids (s ∷ stored) (a ∷ asked)))
