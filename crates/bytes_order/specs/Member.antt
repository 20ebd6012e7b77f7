-- Lists as sets: membership, and the few operations that the rules are written with.
use Rattle.std.specs.Prelude.{ℕ, Bool, true, false, cond, ◌&&◌, ◌||◌}
use mathlib.Core.List.{List, [], ◌∷◌, ◌++◌, Memᴰ}
use Rattle.bytes_order.specs.Order.{same}

infix 50 ◌∈◌
-- x is a member of xs
abbrev pub ◌∈◌ : {A : Type 0} → A → List A → Type 0
x ∈ xs = Memᴰ x xs

-- the byte string x is a member of xs, as a test
unfoldable pub member : List ℕ → List (List ℕ) → Bool
member x [] = false
member x (y ∷ ys) = same x y || member x ys

module _ {A : Type 0} where
  -- the members that pass a test, in order
  unfoldable pub keep : (A → Bool) → List A → List A
  keep p [] = []
  keep p (x ∷ xs) = cond (p x) (x ∷ keep p xs) (keep p xs)

  unfoldable pub any : (A → Bool) → List A → Bool
  any p [] = false
  any p (x ∷ xs) = p x || any p xs

  unfoldable pub all : (A → Bool) → List A → Bool
  all p [] = true
  all p (x ∷ xs) = p x && all p xs

  -- the same members, whatever their order and number
  pub record SameMembers (xs ys : List A) : Type 0 where
    pub forth : (x : A) → x ∈ xs → x ∈ ys
    pub back : (x : A) → x ∈ ys → x ∈ xs

-- the lists that f gives, one after the other
unfoldable pub concat_map : {A B : Type 0} → (A → List B) → List A → List B
concat_map f [] = []
concat_map f (x ∷ xs) = f x ++ concat_map f xs
