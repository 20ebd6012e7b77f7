-- Lists whose keys are strictly ascending: the key of each element comes before the keys of all that follow.
use Rattle.std.specs.Prelude.{ℕ, ◌≡◌, List, [], ◌∷◌, true}
use Rattle.bytes_order.specs.Order.{before}
use Rattle.bytes_order.specs.Member.{◌∈◌}

module _ {A : Type 0} where
  pub data Ascending (key : A → List ℕ) : List A → Type 0 where
    ascending-nil : Ascending key []
    ascending-cons : {x : A} {xs : List A} → ((y : A) → y ∈ xs → before (key x) (key y) ≡ true) → Ascending key xs → Ascending key (x ∷ xs)
