-- Lists in which no two positions have the same key.
use Rattle.std.specs.Prelude.{ℕ, ◌≡◌, List, [], ◌∷◌}
use Rattle.bytes_order.specs.Member.{◌∈◌}

module _ {A : Type 0} where
  pub data Distinct (key : A → List ℕ) : List A → Type 0 where
    distinct_nil : Distinct key []
    distinct_cons : {x : A} {xs : List A} → ((y : A) → y ∈ xs → key x ≡ key y → ⊥) → Distinct key xs → Distinct key (x ∷ xs)

  -- the key tells the members of xs apart (one of them may stand at several positions)
  abbrev pub Identifies : (A → List ℕ) → List A → Type 0
  Identifies key xs = (x y : A) → x ∈ xs → y ∈ xs → key x ≡ key y → x ≡ y
