-- What a contract sees of a list of places.
use Rattle.std.specs.Prelude.{ℕ, List}

-- the listed places in their order, and what the unused slots have, of which no clause says anything
pub record PlaceItems : Type 0 where
  pub items : List ℕ
  pub spare : List ℕ
