-- How many items there are.
use Rattle.std.specs.Prelude.{ℕ, List, length, Option, None, Some}

abbrev pub length_of : Option (List (List ℕ)) → Option ℕ
length_of None = None
length_of (Some xs) = Some (length xs)
