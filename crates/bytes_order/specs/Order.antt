-- The order of byte strings: "compared as unsigned bytes from the first". It serves ids, tags and every other sort key.
use Rattle.std.specs.Prelude.{ℕ, List, [], ◌∷◌, Bool, true, false, ◌&&◌, ◌||◌, ltb, eqb}

-- a comes before b: at the first byte in which they differ a's is the smaller. (Of two strings of unequal length, one of which begins
-- the other, the shorter comes first; ids and tags are of one length.)
unfoldable pub before : List ℕ → List ℕ → Bool
before [] [] = false
before [] (y ∷ ys) = true
before (x ∷ xs) [] = false
before (x ∷ xs) (y ∷ ys) = ltb x y || (eqb x y && before xs ys)

-- a and b are the same bytes
unfoldable pub same : List ℕ → List ℕ → Bool
same [] [] = true
same [] (y ∷ ys) = false
same (x ∷ xs) [] = false
same (x ∷ xs) (y ∷ ys) = eqb x y && same xs ys

-- the strings are strictly ascending
unfoldable pub ascending : List (List ℕ) → Bool
ascending [] = true
ascending (x ∷ []) = true
ascending (x ∷ y ∷ ys) = before x y && ascending (y ∷ ys)
