-- The stored ids as two runs of bytes: the ids end to end, and the bytes of their standings.
use Rattle.std.specs.Prelude.{ℕ, List, [], ◌∷◌, take, drop}
use Rattle.update_format.specs.Update.{id_length}
use Rattle.lookup_merge.specs.Merge.{Stored}

-- the stored ids that the two runs lay out, as many as there are standings
unfoldable pub stored_in : List ℕ → List ℕ → List Stored
stored_in ids [] = []
stored_in ids (b ∷ bs) = record { id = take id_length ids; byte = b } ∷ stored_in (drop id_length ids) bs
