-- What the functions of the merge promise.
use Rattle.std.specs.Prelude.{ℕ, ◌≤◌, ◌≡◌, List, ◌++◌, map, length, take, drop}
use Rattle.update_format.specs.Update.{Id}
use Rattle.update_format.specs.Decode.{id_count, ids_in}
use Rattle.standing_bytes.specs.StandingByte.{unknown_byte}
use Rattle.lookup_merge.specs.Merge.{Stored, Merged, merge}

-- The walk of the stored ids xs beside those that a lays out passed j of these and made n comparisons until one of the lists ended; the buffer o, now o', has their
-- answers. What is left to be answered is unknown.
pub record Walks (xs : List Stored) (a o : List ℕ) (j n : ℕ) (o' : List ℕ) : Type 0 where
  pub passed_within : j ≤ id_count a
  pub size_kept : length o' ≡ length o
  pub rest_kept : drop j o' ≡ drop j o
  pub walked : merge xs (ids_in a) ≡ record { answers = take j o' ++ map (λ (i : Id). unknown_byte) (drop j (ids_in a)); comparisons = n }

-- the indices from `from` to the one before `to` lie in the buffer
pub record Fillable (from to : ℕ) (o : List ℕ) : Type 0 where
  pub ordered : from ≤ to
  pub within : to ≤ length o

-- What a walk yields, put into the buffer o, now o': the answers at its start, the bytes after them kept; and n comparisons.
pub record Merges (m : Merged) (o : List ℕ) (n : ℕ) (o' : List ℕ) : Type 0 where
  pub counted : n ≡ m.comparisons
  pub written : o' ≡ m.answers ++ drop (length m.answers) o
