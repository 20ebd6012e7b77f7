-- The byte of each entry by its index: what tags are read as, in a run of numbers with five for each; and what the functions on such runs ask and promise.
use Rattle.std.specs.Prelude.{Option, None, Some, ℕ, ◌+◌, ◌*◌, ◌≤◌, ◌<◌, ◌≡◌, List, ◌++◌, map, Bool, cond, not, ◌&&◌, length, get_or, drop, eqb}
use Rattle.bitset.specs.Below.{any_below, up_to}
use Rattle.hours_tags.specs.declared.Limits.{Limits}
use Rattle.hours_tags.specs.Hours.{Bounded}
use Rattle.hours_runs.specs.Runs.{surely, may}
use Rattle.hours_overlaps.specs.Overlaps.{meets, reading_byte}

-- readings by their index
module _ (at : ℕ → Option Limits) where
  -- the reading at j is another than that at i, and hours that g meets
  abbrev pub other_at : ℕ → (Limits → Limits → Bool) → Limits → ℕ → Bool
  other_at i r g j = not (eqb i j) && meets r g (at j)

  -- one of the first n is so
  abbrev pub some_at : ℕ → ℕ → (Limits → Limits → Bool) → Limits → Bool
  some_at n i r g = any_below n (other_at i r g)

  unfoldable pub byte_at : ℕ → ℕ → ℕ
  byte_at n i = reading_byte (some_at n i surely) (some_at n i may) (at i)

  -- the bytes of the first n
  abbrev pub bytes_of : ℕ → List ℕ
  bytes_of n = map (byte_at n) (up_to n)

-- how many numbers a reading has in a run
abbrev pub width : ℕ
width = 5

-- the limits at an index of a run, and the reading: plain where the longest run is 0, which no hours tag has
unfoldable pub limits_at : List ℕ → ℕ → Limits
limits_at ws i =
    record {
      pond = get_or ws (width * i) 0;
      earliest = get_or ws (width * i + 1) 0;
      latest = get_or ws (width * i + 2) 0;
      shortest = get_or ws (width * i + 3) 0;
      longest = get_or ws (width * i + 4) 0;
    }

unfoldable pub reading_in : List ℕ → ℕ → Option Limits
reading_in ws i = cond (eqb (get_or ws (width * i + 4) 0) 0) None (Some (limits_at ws i))

-- hours have a longest run of a minute or more
unfoldable pub Kept : Option Limits → Type 0
Kept None = Unit {0}
Kept (Some h) = 1 ≤ h.longest

-- there is room for a reading at index i
pub record PutReading (ws : List ℕ) (i : ℕ) (x : Option Limits) : Type 0 where
  pub room : width * i + width ≤ length ws
  pub kept : Kept x

-- the reading stands at index i, and the others are as they were
pub record Put (ws : List ℕ) (i : ℕ) (x : Option Limits) (ws' : List ℕ) : Type 0 where
  pub size : length ws' ≡ length ws
  pub there : reading_in ws' i ≡ x
  pub others : (j : ℕ) → (j ≡ i → ⊥) → reading_in ws' j ≡ reading_in ws j

-- there are n readings, and room for n bytes
pub record Fillable (ws : List ℕ) (n : ℕ) (o : List ℕ) : Type 0 where
  pub readings : width * n ≤ length ws
  pub room : n ≤ length o
