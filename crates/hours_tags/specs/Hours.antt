-- Document 02, E12: hours tags. "A tag is an hours tag if byte 0 is 72, byte 1 is the pond, and four 16-bit big-endian numbers follow: earliest and latest start, shortest and
-- longest run, in minutes of the week. Starts go up to 10,079, runs from 1 to 1,440, the first of each pair not above the second; the last six bytes are free. Any other tag is
-- plain."
use Rattle.std.specs.Prelude.{Option, None, Some, ℕ, ◌≤◌, ◌≡◌, List, ◌∷◌, ◌++◌, Bool, cond, ◌&&◌, length, get_or, eqb, leb}
use Rattle.bytes_words.specs.Words.{bytes_in}
use Rattle.bytes_pairs.specs.Pairs.{pair_at}
use Rattle.update_format.specs.Update.{tag_length}
use Rattle.hours_tags.specs.declared.Limits.{Limits}

-- "byte 0 is 72"
abbrev pub hours_mark : ℕ
hours_mark = 72

-- "Starts go up to 10,079, runs from 1 to 1,440"
abbrev pub last_start : ℕ
last_start = 10079

abbrev pub shortest_run : ℕ
shortest_run = 1

abbrev pub longest_run : ℕ
longest_run = 1440

-- "byte 1 is the pond, and four 16-bit big-endian numbers follow: earliest and latest start, shortest and longest run"
abbrev pub limits_in : List ℕ → Limits
limits_in t = record { pond = get_or t 1 0; earliest = pair_at t 2; latest = pair_at t 4; shortest = pair_at t 6; longest = pair_at t 8 }

-- "Starts go up to 10,079, runs from 1 to 1,440, the first of each pair not above the second"
pub record Bounded (h : Limits) : Type 0 where
  pub earliest_to : h.earliest ≤ last_start
  pub latest_to : h.latest ≤ last_start
  pub shortest_from : shortest_run ≤ h.shortest
  pub shortest_to : h.shortest ≤ longest_run
  pub longest_from : shortest_run ≤ h.longest
  pub longest_to : h.longest ≤ longest_run
  pub starts_ordered : h.earliest ≤ h.latest
  pub runs_ordered : h.shortest ≤ h.longest

-- the tag is an hours tag that says these limits
pub record HoursTag (t : List ℕ) (h : Limits) : Type 0 where
  pub sized : length t ≡ tag_length
  pub marked : get_or t 0 0 ≡ hours_mark
  pub says : limits_in t ≡ h
  pub in_bounds : Bounded h

-- The same as tests. (Bounds of one of a pair that follow from those of the other are left out: `bounded→`.)
unfoldable pub bounded : Limits → Bool
bounded h =
    leb h.earliest h.latest
    && (leb h.latest last_start && (leb shortest_run h.shortest && (leb h.shortest h.longest && leb h.longest longest_run)))

unfoldable pub read_tag : List ℕ → Option Limits
read_tag t = cond (eqb (length t) tag_length && (eqb (get_or t 0 0) hours_mark && bounded (limits_in t))) (Some (limits_in t)) None

-- the hours tag that says limits, with its last six bytes: the layout once more, from the limits to the bytes
abbrev pub tag_of : Limits → List ℕ → List ℕ
tag_of h free = hours_mark ∷ h.pond ∷ (bytes_in 2 h.earliest ++ (bytes_in 2 h.latest ++ (bytes_in 2 h.shortest ++ (bytes_in 2 h.longest ++ free))))
