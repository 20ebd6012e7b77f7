-- Document 02, E12: runs within limits, and which of them overlap. Minutes are counted on from the week's first, which is minute 0, and nothing wraps: "Sunday does not run on
-- into Monday."
use Rattle.std.specs.Prelude.{ℕ, ◌+◌, ◌≤◌, ◌<◌, Bool, ◌&&◌, ltb}
use Rattle.hours_tags.specs.declared.Limits.{Limits}

-- "A run covers its start minute and as many minutes as its length in all"
pub record Covers (start run minute : ℕ) : Type 0 where
  pub from_start : start ≤ minute
  pub before_end : minute < start + run

-- two runs overlap where some minute is in both
pub record Overlap (start run start' run' : ℕ) : Type 0 where
  pub minute : ℕ
  pub in_one : Covers start run minute
  pub in_other : Covers start' run' minute

-- a choice within the limits: a start and a length
pub record Choice (h : Limits) (start run : ℕ) : Type 0 where
  pub start_from : h.earliest ≤ start
  pub start_to : start ≤ h.latest
  pub run_from : h.shortest ≤ run
  pub run_to : run ≤ h.longest

-- ""Surely" means for every choice within the limits, "may" means for some."
abbrev pub Surely : Limits → Limits → Type 0
Surely g h = (s r s' r' : ℕ) → Choice g s r → Choice h s' r' → Overlap s r s' r'

pub record May (g h : Limits) : Type 0 where
  pub start : ℕ
  pub run : ℕ
  pub start' : ℕ
  pub run' : ℕ
  pub one_chosen : Choice g start run
  pub other_chosen : Choice h start' run'
  pub overlap : Overlap start run start' run'

-- The same by comparisons of the limits: each starts before the other ends, the latest start before the earliest end, or the earliest start before the latest end.
unfoldable pub surely : Limits → Limits → Bool
surely g h = ltb g.latest (h.earliest + h.shortest) && ltb h.latest (g.earliest + g.shortest)

unfoldable pub may : Limits → Limits → Bool
may g h = ltb g.earliest (h.latest + h.longest) && ltb h.earliest (g.latest + g.longest)
