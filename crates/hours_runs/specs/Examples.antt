-- Worked examples, by hand from the request's words: of two tags' limits, whether they surely overlap and whether they may. The first of a row starts from 480 to 540 and runs
-- for 60 to 90 minutes, unless the row says otherwise: so it covers minute 539 at the latest start or not, ends at 540 at the earliest, and at 630 at the latest.
use Rattle.std.specs.Prelude.{ℕ, ◌≡◌, refl, Bool, true, false, List, [], ◌∷◌, map}
use Rattle.hours_tags.specs.declared.Limits.{Limits}
use Rattle.hours_runs.specs.Runs.{surely, may}

pub record Row : Type 0 where
  pub one : Limits
  pub other : Limits
  pub always : Bool
  pub ever : Bool

limits : ℕ → ℕ → ℕ → ℕ → Limits
limits e l s g = record { pond = 5; earliest = e; latest = l; shortest = s; longest = g }

row : Limits → Limits → Bool → Bool → Row
row g h a e = record { one = g; other = h; always = a; ever = e }

pub rows : List Row
rows =
    -- known to the minute: from 480 for 60 minutes, to 539; then one from 540, from 539, up to 480, up to 481
    row (limits 480 480 60 60) (limits 540 540 60 60) false false
    ∷ row (limits 480 480 60 60) (limits 539 539 60 60) true true
    ∷ row (limits 480 480 60 60) (limits 420 420 60 60) false false
    ∷ row (limits 480 480 60 60) (limits 420 420 61 61) true true
    ∷ row (limits 480 480 60 60) (limits 480 480 1 1) true true
    ∷ row (limits 480 480 1 1) (limits 481 481 1 1) false false
    -- it ends at 630 at the latest: a start at 630 never meets it, one at 629 may
    ∷ row (limits 480 540 60 90) (limits 630 700 60 60) false false
    ∷ row (limits 480 540 60 90) (limits 629 700 60 60) false true
    -- it ends at 540 at the earliest, and starts at 540 at the latest: a run from 539 to 540, both covered, is surely met; one a minute shorter or later is not
    ∷ row (limits 480 540 60 90) (limits 539 539 2 2) true true
    ∷ row (limits 480 540 60 90) (limits 539 539 1 1) false true
    ∷ row (limits 480 540 60 90) (limits 540 540 2 2) false true
    -- a start that is not known, of a run that is: from 500 for 60 minutes at the latest start ends at 600
    ∷ row (limits 480 500 60 90) (limits 500 539 60 60) true true
    ∷ row (limits 480 500 60 90) (limits 500 540 60 60) false true
    -- the limits of one within those of the other are not enough for surely
    ∷ row (limits 0 10079 1 1440) (limits 480 540 60 90) false true
    -- the last minute of Sunday, and the first of Monday: a run that goes on past the week's end meets none of the week's first minutes
    ∷ row (limits 10079 10079 1440 1440) (limits 0 0 1 1440) false false
    ∷ row (limits 10079 10079 1440 1440) (limits 0 1380 1 1440) false false
    -- two that both run past it meet in the last minute
    ∷ row (limits 10079 10079 1440 1440) (limits 10079 10079 1 1) true true
    ∷ row (limits 10079 10079 1 1) (limits 8639 8639 1440 1440) false false
    ∷ row (limits 10079 10079 1 1) (limits 8640 8640 1440 1440) true true
    -- the first minute of the week
    ∷ row (limits 0 0 1 1) (limits 0 0 1440 1440) true true
    ∷ row (limits 0 0 1 1) (limits 0 1 1 1) false true
    ∷ []

pub surely-by-hand : map (λ (r : Row). surely r.one r.other) rows ≡ map (λ (r : Row). r.always) rows
unfolding limits row rows surely
surely-by-hand = refl

pub may-by-hand : map (λ (r : Row). may r.one r.other) rows ≡ map (λ (r : Row). r.ever) rows
unfolding limits row rows may
may-by-hand = refl
