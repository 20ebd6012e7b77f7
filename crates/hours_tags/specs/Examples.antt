-- Worked examples, by hand from the request's words: each bound's two edges. 480 is 1, 224 in two bytes, 540 is 2, 28; 10,079 is 39, 95; 1,440 is 5, 160.
use Rattle.std.specs.Prelude.{Option, None, Some, ℕ, ◌≡◌, refl, List, [], ◌∷◌, ◌++◌, map, replicate}
use Rattle.bytes_words.specs.Words.{bytes_in, big_of}
use Rattle.hours_tags.specs.declared.Limits.{Limits}
use Rattle.hours_tags.specs.Hours.{bounded, read_tag, tag_of}

pub record Row : Type 0 where
  pub tag : List ℕ
  pub is : Option Limits

row : List ℕ → Option Limits → Row
row t r = record { tag = t; is = r }

-- ten bytes, and six more that are free
ten : List ℕ → List ℕ
ten b = b ++ (1 ∷ 2 ∷ 3 ∷ 4 ∷ 5 ∷ 255 ∷ [])

says : ℕ → ℕ → ℕ → ℕ → ℕ → Option Limits
says p e l s g = Some (record { pond = p; earliest = e; latest = l; shortest = s; longest = g })

pub rows : List Row
rows =
    row (ten (72 ∷ 5 ∷ 1 ∷ 224 ∷ 2 ∷ 28 ∷ 0 ∷ 60 ∷ 0 ∷ 90 ∷ [])) (says 5 480 540 60 90)
    -- byte 0
    ∷ row (ten (71 ∷ 5 ∷ 1 ∷ 224 ∷ 2 ∷ 28 ∷ 0 ∷ 60 ∷ 0 ∷ 90 ∷ [])) None
    ∷ row (ten (73 ∷ 5 ∷ 1 ∷ 224 ∷ 2 ∷ 28 ∷ 0 ∷ 60 ∷ 0 ∷ 90 ∷ [])) None
    -- every pond
    ∷ row (ten (72 ∷ 0 ∷ 1 ∷ 224 ∷ 2 ∷ 28 ∷ 0 ∷ 60 ∷ 0 ∷ 90 ∷ [])) (says 0 480 540 60 90)
    ∷ row (ten (72 ∷ 255 ∷ 1 ∷ 224 ∷ 2 ∷ 28 ∷ 0 ∷ 60 ∷ 0 ∷ 90 ∷ [])) (says 255 480 540 60 90)
    -- starts from 0 to 10,079, and 10,080
    ∷ row (ten (72 ∷ 5 ∷ 0 ∷ 0 ∷ 0 ∷ 0 ∷ 0 ∷ 60 ∷ 0 ∷ 90 ∷ [])) (says 5 0 0 60 90)
    ∷ row (ten (72 ∷ 5 ∷ 39 ∷ 95 ∷ 39 ∷ 95 ∷ 0 ∷ 60 ∷ 0 ∷ 90 ∷ [])) (says 5 10079 10079 60 90)
    ∷ row (ten (72 ∷ 5 ∷ 39 ∷ 95 ∷ 39 ∷ 96 ∷ 0 ∷ 60 ∷ 0 ∷ 90 ∷ [])) None
    ∷ row (ten (72 ∷ 5 ∷ 39 ∷ 96 ∷ 39 ∷ 96 ∷ 0 ∷ 60 ∷ 0 ∷ 90 ∷ [])) None
    -- runs of 1 and 1,440, and of 0 and 1,441
    ∷ row (ten (72 ∷ 5 ∷ 1 ∷ 224 ∷ 2 ∷ 28 ∷ 0 ∷ 1 ∷ 0 ∷ 1 ∷ [])) (says 5 480 540 1 1)
    ∷ row (ten (72 ∷ 5 ∷ 1 ∷ 224 ∷ 2 ∷ 28 ∷ 0 ∷ 0 ∷ 0 ∷ 1 ∷ [])) None
    ∷ row (ten (72 ∷ 5 ∷ 1 ∷ 224 ∷ 2 ∷ 28 ∷ 0 ∷ 0 ∷ 0 ∷ 0 ∷ [])) None
    ∷ row (ten (72 ∷ 5 ∷ 1 ∷ 224 ∷ 2 ∷ 28 ∷ 5 ∷ 160 ∷ 5 ∷ 160 ∷ [])) (says 5 480 540 1440 1440)
    ∷ row (ten (72 ∷ 5 ∷ 1 ∷ 224 ∷ 2 ∷ 28 ∷ 5 ∷ 160 ∷ 5 ∷ 161 ∷ [])) None
    ∷ row (ten (72 ∷ 5 ∷ 1 ∷ 224 ∷ 2 ∷ 28 ∷ 5 ∷ 161 ∷ 5 ∷ 161 ∷ [])) None
    -- the first of a pair equal to the second, and one above it
    ∷ row (ten (72 ∷ 5 ∷ 2 ∷ 28 ∷ 2 ∷ 28 ∷ 0 ∷ 60 ∷ 0 ∷ 90 ∷ [])) (says 5 540 540 60 90)
    ∷ row (ten (72 ∷ 5 ∷ 2 ∷ 29 ∷ 2 ∷ 28 ∷ 0 ∷ 60 ∷ 0 ∷ 90 ∷ [])) None
    ∷ row (ten (72 ∷ 5 ∷ 1 ∷ 224 ∷ 2 ∷ 28 ∷ 0 ∷ 90 ∷ 0 ∷ 90 ∷ [])) (says 5 480 540 90 90)
    ∷ row (ten (72 ∷ 5 ∷ 1 ∷ 224 ∷ 2 ∷ 28 ∷ 0 ∷ 91 ∷ 0 ∷ 90 ∷ [])) None
    -- the lower byte first
    ∷ row (ten (72 ∷ 5 ∷ 224 ∷ 1 ∷ 28 ∷ 2 ∷ 60 ∷ 0 ∷ 90 ∷ 0 ∷ [])) None
    -- no bytes, zeros, a byte less than a tag and a byte more
    ∷ row [] None
    ∷ row (replicate 16 0) None
    ∷ row (72 ∷ 5 ∷ 1 ∷ 224 ∷ 2 ∷ 28 ∷ 0 ∷ 60 ∷ 0 ∷ 90 ∷ replicate 5 0) None
    ∷ row (72 ∷ 5 ∷ 1 ∷ 224 ∷ 2 ∷ 28 ∷ 0 ∷ 60 ∷ 0 ∷ 90 ∷ replicate 7 0) None
    ∷ []

pub tags-by-hand : map (λ (r : Row). read_tag r.tag) rows ≡ map (λ (r : Row). r.is) rows
unfolding row ten says rows read_tag bounded big_of
tags-by-hand = refl

pub tag-by-hand : tag_of (record { pond = 5; earliest = 480; latest = 10079; shortest = 60; longest = 1440 }) (1 ∷ 2 ∷ 3 ∷ 4 ∷ 5 ∷ 6 ∷ [])
    ≡ 72 ∷ 5 ∷ 1 ∷ 224 ∷ 39 ∷ 95 ∷ 0 ∷ 60 ∷ 5 ∷ 160 ∷ 1 ∷ 2 ∷ 3 ∷ 4 ∷ 5 ∷ 6 ∷ []
unfolding bytes_in
tag-by-hand = refl
