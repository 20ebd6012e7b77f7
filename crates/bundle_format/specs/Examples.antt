-- Worked examples: bytes that are a bundle, with their items, and bytes that are none.
use Rattle.std.specs.Prelude.{ℕ, ◌≡◌, refl, List, [], ◌∷◌, replicate}
use Rattle.std.specs.Prelude.{None, Some}
use Rattle.bytes_order.specs.Member.{concat_map}
use Rattle.bytes_words.specs.Words.{bytes_in, big_of}
use Rattle.bundle_format.specs.Bundle.{longest_item, items_within, items_of, bundle_of}

-- no items are a bundle too
pub no_items : items_of [] ≡ Some []
unfolding items_within
no_items = refl

-- three bytes, none, and one
abbrev three : List (List ℕ)
three = (7 ∷ 8 ∷ 9 ∷ []) ∷ [] ∷ (5 ∷ []) ∷ []

abbrev three_bytes : List ℕ
three_bytes = 0 ∷ 3 ∷ 7 ∷ 8 ∷ 9 ∷ 0 ∷ 0 ∷ 0 ∷ 1 ∷ 5 ∷ []

pub three-items : items_of three_bytes ≡ Some three
unfolding items_within big_of
three-items = refl

pub three-laid-out : bundle_of three ≡ three_bytes
unfolding concat_map bytes_in
three-laid-out = refl

-- big-endian: 1, 2 is the length 258
pub long-item : items_of (1 ∷ 2 ∷ replicate 258 5) ≡ Some (replicate 258 5 ∷ [])
unfolding items_within big_of
long-item = refl

-- the longest length
pub longest-length : big_of (255 ∷ 255 ∷ []) ≡ longest_item
unfolding big_of
longest-length = refl

-- a length that runs past the end by one byte; a byte of an item that is cut, with a length or without
pub past_the_end : items_of (0 ∷ 1 ∷ 5 ∷ 0 ∷ 3 ∷ 7 ∷ 8 ∷ []) ≡ None
unfolding items_within big_of
past_the_end = refl

pub length_cut : items_of (0 ∷ 1 ∷ 5 ∷ 0 ∷ []) ≡ None
unfolding items_within big_of
length_cut = refl

pub bytes_cut : items_of (0 ∷ 1 ∷ []) ≡ None
unfolding items_within big_of
bytes_cut = refl

-- 64 items, and 65
pub most-items : items_of (replicate 128 0) ≡ Some (replicate 64 [])
unfolding items_within big_of
most-items = refl

pub one-too-many : items_of (replicate 130 0) ≡ None
unfolding items_within big_of
one-too-many = refl
