-- Document 02, E1: the items of a bundle. "each item a two-byte big-endian length, then its bytes, at most 64 items"; and 13 "if a length runs past the end, an item is
-- cut, or there are more than 64 items".
use Rattle.std.specs.Prelude.{ℕ, zero, suc, ◌+◌, List, [], ◌∷◌, ◌++◌, Bool, cond, length, take, drop, leb}
use Rattle.std.specs.Prelude.{Option, None, Some}
use Rattle.bytes_order.specs.Member.{concat_map}
use Rattle.bytes_words.specs.Words.{bytes_in, big_of}

-- "a two-byte .. length"
abbrev pub length_bytes : ℕ
length_bytes = 2

-- the longest item of which such a length can tell
abbrev pub longest_item : ℕ
longest_item = 65535

-- "at most 64 items": the request's own number, whatever number of places a ledger has
abbrev pub most_items : ℕ
most_items = 64

-- What bytes begin with: the length that their first two bytes say; so many bytes after these, as far as there are bytes; and what follows.
abbrev pub first_length : List ℕ → ℕ
first_length b = big_of (take length_bytes b)

abbrev pub first_item : List ℕ → List ℕ
first_item b = take (first_length b) (drop length_bytes b)

abbrev pub after_first : List ℕ → List ℕ
after_first b = drop (length_bytes + first_length b) b

-- the length is not cut and does not run past the end
abbrev pub first_whole : List ℕ → Bool
first_whole b = leb (length_bytes + first_length b) (length b)

abbrev pub with_first : List ℕ → Option (List (List ℕ)) → Option (List (List ℕ))
with_first x None = None
with_first x (Some xs) = Some (x ∷ xs)

-- the items that the bytes are, one after the other, read from the front; none where one is not whole, or where there are more than n
unfoldable pub items_within : ℕ → List ℕ → Option (List (List ℕ))
items_within zero [] = Some []
items_within zero (x ∷ b) = None
items_within (suc n) [] = Some []
items_within (suc n) (x ∷ b) = cond (first_whole (x ∷ b)) (with_first (first_item (x ∷ b)) (items_within n (after_first (x ∷ b)))) None

-- the items of a bundle; none where the bytes are no bundle
abbrev pub items_of : List ℕ → Option (List (List ℕ))
items_of b = items_within most_items b

-- the bytes that items are laid out in
abbrev pub item_bytes : List ℕ → List ℕ
item_bytes x = bytes_in length_bytes (length x) ++ x

abbrev pub bundle_of : List (List ℕ) → List ℕ
bundle_of xs = concat_map item_bytes xs
