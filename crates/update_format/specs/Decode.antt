-- From bytes to an update: rows 2 to 9 of document 01's table in their order, then the value. Rows 2, 4 and 5 go by the bounds that are chosen.
use Rattle.std.specs.Prelude.{ℕ, zero, suc, ◌+◌, ◌*◌, ◌/◌, ◌%◌, List, [], ◌∷◌, Bool, cond, not, ◌&&◌, ◌||◌, length, get_or, take, drop, ltb, leb, eqb}
use Rattle.bytes_order.specs.Order.{ascending}
use Rattle.update_format.specs.declared.Bounds.{Bounds}
use Rattle.update_format.specs.Update.{max_count, max_named, id_length, tag_length, min_length, max_length, Id, Operation, Add, Remove, Insert, Delete, Update}

-- the k bytes of b from byte at on
abbrev pub slice : List ℕ → ℕ → ℕ → List ℕ
slice b at k = take k (drop at b)

-- the n ids of b from byte at on
unfoldable pub ids_at : List ℕ → ℕ → ℕ → List Id
ids_at b at zero = []
ids_at b at (suc n) = slice b at id_length ∷ ids_at b (at + id_length) n

-- the bytes are whole ids end to end: "a multiple of 32"
abbrev pub whole_ids : List ℕ → Bool
whole_ids b = eqb (length b % id_length) 0

-- how many ids they are, and the ids
abbrev pub id_count : List ℕ → ℕ
id_count b = length b / id_length

abbrev pub ids_in : List ℕ → List Id
ids_in b = ids_at b 0 (id_count b)

-- the fields of a layout, as far as there are bytes (0 stands for a missing one)
abbrev pub author_of : List ℕ → ℕ
author_of b = get_or b 1 0

abbrev pub count_of : List ℕ → ℕ
count_of b = get_or b 2 0

abbrev pub first_predecessor : ℕ
first_predecessor = 3

-- where the kind byte stands
abbrev pub kind_at : List ℕ → ℕ
kind_at b = first_predecessor + id_length * count_of b

abbrev pub kind_of : List ℕ → ℕ
kind_of b = get_or b (kind_at b) 0

-- where the operation's own bytes begin
abbrev pub body_at : List ℕ → ℕ
body_at b = kind_at b + 1

-- the farthest that they can begin
abbrev pub farthest_body : ℕ
farthest_body = first_predecessor + id_length * max_count + 1

-- where a Remove's count byte m stands, and what it says
abbrev pub named_count_at : List ℕ → ℕ
named_count_at b = body_at b + tag_length

abbrev pub named_count_of : List ℕ → ℕ
named_count_of b = get_or b (named_count_at b) 0

-- the length that kind and counts give
unfoldable pub length_of : List ℕ → ℕ
length_of b =
    cond (eqb (kind_of b) 1) (body_at b + tag_length)
    (cond (eqb (kind_of b) 2) (named_count_at b + 1 + id_length * named_count_of b)
    (cond (eqb (kind_of b) 3) (body_at b + id_length + tag_length)
    (body_at b + id_length)))

-- the named ids of a Remove; none of another kind
unfoldable pub named_of : List ℕ → List Id
named_of b = cond (eqb (kind_of b) 2) (ids_at b (named_count_at b + 1) (named_count_of b)) []

-- The rows of the table. Each says when its cause applies, where those above it do not.
unfoldable pub row2 : Bounds → List ℕ → Bool
row2 bounds b = ltb (length b) min_length || ltb (max_length bounds) (length b)

unfoldable pub row3 : List ℕ → Bool
row3 b = not (eqb (get_or b 0 0) 1)

unfoldable pub row4 : Bounds → List ℕ → Bool
row4 bounds b = leb bounds.authors (author_of b)

unfoldable pub row5 : Bounds → List ℕ → Bool
row5 bounds b = ltb bounds.predecessors (count_of b)

-- "ends before its kind byte"
unfoldable pub row6 : List ℕ → Bool
row6 b = leb (length b) (kind_at b)

-- "kind not 1 to 4"
unfoldable pub row7 : List ℕ → Bool
row7 b = ltb (kind_of b) 1 || ltb 4 (kind_of b)

-- "m missing or above 8, or length not what kind and counts give"
unfoldable pub row8 : List ℕ → Bool
row8 b =
    (eqb (kind_of b) 2 && (leb (length b) (named_count_at b) || ltb max_named (named_count_of b)))
    || not (eqb (length b) (length_of b))

-- "ids not strictly ascending"
unfoldable pub row9 : List ℕ → Bool
row9 b = not (ascending (ids_at b first_predecessor (count_of b)) && ascending (named_of b))

-- the operation that the bytes lay out
unfoldable pub operation_of : List ℕ → Operation
operation_of b =
    cond (eqb (kind_of b) 1) (Add (slice b (body_at b) tag_length))
    (cond (eqb (kind_of b) 2) (Remove (slice b (body_at b) tag_length) (named_of b))
    (cond (eqb (kind_of b) 3) (Insert (slice b (body_at b) id_length) (slice b (body_at b + id_length) tag_length))
    (Delete (slice b (body_at b) id_length))))

unfoldable pub update_of : List ℕ → Update
update_of b = record { author = author_of b; preds = ids_at b first_predecessor (count_of b); op = operation_of b }

-- a refusal by its number, or the update
pub data Decoded : Type 0 where
  refused : ℕ → Decoded
  update : Update → Decoded

unfoldable pub decode : Bounds → List ℕ → Decoded
decode bounds b =
    cond (row2 bounds b) (refused 2)
    (cond (row3 b) (refused 3)
    (cond (row4 bounds b) (refused 4)
    (cond (row5 bounds b) (refused 5)
    (cond (row6 b) (refused 6)
    (cond (row7 b) (refused 7)
    (cond (row8 b) (refused 8)
    (cond (row9 b) (refused 9)
    (update (update_of b)))))))))
