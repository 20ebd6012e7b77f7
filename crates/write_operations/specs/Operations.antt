-- The operation that is asked for, and what rows 8 and 9 say of the named ids' bytes.
use Rattle.std.specs.Prelude.{ℕ, ◌+◌, ◌*◌, List, Bool, not, ◌||◌, length, ltb}
use Rattle.bytes_order.specs.Order.{ascending}
use Rattle.update_format.specs.Update.{Id, max_named, id_length, tag_length, Operation, Add, Remove, Insert, Delete}
use Rattle.update_format.specs.Decode.{whole_ids, ids_in}
use Rattle.update_format.specs.declared.kind.Kind.{Kind}
use Rattle.update_format.specs.declared.kind.Kind.TheVariants.{Add as AnAdd, Remove as ARemove, Insert as AnInsert, Delete as ADelete}

-- the most bytes that named ids have: 256
abbrev pub max_named_length : ℕ
max_named_length = id_length * max_named

-- the most bytes that an operation has, those of a Remove: the kind, the tag, the count and the named ids
abbrev pub max_operation_length : ℕ
max_operation_length = 1 + tag_length + 1 + max_named_length

-- No field of a written update begins beyond this byte, so that no sum wraps: before an operation there are at most the header and an id for each place.
abbrev pub farthest_field : ℕ
farthest_field = 3000

-- the operation of a kind: a tag or value of 16 bytes, an anchor or deleted id of 32, and the named ids as bytes; of these a kind has only its own
unfoldable pub operation_for : Kind → List ℕ → Id → List ℕ → Operation
operation_for AnAdd t i named = Add t
operation_for ARemove t i named = Remove t (ids_in named)
operation_for AnInsert t i named = Insert i t
operation_for ADelete t i named = Delete i

-- row 8 of the writer, whatever the kind: "named ids' bytes not a multiple of 32, or over 256"
unfoldable pub bad_named : List ℕ → Bool
bad_named named = not (whole_ids named) || ltb max_named_length (length named)

-- row 9 of the writer, whatever the kind: "ids not strictly ascending"
unfoldable pub unordered_named : List ℕ → Bool
unordered_named named = not (ascending (ids_in named))
