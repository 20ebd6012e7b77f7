-- One update as a value, and "the update, byte by byte".
use Rattle.std.specs.Prelude.{ℕ, ◌+◌, ◌*◌, ◌≤◌, ◌<◌, ◌≡◌, List, ◌∷◌, ◌++◌, true, length}
use Rattle.bytes_order.specs.Order.{ascending}
use Rattle.update_format.specs.declared.Bounds.{Bounds}
use Rattle.bytes_order.specs.Member.{◌∈◌, concat_map}

-- the bounds of an update that are document 01's own: "author, 0 to 15"; "count n of predecessors, 0 to 8"
abbrev pub document_bounds : Bounds
document_bounds = record { authors = 16; predecessors = 8 }

-- what a count byte can say
abbrev pub max_count : ℕ
max_count = 255

-- the numbers of document 01 that no terms choose, each named once
abbrev pub max_named : ℕ
max_named = 8

abbrev pub id_length : ℕ
id_length = 32

abbrev pub tag_length : ℕ
tag_length = 16

-- the shortest and the longest well-formed update: an Add without predecessors, and a Remove, of length "21 + 32n + 32m", with as many of both as can be: 533 at document
-- 01's bounds (`document-longest`, `Laws`)
abbrev pub min_length : ℕ
min_length = 20

abbrev pub max_length : Bounds → ℕ
max_length bounds = 21 + id_length * bounds.predecessors + id_length * max_named

abbrev pub Id : Type 0
Id = List ℕ

-- Add: a tag. Remove: a tag and the named ids. Insert: an anchor and a value. Delete: an id.
pub data Operation : Type 0 where
  Add : List ℕ → Operation
  Remove : List ℕ → List Id → Operation
  Insert : Id → List ℕ → Operation
  Delete : Id → Operation

pub record Update : Type 0 where
  pub author : ℕ
  pub preds : List Id
  pub op : Operation

-- "One kind byte: 1 Add, 2 Remove, 3 Insert, 4 Delete. Add: a 16-byte tag. Remove: a 16-byte tag, a count byte m (0 to 8), m ids strictly
-- ascending. Insert: a 32-byte anchor, a 16-byte value. Delete: a 32-byte id."
unfoldable pub encode_operation : Operation → List ℕ
encode_operation (Add t) = 1 ∷ t
encode_operation (Remove t named) = 2 ∷ (t ++ (length named ∷ concat_map (λ (i : Id). i) named))
encode_operation (Insert a v) = 3 ∷ (a ++ v)
encode_operation (Delete i) = 4 ∷ i

-- "Byte 0: version, 1. Byte 1: author, 0 to 15. Byte 2: count n of predecessors, 0 to 8. n predecessor ids, strictly ascending. One kind
-- byte .. Nothing follows."
unfoldable pub encode : Update → List ℕ
encode u = 1 ∷ u.author ∷ length u.preds ∷ (concat_map (λ (i : Id). i) u.preds ++ encode_operation u.op)

-- at most k ids, strictly ascending, each of 32 bytes
pub record Ids (k : ℕ) (is : List Id) : Type 0 where
  pub few : length is ≤ k
  pub sized : (i : Id) → i ∈ is → length i ≡ id_length
  pub ordered : ascending is ≡ true

pub data BoundedOperation : Operation → Type 0 where
  add : {t : List ℕ} → length t ≡ tag_length → BoundedOperation (Add t)
  remove : {t : List ℕ} {named : List Id} → length t ≡ tag_length → Ids max_named named → BoundedOperation (Remove t named)
  insert : {a : Id} {v : List ℕ} → length a ≡ id_length → length v ≡ tag_length → BoundedOperation (Insert a v)
  delete : {i : Id} → length i ≡ id_length → BoundedOperation (Delete i)

pub record Bounded (bounds : Bounds) (u : Update) : Type 0 where
  pub author_small : u.author < bounds.authors
  pub preds_bounded : Ids bounds.predecessors u.preds
  pub op_bounded : BoundedOperation u.op

-- "Bytes so laid out, and no others, are a well-formed update."
pub record WellFormed (bounds : Bounds) (b : List ℕ) : Type 0 where
  pub value : Update
  pub bounded : Bounded bounds value
  pub laid_out : encode value ≡ b
