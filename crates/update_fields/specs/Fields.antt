-- The fields of what bytes decode to, and tests of its operation.
use Rattle.std.specs.Prelude.{ℕ, List, [], Bool, true, false}
use Rattle.bytes_order.specs.Member.{concat_map}
use Rattle.update_format.specs.Update.{Id, Operation, Add, Remove, Insert, Delete}
use Rattle.update_format.specs.Decode.{Decoded, refused, update}
use Rattle.rules.specs.SetEntry.{SetEntry}
use Rattle.rules.specs.Settle.{tags_of, values_of}

-- it is an update whose operation passes a test
unfoldable pub test_of : (Operation → Bool) → Decoded → Bool
test_of p (refused n) = false
test_of p (update u) = p u.op

-- the author of what bytes decode to; 0 where they are no update
unfoldable pub author_in : Decoded → ℕ
author_in (refused n) = 0
author_in (update u) = u.author

unfoldable pub is_any_add : Operation → Bool
is_any_add (Add t) = true
is_any_add (Remove t named) = false
is_any_add (Insert a v) = false
is_any_add (Delete i) = false

-- the tag of an Add, the anchor and the value of an Insert; no bytes of another
unfoldable pub tag_in : Decoded → List ℕ
tag_in (refused n) = []
tag_in (update u) = concat_map (λ (t : List ℕ). t) (tags_of u.op)

unfoldable pub value_in : Decoded → List ℕ
value_in (refused n) = []
value_in (update u) = concat_map (λ (v : List ℕ). v) (values_of u.op)

unfoldable pub anchor_of : Operation → Id
anchor_of (Add t) = []
anchor_of (Remove t named) = []
anchor_of (Insert a v) = a
anchor_of (Delete i) = []

unfoldable pub anchor_in : Decoded → Id
anchor_in (refused n) = []
anchor_in (update u) = anchor_of u.op

-- the set entry of an Add
abbrev pub set_entry_in : Decoded → SetEntry
set_entry_in d = record { tag = tag_in d; author = author_in d }
