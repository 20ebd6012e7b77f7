-- The facts of an update in one word: its author, its kind byte, the count of its predecessors and the count of the ids that it names, a byte each, the author lowest. From them
-- alone the offsets of its fields follow, as reading its bytes gives them.
use Rattle.std.specs.Prelude.{ℕ, ◌+◌, ◌*◌, ◌/◌, ◌%◌, ◌≤◌, cond, eqb}
use Rattle.update_format.specs.Update.{id_length, tag_length, max_count}
use Rattle.update_format.specs.Decode.{first_predecessor}
use Rattle.update_format.specs.declared.Operation.{Operation}
use Rattle.update_format.specs.declared.Operation.TheVariants.{Add, Remove, Insert, Delete}
use Rattle.update_format.specs.declared.Parsed.{Parsed}

abbrev pub kind_in : Operation → ℕ
kind_in (Add tag) = 1
kind_in (Remove tag named count) = 2
kind_in (Insert anchor value) = 3
kind_in (Delete deleted) = 4

abbrev pub named_in : Operation → ℕ
named_in (Add tag) = 0
named_in (Remove tag named count) = count
named_in (Insert anchor value) = 0
named_in (Delete deleted) = 0

-- the facts of an update that was read
unfoldable pub packed : Parsed → ℕ
packed p = p.author + 256 * kind_in p.operation + 65536 * p.count + 16777216 * named_in p.operation

-- the facts that a word has, whatever word it is
abbrev pub author_by : ℕ → ℕ
author_by w = w % 256

abbrev pub kind_by : ℕ → ℕ
kind_by w = w / 256 % 256

abbrev pub predecessors_by : ℕ → ℕ
predecessors_by w = w / 65536 % 256

abbrev pub named_by : ℕ → ℕ
named_by w = w / 16777216 % 256

-- where the operation's own bytes begin, after the predecessors and the kind byte
abbrev pub body_by : ℕ → ℕ
body_by w = first_predecessor + id_length * predecessors_by w + 1

-- the offsets of the operation's fields; a kind that is none of the four is taken for a Delete
unfoldable pub operation_by : ℕ → Operation
operation_by w =
    cond (eqb (kind_by w) 1) (Add (body_by w))
    (cond (eqb (kind_by w) 2) (Remove (body_by w) (body_by w + tag_length + 1) (named_by w))
    (cond (eqb (kind_by w) 3) (Insert (body_by w) (body_by w + id_length))
    (Delete (body_by w))))

unfoldable pub unpacked : ℕ → Parsed
unpacked w = record { author = author_by w; count = predecessors_by w; operation = operation_by w }

-- each fact is a byte
pub record Packable (p : Parsed) : Type 0 where
  pub author_byte : p.author ≤ max_count
  pub count_byte : p.count ≤ max_count
  pub named_byte : named_in p.operation ≤ max_count
