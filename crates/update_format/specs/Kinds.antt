-- The kinds of operation as document 01's kind bytes: "1 Add, 2 Remove, 3 Insert, 4 Delete"; and where the fields of an operation of a kind stand.
use Rattle.std.specs.Prelude.{ℕ, ◌+◌, ◌≡◌, ◌<◌, ◌≤◌, Result, MatchResult}
use Rattle.update_format.specs.Update.{id_length, tag_length}
use Rattle.update_format.specs.declared.kind.Kind.{Kind}
use Rattle.update_format.specs.declared.kind.Kind.TheVariants.{Add, Remove, Insert, Delete}
use Rattle.update_format.specs.declared.kind.UnknownKind.{UnknownKind}
use Rattle.update_format.specs.declared.Operation.{Operation}
use Rattle.update_format.specs.declared.Operation.TheVariants.{Add as AddAt, Remove as RemoveAt, Insert as InsertAt, Delete as DeleteAt}

-- the byte of a kind
abbrev pub kind_byte : Kind → ℕ
kind_byte Add = 1
kind_byte Remove = 2
kind_byte Insert = 3
kind_byte Delete = 4

-- the result is the kind of the byte; or the byte, where it is none of 1 to 4
abbrev pub Decodes : ℕ → Result Kind UnknownKind → Type 0
Decodes byte r = MatchResult r (λ kind. kind_byte kind ≡ byte) (λ e. (e.0 ≡ byte) × (1 ≤ byte → 4 < byte))

-- the offsets of the fields of an operation of a kind: its own bytes begin at `at`, and a Remove names n ids
abbrev pub offsets_by : Kind → ℕ → ℕ → Operation
offsets_by Add at n = AddAt at
offsets_by Remove at n = RemoveAt at (at + tag_length + 1) n
offsets_by Insert at n = InsertAt at (at + id_length)
offsets_by Delete at n = DeleteAt at
