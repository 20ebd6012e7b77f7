-- What the reader knows where it tests an operation's bytes: the kind, the place after its byte, and a Remove's count byte.
use Rattle.std.specs.Prelude.{ℕ, ◌+◌, ◌≤◌, ◌≡◌, List}
use Rattle.update_format.specs.Update.{tag_length}
use Rattle.update_format.specs.Decode.{farthest_body, kind_of, body_at, named_count_at, named_count_of, count_of}
use Rattle.update_format.specs.Kinds.{kind_byte}
use Rattle.update_format.specs.ParseResult.{offsets_of}
use Rattle.update_format.specs.declared.kind.Kind.{Kind}
use Rattle.update_format.specs.declared.Operation.{Operation}

pub record AtBody (b : List ℕ) (kind : Kind) (at named : ℕ) : Type 0 where
  pub byte : kind_byte kind ≡ kind_of b
  pub place : at ≡ body_at b
  pub count : named ≡ named_count_of b
  pub small : at ≤ farthest_body

-- .. and where a Remove's count byte stands
pub record AtCount (b : List ℕ) (at named : ℕ) : Type 0 where
  pub remove : kind_of b ≡ 2
  pub place : at ≡ named_count_at b
  pub count : named ≡ named_count_of b
  pub small : at ≤ farthest_body + tag_length

-- what is known once the count of the predecessors and the offsets of the operation's fields are read
pub record OffsetsRead (b : List ℕ) (count : ℕ) (operation : Operation) : Type 0 where
  pub count_right : count ≡ count_of b
  pub offsets_right : operation ≡ offsets_of b
