-- How the line in a buffer reads.
use Rattle.std.specs.Prelude.{◌≡◌, ℕ, ◌+◌, ◌*◌, ◌≤◌, List, Bool, cond, ◌&&◌, length, take, drop, leb, Option, None, Some, is_some, unwrap_or}
use Rattle.command_syntax.specs.Syntax.{digit_of, unhex, max_line, read_line}

-- is the byte a digit?
abbrev pub is_digit : ℕ → Bool
is_digit c = is_some (digit_of c)

-- the value of a digit; 0 for any other byte
abbrev pub digit_value : ℕ → ℕ
digit_value c = unwrap_or (digit_of c) 0

-- how the line in the buffer reads
unfoldable pub line_in : List ℕ → ℕ → Option (List ℕ)
line_in buffer fill = cond (leb fill max_line && leb fill (length buffer)) (read_line (take fill buffer)) None

-- how many bytes it offers
abbrev pub line_for : Option (List ℕ) → Option ℕ
line_for None = None
line_for (Some b) = Some (length b)

-- the digits from the eighth byte of the buffer on spell n bytes
pub record Spells (buffer : List ℕ) (n : ℕ) : Type 0 where
  pub room : 2 * n + 8 ≤ length buffer
  pub bytes : List ℕ
  pub digits : unhex (take (2 * n) (drop 7 buffer)) ≡ Some bytes

-- .. and the update buffer has room for them
pub record SpellsInto (buffer : List ℕ) (n : ℕ) (update : List ℕ) : Type 0 where
  pub spells : Spells buffer n
  pub room : n ≤ length update
