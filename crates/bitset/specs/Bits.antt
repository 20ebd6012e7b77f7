-- A set of places as a number, of any size: bit k for place k. Where there are 64 places "an ancestor set is one 64-bit word".
use Rattle.std.specs.Prelude.{ℕ, ◌/◌, ◌%◌, ◌^◌, Bool, cond, eqb, ltb}
use Rattle.std.specs.Int.Bits.{bit_or}
use Rattle.std.specs.Int.Count.{ones}

-- how many places a word has room for
abbrev pub word_bits : ℕ
word_bits = 64

-- place k is in the set w
unfoldable pub has : ℕ → ℕ → Bool
has w k = eqb (w / 2 ^ k % 2) 1

-- the set w with the place k
unfoldable pub including : ℕ → ℕ → ℕ
including w k = bit_or w (2 ^ k)

-- the set w with the place k, if that is below n; else w
unfoldable pub including_below : ℕ → ℕ → ℕ → ℕ
including_below n w k = cond (ltb k n) (including w k) w

-- what is in v or in w
unfoldable pub join : ℕ → ℕ → ℕ
join v w = bit_or v w

-- no place of the set w is at or above n
unfoldable pub within : ℕ → ℕ → Bool
within w n = eqb (w / 2 ^ n) 0

-- how many places are in the set
unfoldable pub count : ℕ → ℕ
count w = ones w
