-- Document 01, "Command and report": how an input line reads.
use Rattle.std.specs.Prelude.{ℕ, ◌+◌, ◌-◌, ◌*◌, ◌/◌, List, [], ◌∷◌, Bool, cond, ◌&&◌, length, take, drop, leb}
use Rattle.std.specs.Prelude.{Option, None, Some}
use Rattle.bytes_order.specs.Order.{same}
use Rattle.bytes_ascii.specs.Ascii.{ascii}

-- "H lowercase hexadecimal digits, even in number, perhaps none": the bytes that they spell

-- the value of a digit
unfoldable pub digit_of : ℕ → Option ℕ
digit_of c = cond (leb 48 c && leb c 57) (Some (c - 48)) (cond (leb 97 c && leb c 102) (Some (c - 87)) None)

unfoldable pub byte_of : Option ℕ → Option ℕ → Option ℕ
byte_of None y = None
byte_of (Some x) None = None
byte_of (Some x) (Some y) = Some (16 * x + y)

unfoldable pub with_byte : Option ℕ → Option (List ℕ) → Option (List ℕ)
with_byte None bs = None
with_byte (Some b) None = None
with_byte (Some b) (Some bs) = Some (b ∷ bs)

unfoldable pub unhex : List ℕ → Option (List ℕ)
unhex [] = Some []
unhex (x ∷ []) = None
unhex (x ∷ y ∷ zs) = with_byte (byte_of (digit_of x) (digit_of y)) (unhex zs)

-- "A line that does not read so, or is over 2,000 characters". Characters are bytes; "The newline is not counted."
abbrev pub max_line : ℕ
max_line = 2000

-- the most bytes that a line offers: two digits each, between `(offer ` and `)`
abbrev pub max_offered : ℕ
max_offered = (max_line - 8) / 2

-- the line begins with `(offer `, ends with `)`, and is long enough for both
unfoldable pub framed : List ℕ → Bool
framed line =
    leb 8 (length line) && (same (take 7 line) (ascii "(offer ") && same (drop (length line - 1) line) (ascii ")"))

-- "Each input line reads `(offer H)`": the offered bytes, of a line that reads so
unfoldable pub read_line : List ℕ → Option (List ℕ)
read_line line = cond (leb (length line) max_line && framed line) (unhex (take (length line - 8) (drop 7 line))) None
