-- Document 01's number for each refusal, and its values for an answer that puts bytes into an output buffer.
use Rattle.std.specs.Prelude.{ℕ}
use Rattle.update_format.specs.ParseResult.{malformed_number}
use Rattle.update_format.specs.declared.Malformed.{Malformed}
use Rattle.update_format.specs.declared.Malformed.TheVariants.{Length, Version, Author, Predecessors, Truncated, Kind, Layout, Unordered}
use Rattle.ledger_refusals.specs.declared.Refusal.{Refusal}
use Rattle.ledger_refusals.specs.declared.Refusal.TheVariants.{Unfit, Malformed as Bad, Full, Short, Invalid, Bundle}

-- The numbers of the rows of "Offers turned away". Those of rows 2 to 9 are the format's, whose tests of the bytes have the rows' names too.

-- "store not 34,112 bytes, over 64 places taken, or a taken place whose length is outside 20 to 533 or whose ancestor word names a place not taken"
abbrev pub row1_number : ℕ
row1_number = 1

-- "length under 20 or over 533"
abbrev pub row2_number : ℕ
row2_number = malformed_number Length

-- "version not 1"
abbrev pub row3_number : ℕ
row3_number = malformed_number Version

-- "author above 15"
abbrev pub row4_number : ℕ
row4_number = malformed_number Author

-- "n above 8"
abbrev pub row5_number : ℕ
row5_number = malformed_number Predecessors

-- "ends before its kind byte"
abbrev pub row6_number : ℕ
row6_number = malformed_number Truncated

-- "kind not 1 to 4"
abbrev pub row7_number : ℕ
row7_number = malformed_number Kind

-- "m missing or above 8, or length not what kind and counts give"; of the writer, "named ids' bytes not a multiple of 32, or over 256"; of a lookup, "bytes that are no multiple of 32"
abbrev pub row8_number : ℕ
row8_number = malformed_number Layout

-- "ids not strictly ascending"
abbrev pub row9_number : ℕ
row9_number = malformed_number Unordered

-- "well formed, id unknown, 64 places taken"
abbrev pub row10_number : ℕ
row10_number = 10

-- "output buffer shorter than the result"
abbrev pub row11_number : ℕ
row11_number = 11

-- "the writer's operation would be void"
abbrev pub row12_number : ℕ
row12_number = 12

-- document 02, E1: "if a length runs past the end, an item is cut, or there are more than 64 items"; "Numbers from 13 up join document 01's table."
abbrev pub row13_number : ℕ
row13_number = 13

-- the number of a refusal
abbrev pub refusal_number : Refusal → ℕ
refusal_number Unfit = row1_number
refusal_number (Bad m) = malformed_number m
refusal_number Full = row10_number
refusal_number Short = row11_number
refusal_number Invalid = row12_number
refusal_number Bundle = row13_number

-- the refusal of bytes that are no update
abbrev pub malformed_refusal : Malformed → Refusal
malformed_refusal m = Bad m

-- document 01's values of an answer that puts bytes into an output buffer: how many they are, or the number of the row
pub data Output : Type 0 where
  put_bytes : ℕ → Output
  refused_by : ℕ → Output
