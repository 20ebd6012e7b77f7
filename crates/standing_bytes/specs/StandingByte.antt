-- Document 02: the byte of a standing. E1: "then 0 held, 1 waiting, 2 void"; E3: "one byte for each: 0 held, 1 waiting, 2 void, 3 unknown".
use Rattle.std.specs.Prelude.{ℕ}
use Rattle.rules.specs.declared.Standing.{Standing}
use Rattle.rules.specs.declared.Standing.TheVariants.{Held, Waiting, Void}

abbrev pub standing_byte : Standing → ℕ
standing_byte Held = 0
standing_byte Waiting = 1
standing_byte Void = 2

-- of an id that is not stored
abbrev pub unknown_byte : ℕ
unknown_byte = 3
