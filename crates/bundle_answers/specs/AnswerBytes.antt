-- Document 02, E1: the six bytes of an item's answer. "The six are: 0 taken, 1 known or 2 refused; then 0 held, 1 waiting, 2 void, or the refusal's number; then the
-- two counts, 16 bits big-endian each, zero unless taken."
use Rattle.std.specs.Prelude.{ℕ, List, ◌∷◌, ◌++◌}
use Rattle.bytes_order.specs.Member.{concat_map}
use Rattle.bytes_words.specs.Words.{bytes_in}
use Rattle.standing_bytes.specs.StandingByte.{standing_byte}
use Rattle.ledger_offering.specs.Values.{OfferValues, taken_as, known_as, refused_as}

-- "six bytes per item"
abbrev pub answer_length : ℕ
answer_length = 6

-- the two counts
abbrev pub count_bytes : ℕ → ℕ → List ℕ
count_bytes held void = bytes_in 2 held ++ bytes_in 2 void

unfoldable pub answer_bytes : OfferValues → List ℕ
answer_bytes (taken_as standing held void) = 0 ∷ standing_byte standing ∷ count_bytes held void
answer_bytes (known_as standing) = 1 ∷ standing_byte standing ∷ count_bytes 0 0
answer_bytes (refused_as number) = 2 ∷ number ∷ count_bytes 0 0

-- those of answers, one after the other
abbrev pub answers_bytes : List OfferValues → List ℕ
answers_bytes vs = concat_map answer_bytes vs
