-- What is printed for a line.
use Rattle.std.specs.Prelude.{◌≡◌, ℕ, ◌^◌, ◌≤◌, ◌<◌, List, length, take}
use Rattle.std.specs.Prelude.{Option, None, Some, Result}
use Rattle.bytes_ascii.specs.Ascii.{ascii}
use Rattle.command_syntax.specs.Line.{line_in}
use Rattle.ledger_refusals.specs.declared.Refusal.{Refusal}
use Rattle.ledger_offering.specs.declared.Answer.{Answer}
use Rattle.ledger_offering.specs.Values.{OfferValues, taken_as, known_as, refused_as, offer_values}
use Rattle.ledger_offering.specs.Words.{answer_text}

-- the longest answer, `(taken waiting 64 64)` and its newline
abbrev pub max_answer : ℕ
max_answer = 22

-- the counts have at most two digits
pub record Counts (held void : ℕ) : Type 0 where
  pub held_two_digits : held < 10 ^ 2
  pub void_two_digits : void < 10 ^ 2

abbrev pub Printable : OfferValues → Type 0
Printable (taken_as v h w) = Counts h w
Printable (known_as v) = Unit {0}
Printable (refused_as n) = Unit {0}

-- .. of what a line is answered
abbrev pub ReplyPrintable : Option (Result Answer Refusal) → Type 0
ReplyPrintable None = Unit {0}
ReplyPrintable (Some a) = Printable (offer_values a)

-- the text of a line's answer
abbrev pub reply_text : Option (Result Answer Refusal) → List ℕ
reply_text None = ascii "(unread)\n"
reply_text (Some a) = answer_text a

-- how the line in the buffer reads; the bytes that it offers are at the start of the update buffer
abbrev pub ReadsOffer : List ℕ → ℕ → Option ℕ → List ℕ → Type 0
ReadsOffer buffer fill None update = line_in buffer fill ≡ None
ReadsOffer buffer fill (Some n) update = (line_in buffer fill ≡ Some (take n update)) × (n ≤ length update)
