-- Document 01's words for the values of an answer.
use Rattle.std.specs.Prelude.{List, ◌++◌, ℕ, Result}
use Rattle.bytes_ascii.specs.Ascii.{ascii, decimal}
use Rattle.rules.specs.declared.Standing.{Standing}
use Rattle.rules.specs.declared.Standing.TheVariants.{Held, Waiting, Void}
use Rattle.ledger_refusals.specs.declared.Refusal.{Refusal}
use Rattle.ledger_offering.specs.declared.Answer.{Answer}
use Rattle.ledger_offering.specs.Values.{OfferValues, taken_as, known_as, refused_as, offer_values}

unfoldable pub standing_word : Standing → List ℕ
standing_word Held = ascii "held"
standing_word Waiting = ascii "waiting"
standing_word Void = ascii "void"

-- "It prints `(taken held 1 0)` (standing, newly held, newly void), `(known held)` or `(refused 2)`."
unfoldable pub values_text : OfferValues → List ℕ
values_text (taken_as v h w) =
    ascii "(taken " ++ (standing_word v ++ (ascii " " ++ (decimal h ++ (ascii " " ++ (decimal w ++ ascii ")\n")))))
values_text (known_as v) = ascii "(known " ++ (standing_word v ++ ascii ")\n")
values_text (refused_as n) = ascii "(refused " ++ (decimal n ++ ascii ")\n")

abbrev pub answer_text : Result Answer Refusal → List ℕ
answer_text a = values_text (offer_values a)
