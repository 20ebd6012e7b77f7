-- Lines answered one after the other, for every ledger and store: each offer with what the entry `offer` ensures, row 1 included.
use Rattle.std.specs.Prelude.{ℕ, List, [], ◌∷◌, ◌++◌, cond, eqb}
use Rattle.std.specs.Prelude.{Option, None, Some}
use Rattle.bytes_ascii.specs.Ascii.{ascii}
use Rattle.ledger_state.specs.declared.Ledger.{Ledger}
use Rattle.ledger_offering.specs.Values.{OfferValues}
use Rattle.ledger_offering.specs.Offer.{OfferRow}
use Rattle.ledger_offering.specs.Words.{values_text}
use Rattle.command_syntax.specs.Syntax.{read_line}
use Rattle.command_answers.specs.Answers.{ReplyPrintable, reply_text}
use Rattle.command_feeding.specs.declared.Answered.{Answered}

-- A line that reads so is answered: the ledger and the store after it, and the text of the answer.
pub data AnswersLine (l : Ledger) (s : List ℕ) : Option (List ℕ) → Ledger → List ℕ → List ℕ → Type 0 where
  unread : AnswersLine l s None l s (ascii "(unread)\n")
  offered : {b : List ℕ} {v : OfferValues} {r : Ledger} {s' : List ℕ} → OfferRow l s b v r s' → AnswersLine l s (Some b) r s' (values_text v)

-- What the function `answer_line` promises of a line that reads so: it is answered, and the text of its answer is that of the reply, which can be printed.
pub record Answers (l : Ledger) (s : List ℕ) (o : Option (List ℕ)) (r : Answered) (s' : List ℕ) : Type 0 where
  pub answers : AnswersLine l s o r.ledger s' (reply_text r.reply)
  pub printable : ReplyPrintable r.reply

-- Lines that read so, each answered with the ledger and the store that the one before left; and the texts of the answers.
pub data AnswersLines : Ledger → List ℕ → List (Option (List ℕ)) → Ledger → List ℕ → List ℕ → Type 0 where
  done : {l : Ledger} {s : List ℕ} → AnswersLines l s [] l s []
  next : {l l₁ l' : Ledger} {s s₁ s' t ts : List ℕ} {o : Option (List ℕ)} {os : List (Option (List ℕ))}
      → AnswersLine l s o l₁ s₁ t → AnswersLines l₁ s₁ os l' s' ts → AnswersLines l s (o ∷ os) l' s' (t ++ ts)

-- how the lines that end in a text read, the first of them begun by the line so far
unfoldable pub lines_of : List ℕ → List ℕ → List (Option (List ℕ))
lines_of line [] = []
lines_of line (b ∷ bs) = cond (eqb b 10) (read_line line ∷ lines_of [] bs) (lines_of (line ++ (b ∷ [])) bs)

-- the line that the text leaves begun
unfoldable pub line_after : List ℕ → List ℕ → List ℕ
line_after line [] = line
line_after line (b ∷ bs) = cond (eqb b 10) (line_after [] bs) (line_after (line ++ (b ∷ [])) bs)
