-- The end of the input: what it promises, for every ledger, store, line buffer and output buffer.
use Rattle.std.specs.Prelude.{◌≡◌, ℕ, ◌+◌, ◌≤◌, ◌<◌, List, [], ◌∷◌, ◌++◌, length, take, drop}
use Rattle.std.specs.Prelude.{Option, Result, Ok, Err}
use Rattle.rules.specs.declared.Form.TheVariants.{Full}
use Rattle.rules.specs.Report.{max_report}
use Rattle.ledger_state.specs.declared.Ledger.{Ledger}
use Rattle.ledger_state.specs.State.{Book}
use Rattle.ledger_state.specs.View.{book_of}
use Rattle.ledger_refusals.specs.Numbers.{refusal_number, put_bytes, refused_by}
use Rattle.ledger.specs.Report.{ReportRow}
use Rattle.command_syntax.specs.Syntax.{max_line, read_line}
use Rattle.command_lines.specs.Lines.{Keeps}
use Rattle.command_answers.specs.Answers.{max_answer}
use Rattle.command_feeding.specs.Answering.{AnswersLines}
use Rattle.command_session.specs.declared.Unfinished.{Unfinished}
use Rattle.command_session.specs.declared.Unfinished.TheVariants.{Unreported, Short, UnfitLine}

-- the longest end of an output: an answer and a report
abbrev pub max_end : ℕ
max_end = max_answer + max_report

-- The values for each case of the end: how many bytes of output, with the report; how many without it, and document 01's number of its refusal; an output buffer
-- shorter than the longest end; a line buffer that has not max_line bytes.
pub data EndValues : Type 0 where
  with_report : ℕ → EndValues
  without_report : ℕ → ℕ → EndValues
  short_output : EndValues
  unfit_line : EndValues

abbrev pub end_values : Result ℕ Unfinished → EndValues
end_values (Ok n) = with_report n
end_values (Err (Unreported n r)) = without_report n (refusal_number r)
end_values (Err Short) = short_output
end_values (Err UnfitLine) = unfit_line

-- how many bytes of output that is
abbrev pub put_out : EndValues → ℕ
put_out (with_report n) = n
put_out (without_report n k) = n
put_out short_output = 0
put_out unfit_line = 0

-- at the end of the input: the line so far, if one is begun ("A last line may lack its newline.")
unfoldable pub last_of : List ℕ → List (Option (List ℕ))
last_of [] = []
last_of (c ∷ cs) = read_line (c ∷ cs) ∷ []

-- The full report after the first `at` bytes of the output buffer: what the entry `report_as` ensures of that form, of the rest of the buffer.
pub data ReportsAt (l : Book) (s : List ℕ) (at : ℕ) (out : List ℕ) : EndValues → List ℕ → Type 0 where
  reported : (n : ℕ) (o : List ℕ) → ReportRow Full l s (drop at out) (put_bytes n) o → ReportsAt l s at out (with_report (at + n)) (take at out ++ o)
  unreported : (k : ℕ) (o : List ℕ) → ReportRow Full l s (drop at out) (refused_by k) o → ReportsAt l s at out (without_report at k) (take at out ++ o)

-- The last line, if one is begun, is answered; and what that puts out.
pub record LastLine (l : Ledger) (s buffer : List ℕ) (fill : ℕ) (l' : Ledger) (s' put : List ℕ) : Type 0 where
  pub short : length put ≤ max_answer
  pub answers : (line : List ℕ) → Keeps buffer fill line → AnswersLines l s (last_of line) l' s' put

-- The end of the input, with the output buffer `out`: a line buffer that has not max_line bytes is refused, and so is an output buffer with no room for the longest end;
-- nothing changes then. With others, the last line is answered, and then comes what the entry `report_as` ensures of the full form: the report, or else the number of
-- its refusal beside the answer.
pub data FinishRow (l : Ledger) (s buffer : List ℕ) (fill : ℕ) (out : List ℕ) : EndValues → List ℕ → List ℕ → Type 0 where
  unfit-line : (length buffer ≡ max_line → ⊥) → FinishRow l s buffer fill out unfit_line s out
  short : length buffer ≡ max_line → length out < max_end → FinishRow l s buffer fill out short_output s out
  ended : (v : EndValues) (l' : Ledger) (s' put out' : List ℕ) → length buffer ≡ max_line → max_end ≤ length out
      → LastLine l s buffer fill l' s' put → ReportsAt (book_of l') s' (length put) (put ++ drop (length put) out) v out'
      → FinishRow l s buffer fill out v s' out'

-- the promise of `finish`
abbrev pub Finishes : Ledger → List ℕ → List ℕ → ℕ → List ℕ → Result ℕ Unfinished → List ℕ → List ℕ → Type 0
Finishes l s buffer fill out r s' out' = FinishRow l s buffer fill out (end_values r) s' out'
