-- The command's work in pieces: what feeding a piece of the input promises, for every ledger, store, line buffer, piece and output buffer. Left free: how much of a
-- piece is consumed once there is no room for another answer; and the bytes of the line buffer that are not of the line so far.
use Rattle.std.specs.Prelude.{◌≡◌, ℕ, ◌+◌, ◌≤◌, ◌<◌, List, length, take, drop}
use Rattle.std.specs.Prelude.{Result, Ok, Err}
use Rattle.ledger_state.specs.declared.Ledger.{Ledger}
use Rattle.command_syntax.specs.Syntax.{max_line}
use Rattle.command_lines.specs.Lines.{Keeps}
use Rattle.command_answers.specs.Answers.{max_answer}
use Rattle.command_feeding.specs.declared.Fed.{Fed}
use Rattle.command_feeding.specs.declared.UnfitLine.{UnfitLine}
use Rattle.command_feeding.specs.Answering.{AnswersLines, lines_of, line_after}

-- From a ledger, store, line buffer and length to others, by a text: whatever line the buffer keeps, the lines that end in the text are answered one after the
-- other; what they put out; and the buffer keeps the line that the text leaves begun. (A line buffer of max_line bytes always keeps one: `keeps-some`.)
pub record Moves (l : Ledger) (s buffer : List ℕ) (fill : ℕ) (text put : List ℕ) (l' : Ledger) (s' buffer' : List ℕ) (fill' : ℕ) : Type 0 where
  pub answers : (line : List ℕ) → Keeps buffer fill line → AnswersLines l s (lines_of line text) l' s' put
  pub keeps : (line : List ℕ) → Keeps buffer fill line → Keeps buffer' fill' (line_after line text)

-- Feeding the piece `input`, with the output buffer `out`.
pub record Feeds (l : Ledger) (s buffer : List ℕ) (fill : ℕ) (input out : List ℕ) (r : Fed) (s' buffer' out' : List ℕ) : Type 0 where
  pub within_input : r.consumed ≤ length input
  pub within_out : r.written ≤ length out
  -- all is consumed, unless there is no room for another answer; something is, where there was room for one
  pub goes_on : r.written + max_answer ≤ length out → r.consumed ≡ length input
  pub some_consumed : max_answer ≤ length out → 0 < length input → 0 < r.consumed
  -- the bytes after the output keep their values
  pub rest_kept : drop r.written out' ≡ drop r.written out
  -- what was consumed is answered, and the answers are what was written
  pub moves : Moves l s buffer fill (take r.consumed input) (take r.written out') r.ledger s' buffer' r.fill

-- What the function `feed` promises: a line buffer that has not max_line bytes is refused, and nothing changes; with any other the piece is fed.
pub data Feeding (l : Ledger) (s buffer : List ℕ) (fill : ℕ) (input out : List ℕ) : Result Fed UnfitLine → List ℕ → List ℕ → List ℕ → Type 0 where
  refused : (length buffer ≡ max_line → ⊥)
      → Feeding l s buffer fill input out (Err (record {})) s buffer out
  fed : (r : Fed) (s' buffer' out' : List ℕ) → length buffer ≡ max_line → Feeds l s buffer fill input out r s' buffer' out'
      → Feeding l s buffer fill input out (Ok r) s' buffer' out'
