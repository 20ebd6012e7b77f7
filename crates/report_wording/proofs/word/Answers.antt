-- `word` meets its contract, by the part.
use Rattle.std.proofs.Common.{ap}
use Rattle.bytes_ascii.specs.Ascii.{codes, ascii}
use Rattle.bytes_print.proofs.PrintedLaws.{same_word}
use Rattle.report_wording.specs.Lines.{word_of}
use Rattle.report_wording.proofs.word.Goals as goal
use Rattle.report_wording.proofs.word.Goals.{in-Held, in-Heads, in-Waiting, in-Void, in-Set, in-List}

pub returns-clause-prints : goal.returns-clause-prints
unfolding ascii codes
returns-clause-prints c =
    elim c.match-part.branch [
      | in-Held w ↦ same_word word_of w.in-Held.is c.put.ensures (ap (λ b. b.now) w.word-is)
      | in-Heads w ↦ same_word word_of w.in-Heads.is c.put.ensures (ap (λ b. b.now) w.word-is)
      | in-Waiting w ↦ same_word word_of w.in-Waiting.is c.put.ensures (ap (λ b. b.now) w.word-is)
      | in-Void w ↦ same_word word_of w.in-Void.is c.put.ensures (ap (λ b. b.now) w.word-is)
      | in-Set w ↦ same_word word_of w.in-Set.is c.put.ensures (ap (λ b. b.now) w.word-is)
      | in-List w ↦ same_word word_of w.in-List.is c.put.ensures (ap (λ b. b.now) w.word-is)
    ]
