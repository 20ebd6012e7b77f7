-- `mark_end` meets its contract, by the kind.
use Rattle.std.proofs.Common.{ap}
use Rattle.bytes_ascii.specs.Ascii.{codes, ascii}
use Rattle.rules.specs.Report.{mark_word}
use Rattle.bytes_print.proofs.PrintedLaws.{same_word}
use Rattle.report_wording.specs.Lines.{mark_end}
use Rattle.report_wording.proofs.mark_end.Goals as goal
use Rattle.report_wording.proofs.mark_end.Goals.{in-Fork, in-Fault, in-Both}

pub returns-clause-prints : goal.returns-clause-prints
unfolding mark_word ascii codes
returns-clause-prints c =
    elim c.match-kind.branch [
      | in-Fork w ↦ same_word mark_end w.in-Fork.is c.put.ensures (ap (λ b. b.now) w.end-is)
      | in-Fault w ↦ same_word mark_end w.in-Fault.is c.put.ensures (ap (λ b. b.now) w.end-is)
      | in-Both w ↦ same_word mark_end w.in-Both.is c.put.ensures (ap (λ b. b.now) w.end-is)
    ]
