-- `print_known` meets its contract.
use Rattle.bytes_ascii.specs.Ascii.{codes, ascii}
use Rattle.bytes_print.proofs.PrintedLaws.{both}
use Rattle.ledger_offering.specs.Words.{values_text}
use Rattle.command_answers.proofs.print_known.Goals as goal

pub returns-clause-prints : goal.returns-clause-prints
unfolding values_text ascii codes
returns-clause-prints c = both c.put.ensures (both c.print_standing.ensures.prints c.put-2.ensures)
