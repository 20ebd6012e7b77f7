-- `print_taken` meets its contract.
use Rattle.std.proofs.Common.{arith}
use Rattle.bytes_ascii.specs.Ascii.{codes, ascii}
use Rattle.bytes_ascii.specs.AsciiLaws.{decimal-length}
use Rattle.bytes_print.proofs.PrintedLaws.{both}
use Rattle.ledger_offering.specs.Words.{values_text}
use Rattle.command_answers.proofs.print_taken.Goals as goal

pub returns-clause-prints : goal.returns-clause-prints
unfolding values_text ascii codes
returns-clause-prints c =
    both c.put.ensures (both c.print_standing.ensures.prints (both c.put-2.ensures
    (both c.decimal.ensures.prints (both c.put-3.ensures (both c.decimal-2.ensures.prints c.put-4.ensures)))))

pub returns-clause-small : goal.returns-clause-small
returns-clause-small c =
    omega (
      arith,
      decimal-length 2 c.args.held (omega arith) c.requires.few.held_two_digits,
      decimal-length 2 c.args.void (omega arith) c.requires.few.void_two_digits,
    )
