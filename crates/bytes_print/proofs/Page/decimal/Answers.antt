use Rattle.std.proofs.Common.{length, arith, ap, ◌∙◌}
use Rattle.bytes_ascii.specs.AsciiLaws.{decimal-length}
use Rattle.bytes_print.proofs.DigitsLaws.{fmt-decimal}
use Rattle.bytes_print.proofs.PrintedLaws.{same_text}
use Rattle.bytes_print.proofs.Page.decimal.Goals as goal

pub returns-clause-prints : goal.returns-clause-prints
returns-clause-prints c =
    same_text (c.as_bytes.ensures.value ∙ c.format.ensures.text ∙ fmt-decimal c.args.n (omega arith)) c.put.ensures

pub returns-clause-small : goal.returns-clause-small
returns-clause-small c =
    omega (
      arith,
      c.put.ensures.prints.past,
      ap length (c.as_bytes.ensures.value ∙ c.format.ensures.text ∙ fmt-decimal c.args.n (omega arith)),
      decimal-length 4 c.args.n (omega arith) (omega arith),
    )
