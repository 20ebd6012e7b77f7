-- `read_within` meets its contract: what is answered for the operation means what the bytes decode to.
use Rattle.std.proofs.Common.{◌≡◌, ap, ◌∙◌, arith}
use Rattle.std.proofs.lemmas.Grind.{common_steps}
use Rattle.std.specs.Prelude.{Result}
use Rattle.update_format.specs.Decode.{row2, row3, row4, row5}
use Rattle.update_format.specs.ParseResult.{decoded_of, parse_of, parse-decodes}
use Rattle.update_format.specs.declared.Malformed.{Malformed}
use Rattle.update_format.specs.declared.Parsed.{Parsed}
use Rattle.update_parsing.proofs.read_within.Goals as goal

pub returns-clause-decoded : goal.returns-clause-decoded
unfolding parse_of row2 row3 row4 row5
returns-clause-decoded c =
    let e : ◌≡◌ {A = Result Parsed Malformed} c.read.result (parse_of c.args.bounds c.args.s.now) = grind (arith, common_steps) in
    ap (decoded_of c.args.s.now) e ∙ parse-decodes c.args.bounds c.args.s.now
