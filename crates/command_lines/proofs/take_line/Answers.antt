-- `take_line` meets its contract.
use Rattle.command_lines.proofs.Assembling.{takes-line}
use Rattle.command_lines.proofs.take_line.Goals as goal

pub returns : goal.returns
returns c = takes-line c.args.line.now c.args.fill c.args.input.now c.find_newline-at.ensures c.append-fill.ensures c.if-at-input.false
