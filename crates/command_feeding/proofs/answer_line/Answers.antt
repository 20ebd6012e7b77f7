-- `answer_line` meets its contract, by how the line reads.
use Rattle.command_feeding.proofs.LineLaws.{answer-unread, answer-offered}
use Rattle.command_feeding.proofs.answer_line.Goals as goal

pub returns-in-None : goal.returns-in-None
returns-in-None c = answer-unread c.args.line.now c.args.fill _ c.read_offer.ensures c.in-None.is

pub returns-in-Some : goal.returns-in-Some
returns-in-Some c = answer-offered c.args.line.now c.args.fill _ c.read_offer.ensures _ c.in-Some.is c.offer-o.ensures
