-- `read_offer` meets its contract, by how the line reads.
use Rattle.std.proofs.Common.{arith}
use Rattle.command_answers.proofs.ReadLaws.{offer-spells, offer-read}
use Rattle.command_answers.proofs.read_offer.Goals as goal

pub unhex-requires : goal.unhex-requires
unhex-requires c =
    let s = offer-spells c.args.line.now c.args.fill c.read_line.ensures _ c.in_ok-n.was in
    record { spells = s.0; room = omega (arith, s.1, c.told-update) }

pub returns : goal.returns
returns c =
    let s = offer-spells c.args.line.now c.args.fill c.read_line.ensures _ c.in_ok-n.was in
    (offer-read c.args.line.now c.args.fill c.read_line.ensures _ c.in_ok-n.was _ c.unhex.ensures, omega (arith, s.1, c.unhex.auto, c.told-update))
