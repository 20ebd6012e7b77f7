use Rattle.std.proofs.Common.{rules, sym, ◌∙◌, arith}
use Rattle.rules.proofs.TermsLaws.{document-allowed}
use Rattle.ledger_row1.proofs.Row1Laws.{by_places}
use Rattle.ledger_row1.proofs.sound.Goals as goal

pub returns-then-ledger-le-PLACES : goal.returns-then-ledger-le-PLACES
returns-then-ledger-le-PLACES c = c.places_sound.ensures ∙ sym (by_places _ _ document-allowed (search rules) (search rules))
