-- `places_sound` meets its contract: the walk over the taken places.
use Rattle.std.proofs.Common.{refl, ◌∙◌, arith, rules}
use Rattle.std.proofs.lemmas.Iterator.{YieldsList-from_range}
use Rattle.std.proofs.lemmas.Iterator.Search.{all_from_yields_List}
use Rattle.ledger_state.specs.View.{book_of}
use Rattle.ledger_state.proofs.RangeLaws.{all_range}
use Rattle.ledger_row1.specs.Checked.{sound_at}
use Rattle.ledger_row1.proofs.places_sound.Goals as goal

pub returns : goal.returns
returns c =
    let l = book_of c.args.ledger.now in
    all_from_yields_List (sound_at l) _ _ _ c.all.ensures.ran (YieldsList-from_range 0 l.used l.used refl (omega arith)) (λ x b q k. search rules)
    ∙ all_range (sound_at l) l.used
