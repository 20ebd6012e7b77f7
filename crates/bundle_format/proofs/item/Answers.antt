-- `item` meets its contract.
use mathlib.Core.Path.{◌∙◌}
use Rattle.bundle_format.proofs.Reading.{item-bytes}
use Rattle.bundle_format.proofs.item.Goals as goal

pub returns : goal.returns
returns c =
    c.slice_of.ensures ∙ item-bytes c.args.bundle.now c.args.at c.length_at.ensures
