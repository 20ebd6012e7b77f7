use Rattle.std.proofs.Common.{ℕ, List, ap, ◌∙◌, arith, length, set, length-take}
use Rattle.std.proofs.Math.Seq.{take-set-lt}
use Rattle.ledger_lists.specs.PlaceItems.{PlaceItems}
use Rattle.ledger_lists.proofs.Places.set.Goals as goal

pub returns : goal.returns
returns c =
    let v = c.self.inside in
    let are = ap (λ (o : PlaceItems). o.items) c.self.view_is in
    take-set-lt v.count v.slots c.args.index c.args.k (omega (arith, c.requires, ap length are, length-take v.count v.slots))
    ∙ ap (λ (ks : List ℕ). set ks c.args.index c.args.k) are
