-- `offer_items` meets its contract. The loop's invariant: the first k items, which end at byte `at`, were offered, and their answers written.
use Rattle.bundle_offering.proofs.Items.{Reached}
use Rattle.bundle_offering.proofs.offer_items.Given as goal

abbrev pub invariant-loop-k : goal.invariant-loop-k
invariant-loop-k l = Reached l.initial.ledger l.initial.store l.bundle l.n l.initial.answers l.store l.answers l.ledger l.at l.k
