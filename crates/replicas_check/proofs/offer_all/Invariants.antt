-- `offer_all` meets its contract. The loop's invariant: the byte strings before this one are offered.
use Rattle.std.proofs.Common.{take}
use Rattle.ledger_state.specs.View.{fresh_ledger}
use Rattle.ledger_offering.specs.Calls.{Offers}
use Rattle.replicas_check.proofs.OfferAll.{bytes}
use Rattle.replicas_check.proofs.offer_all.Given as goal

abbrev pub invariant-loop-x : goal.invariant-loop-x
invariant-loop-x l = Offers fresh_ledger l.initial.store (take l.x-index (bytes l.xs)) l.l l.store
