-- Document 01's values for each case of an offer's answer. The promise of `offer` speaks of these, and the text that the command prints is made from them.
use Rattle.std.specs.Prelude.{ℕ, Result, Ok, Err}
use Rattle.rules.specs.declared.Standing.{Standing}
use Rattle.ledger_refusals.specs.Numbers.{refusal_number}
use Rattle.ledger_refusals.specs.declared.Refusal.{Refusal}
use Rattle.ledger_offering.specs.declared.Answer.{Answer}
use Rattle.ledger_offering.specs.declared.Answer.TheVariants.{Taken, Known}

-- the update's standing, how many are newly held, and how many newly void; the standing of a known update; the number of the row that refuses the offer
pub data OfferValues : Type 0 where
  taken_as : Standing → ℕ → ℕ → OfferValues
  known_as : Standing → OfferValues
  refused_as : ℕ → OfferValues

abbrev pub offer_values : Result Answer Refusal → OfferValues
offer_values (Ok (Taken v h w)) = taken_as v h w
offer_values (Ok (Known v)) = known_as v
offer_values (Err r) = refused_as (refusal_number r)
