-- An answer's values are those of no other answer: a promise that speaks of values leaves nothing open.
use Rattle.std.specs.Prelude.{◌≡◌, Result, Ok, Err}
use Rattle.std.proofs.Common.{ap}
use Rattle.ledger_refusals.specs.declared.Refusal.{Refusal}
use Rattle.ledger_refusals.specs.Numbers.{refusal_number}
use Rattle.ledger_refusals.proofs.NumberLaws.{refusal-one}
use Rattle.ledger_offering.specs.declared.Answer.{Answer}
use Rattle.ledger_offering.specs.declared.Answer.TheVariants.{Taken, Known}
use Rattle.ledger_offering.specs.Values.{offer_values}

pub offer-one : (a b : Result Answer Refusal) → offer_values a ≡ offer_values b → a ≡ b
offer-one (Ok (Taken v h w)) (Ok (Taken v' h' w')) e =
    let p : v ≡ v' = cc in
    let q : h ≡ h' = cc in
    let r : w ≡ w' = cc in
    cc
offer-one (Ok (Taken v h w)) (Ok (Known v')) e = cc
offer-one (Ok (Taken v h w)) (Err r') e = cc
offer-one (Ok (Known v)) (Ok (Taken v' h' w')) e = cc
offer-one (Ok (Known v)) (Ok (Known v')) e = let p : v ≡ v' = cc in cc
offer-one (Ok (Known v)) (Err r') e = cc
offer-one (Err r) (Ok (Taken v' h' w')) e = cc
offer-one (Err r) (Ok (Known v')) e = cc
offer-one (Err r) (Err r') e = let p : refusal_number r ≡ refusal_number r' = cc in ap Err (refusal-one p)
