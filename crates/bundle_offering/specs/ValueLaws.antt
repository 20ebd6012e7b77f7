-- The values of an answer of `offer_bundle` are those of no other: a promise that speaks of values leaves nothing open.
use Rattle.std.specs.Prelude.{◌≡◌, ℕ, Result, Ok, Err}
use Rattle.std.proofs.Common.{ap, arith}
use Rattle.ledger_refusals.specs.declared.Refusal.{Refusal}
use Rattle.ledger_refusals.specs.Numbers.{refusal_number}
use Rattle.ledger_refusals.proofs.NumberLaws.{refusal-one}
use Rattle.bundle_offering.specs.Bundle.{bundle_values}

pub bundled-one : (a b : Result ℕ Refusal) → bundle_values a ≡ bundle_values b → a ≡ b
bundled-one (Ok n) (Ok k) e = let p : n ≡ k = cc in ap Ok p
bundled-one (Ok n) (Err r) e = let z : ◌≡◌ {A = ℕ} 0 1 = cc in absurd (omega arith)
bundled-one (Err r) (Ok k) e = let z : ◌≡◌ {A = ℕ} 0 1 = cc in absurd (omega arith)
bundled-one (Err r) (Err t) e = let p : refusal_number r ≡ refusal_number t = cc in ap Err (refusal-one p)
