-- The values of an answer of `standings` are those of no other: a promise that speaks of values leaves nothing open.
use Rattle.std.specs.Prelude.{◌≡◌, ℕ, Result, Ok, Err}
use Rattle.std.proofs.Common.{ap, arith}
use Rattle.ledger_refusals.specs.Numbers.{refusal_number}
use Rattle.ledger_refusals.proofs.NumberLaws.{refusal-one}
use Rattle.ledger_refusals.specs.declared.Refusal.{Refusal}
use Rattle.lookup_standings.specs.Lookup.{looked_up}

pub looked-up-one : (a b : Result ℕ Refusal) → looked_up a ≡ looked_up b → a ≡ b
looked-up-one (Ok n) (Ok k) e = let p : n ≡ k = cc in ap Ok p
looked-up-one (Ok n) (Err r) e = let z : ◌≡◌ {A = ℕ} 0 1 = cc in absurd (omega arith)
looked-up-one (Err r) (Ok k) e = let z : ◌≡◌ {A = ℕ} 0 1 = cc in absurd (omega arith)
looked-up-one (Err r) (Err t) e = let p : refusal_number r ≡ refusal_number t = cc in ap Err (refusal-one p)
