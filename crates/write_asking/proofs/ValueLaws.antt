-- The values of an answer tell the answer: a promise that speaks of the values leaves nothing open.
use Rattle.std.specs.Prelude.{◌≡◌, ℕ, Result, Ok, Err}
use Rattle.std.proofs.Common.{ap, arith}
use Rattle.ledger_refusals.specs.Numbers.{refusal_number}
use Rattle.ledger_refusals.proofs.NumberLaws.{refusal-one}
use Rattle.ledger_refusals.specs.declared.Refusal.{Refusal}
use Rattle.write_asking.specs.Write.{wrote_values}

by_cases : (a b : Result ℕ Refusal) → wrote_values a ≡ wrote_values b → a ≡ b
by_cases (Ok n) (Ok m) e = cc
by_cases (Ok n) (Err r) e = let z : ◌≡◌ {A = ℕ} 0 1 = cc in absurd (omega arith)
by_cases (Err r) (Ok m) e = let z : ◌≡◌ {A = ℕ} 0 1 = cc in absurd (omega arith)
by_cases (Err r) (Err q) e = let f : refusal_number r ≡ refusal_number q = cc in ap Err (refusal-one f)

pub wrote_one : {a b : Result ℕ Refusal} → wrote_values a ≡ wrote_values b → a ≡ b
wrote_one {a} {b} e = by_cases a b e
