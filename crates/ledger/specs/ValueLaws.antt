-- The values of an answer of `standing` or `report` are those of no other: a promise that speaks of values leaves nothing open.
use Rattle.std.specs.Prelude.{◌≡◌, refl, ℕ, Option, None, Some, Result, Ok, Err}
use Rattle.std.proofs.Common.{ap, arith}
use Rattle.rules.specs.declared.Standing.{Standing}
use Rattle.ledger_refusals.specs.declared.Refusal.{Refusal}
use Rattle.ledger_refusals.specs.Numbers.{refusal_number}
use Rattle.ledger_refusals.proofs.NumberLaws.{refusal-one}
use Rattle.ledger.specs.Ask.{asked_values}
use Rattle.ledger.specs.Report.{report_values}

pub asked-one : (a b : Result (Option Standing) Refusal) → asked_values a ≡ asked_values b → a ≡ b
asked-one (Ok (Some v)) (Ok (Some w)) e = let p : v ≡ w = cc in ap (λ (x : Standing). Ok (Some x)) p
asked-one (Ok (Some v)) (Ok None) e = let z : ◌≡◌ {A = ℕ} 0 1 = cc in absurd (omega arith)
asked-one (Ok (Some v)) (Err r) e = let z : ◌≡◌ {A = ℕ} 0 1 = cc in absurd (omega arith)
asked-one (Ok None) (Ok (Some w)) e = let z : ◌≡◌ {A = ℕ} 0 1 = cc in absurd (omega arith)
asked-one (Ok None) (Ok None) e = refl
asked-one (Ok None) (Err r) e = let z : ◌≡◌ {A = ℕ} 0 1 = cc in absurd (omega arith)
asked-one (Err r) (Ok (Some w)) e = let z : ◌≡◌ {A = ℕ} 0 1 = cc in absurd (omega arith)
asked-one (Err r) (Ok None) e = let z : ◌≡◌ {A = ℕ} 0 1 = cc in absurd (omega arith)
asked-one (Err r) (Err t) e = let p : refusal_number r ≡ refusal_number t = cc in ap Err (refusal-one p)

pub reported-one : (a b : Result ℕ Refusal) → report_values a ≡ report_values b → a ≡ b
reported-one (Ok n) (Ok k) e = let p : n ≡ k = cc in ap Ok p
reported-one (Ok n) (Err r) e = let z : ◌≡◌ {A = ℕ} 0 1 = cc in absurd (omega arith)
reported-one (Err r) (Ok k) e = let z : ◌≡◌ {A = ℕ} 0 1 = cc in absurd (omega arith)
reported-one (Err r) (Err t) e = let p : refusal_number r ≡ refusal_number t = cc in ap Err (refusal-one p)
