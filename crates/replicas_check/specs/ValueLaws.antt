-- The values of an answer of the copy check are those of no other: a promise that speaks of values leaves nothing open.
use Rattle.std.specs.Prelude.{◌≡◌, ℕ, Result, Ok, Err}
use Rattle.std.proofs.Common.{ap, ap₂, arith}
use Rattle.ledger_refusals.specs.declared.Refusal.{Refusal}
use Rattle.ledger_refusals.specs.Numbers.{refusal_number}
use Rattle.ledger_refusals.proofs.NumberLaws.{refusal-one}
use Rattle.replicas_check.specs.declared.Comparison.{Comparison}
use Rattle.replicas_check.specs.declared.Comparison.TheVariants.{Same, Different}
use Rattle.replicas_check.specs.declared.Unreported.{Unreported}
use Rattle.replicas_check.specs.declared.Unreported.TheVariants.{First, Second}
use Rattle.replicas_check.specs.Check.{check_values}

pub check-one : (a b : Result Comparison Unreported) → check_values a ≡ check_values b → a ≡ b
check-one (Ok (Same n)) (Ok (Same m)) e = let p : n ≡ m = cc in ap (λ (k : ℕ). Ok (Same k)) p
check-one (Ok (Different n k)) (Ok (Different m i)) e =
    let p : n ≡ m = cc in
    let q : k ≡ i = cc in
    ap₂ (λ (i j : ℕ). Ok (Different i j)) p q
check-one (Err (First r)) (Err (First t)) e = let p : refusal_number r ≡ refusal_number t = cc in ap (λ (e : Refusal). Err (First e)) (refusal-one p)
check-one (Err (Second r)) (Err (Second t)) e = let p : refusal_number r ≡ refusal_number t = cc in ap (λ (e : Refusal). Err (Second e)) (refusal-one p)
check-one (Ok (Same n)) (Ok (Different m i)) e = let z : ◌≡◌ {A = ℕ} 0 1 = cc in absurd (omega arith)
check-one (Ok (Same n)) (Err (First t)) e = let z : ◌≡◌ {A = ℕ} 0 1 = cc in absurd (omega arith)
check-one (Ok (Same n)) (Err (Second t)) e = let z : ◌≡◌ {A = ℕ} 0 1 = cc in absurd (omega arith)
check-one (Ok (Different n k)) (Ok (Same m)) e = let z : ◌≡◌ {A = ℕ} 0 1 = cc in absurd (omega arith)
check-one (Ok (Different n k)) (Err (First t)) e = let z : ◌≡◌ {A = ℕ} 0 1 = cc in absurd (omega arith)
check-one (Ok (Different n k)) (Err (Second t)) e = let z : ◌≡◌ {A = ℕ} 0 1 = cc in absurd (omega arith)
check-one (Err (First r)) (Ok (Same m)) e = let z : ◌≡◌ {A = ℕ} 0 1 = cc in absurd (omega arith)
check-one (Err (First r)) (Ok (Different m i)) e = let z : ◌≡◌ {A = ℕ} 0 1 = cc in absurd (omega arith)
check-one (Err (First r)) (Err (Second t)) e = let z : ◌≡◌ {A = ℕ} 0 1 = cc in absurd (omega arith)
check-one (Err (Second r)) (Ok (Same m)) e = let z : ◌≡◌ {A = ℕ} 0 1 = cc in absurd (omega arith)
check-one (Err (Second r)) (Ok (Different m i)) e = let z : ◌≡◌ {A = ℕ} 0 1 = cc in absurd (omega arith)
check-one (Err (Second r)) (Err (First t)) e = let z : ◌≡◌ {A = ℕ} 0 1 = cc in absurd (omega arith)
