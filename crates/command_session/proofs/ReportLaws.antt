-- The full report after the first bytes of the output buffer.
use mathlib.Core.Path.{◌≡◌, sym, subst, subst₂}
use Prim.Native.Nat.{ℕ, ◌+◌, ◌≤◌}
use mathlib.Core.List.{List}
use lib.ListN.{length, drop}
use Rattle.rules.specs.declared.Form.TheVariants.{Full}
use Rattle.ledger_state.specs.State.{Book}
use Rattle.ledger_refusals.specs.Numbers.{Output, put_bytes, refused_by}
use Rattle.ledger.specs.Report.{ReportRow}
use Rattle.command_feeding.proofs.OutLaws.{part_from, with_part, part-is, with-is}
use Rattle.command_session.specs.Finishing.{with_report, without_report, ReportsAt, reported, unreported}

module _ {l : Book} {s : List ℕ} (out : List ℕ) (at : ℕ) (inside : at ≤ length out) {v : Output} {o : List ℕ} (p : ReportRow Full l s (part_from out at) v o) where
  lent : (x : Output) → v ≡ x → ReportRow Full l s (drop at out) x o
  lent x e = subst₂ (λ (y : List ℕ) (z : Output). ReportRow Full l s y z o) (part-is out at inside) e p

  pub at-reported : (n : ℕ) → v ≡ put_bytes n → ReportsAt l s at out (with_report (at + n)) (with_part out at o)
  at-reported n e = subst (ReportsAt l s at out (with_report (at + n))) (sym (with-is out at inside o)) (reported n o (lent (put_bytes n) e))

  pub at-refused : (k : ℕ) → v ≡ refused_by k → ReportsAt l s at out (without_report at k) (with_part out at o)
  at-refused k e = subst (ReportsAt l s at out (without_report at k)) (sym (with-is out at inside o)) (unreported k o (lent (refused_by k) e))
