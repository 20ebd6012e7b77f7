-- For a ledger that stands, the update written and the judgement of it are those of the rules.
use Rattle.std.specs.Prelude.{◌≡◌, ℕ, List, Bool, true, false, cond}
use Rattle.std.proofs.Common.{◌∙◌}
use Rattle.std.proofs.Math.Path.{ap}
use Rattle.update_format.specs.Update.{Operation, Update}
use Rattle.update_format.specs.Decode.{update}
use Rattle.rules.specs.Writing.{written_in, writable_in, written_of, writable_of}
use Rattle.rules.proofs.WritingLaws.{written-heads}
use Rattle.ledger_judging.specs.declared.Judgement.TheVariants.{Holds, Fails}
use Rattle.ledger_judging.specs.Judge.{judge_decoded}
use Rattle.ledger_state.specs.Stands.{rules, Stands}
use Rattle.ledger_state.specs.State.{Book}
use Rattle.write_predecessors.specs.ChosenLaws.{chosen-ids}
use Rattle.write_layout.specs.Written.{written_at}
use Rattle.write_layout.specs.JudgedLaws.{ancestor_word, judged}

module _ (l : Book) (s : List ℕ) (us : List Update) (stands : Stands l s us) (a : ℕ) (o : Operation) where
  pub chosen-right : written_at l s a o ≡ written_of rules l.terms.bounds.predecessors us a o
  unfolding written_at written_of written_in
  chosen-right = λ i. record { author = a; preds = chosen-ids stands a i; op = o }

  abbrev word : ℕ
  word = ancestor_word stands (written_of rules l.terms.bounds.predecessors us a o) (written-heads rules l.terms.bounds.predecessors us stands.holds.distinct a o)

  judged-written : judge_decoded l s (update (written_at l s a o)) ≡ cond (writable_of rules l.terms.bounds.predecessors us a o) (Holds word) Fails
  unfolding written_of written_in writable_of writable_in
  judged-written =
      ap (λ (u : Update). judge_decoded l s (update u)) chosen-right
      ∙ judged stands (written_of rules l.terms.bounds.predecessors us a o) (written-heads rules l.terms.bounds.predecessors us stands.holds.distinct a o)

  -- judged by its predecessors as an offered update would be, it holds exactly when the rules let it be written
  pub writable-holds : writable_of rules l.terms.bounds.predecessors us a o ≡ true → (w : ℕ) × (judge_decoded l s (update (written_at l s a o)) ≡ Holds w)
  writable-holds e = (word, judged-written ∙ ap (λ (b : Bool). cond b (Holds word) Fails) e)

  pub unwritable-fails : writable_of rules l.terms.bounds.predecessors us a o ≡ false → judge_decoded l s (update (written_at l s a o)) ≡ Fails
  unwritable-fails e = judged-written ∙ ap (λ (b : Bool). cond b (Holds word) Fails) e
