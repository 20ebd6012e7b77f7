-- Feeding, turn after turn: what was done once some of the input is consumed and some of the output is written; and what that comes to at the end.
use mathlib.Core.Path.{◌≡◌, refl, sym, ap, subst₂, ◌∙◌}
use Prim.Native.Nat.{ℕ, ◌+◌, ◌*◌, ◌≤◌, ◌<◌}
use native.Mathlib.Omega.{arith}
use mathlib.Core.Bool.{true, false}
use mathlib.Core.List.{List, ◌++◌}
use lib.ListN.{length, take, drop}
use lib.Seq.{take-add, drop-drop}
use Rattle.ledger_state.specs.declared.Ledger.{Ledger}
use Rattle.command_lines.specs.declared.Assembled.{Assembled}
use Rattle.command_lines.specs.Lines.{TakesLine}
use Rattle.bytes_print.specs.Page.{Prints}
use Rattle.command_syntax.specs.Line.{line_in}
use Rattle.command_answers.specs.Answers.{max_answer, reply_text}
use Rattle.command_feeding.specs.declared.Answered.{Answered}
use Rattle.command_feeding.specs.Answering.{Answers}
use Rattle.command_feeding.specs.Feeding.{Moves}
use Rattle.command_feeding.specs.FeedLaws.{moves-none, moves-then}
use Rattle.command_feeding.proofs.OutLaws.{Extends, extends-none, extends-printed, part_from, with_part, part-is, part_length}
use Rattle.command_feeding.proofs.TurnLaws.{turn-text, turn-line}

pub record Running (l : Ledger) (s buffer : List ℕ) (fill : ℕ) (input out : List ℕ) (l' : Ledger) (s' buffer' out' : List ℕ) (fill' consumed written : ℕ)
    : Type 0 where
  pub within_input : consumed ≤ length input
  pub within_out : written ≤ length out
  -- each turn consumes something, and writes one answer at most
  pub slow : written ≤ max_answer * consumed
  pub store_kept : length s' ≡ length s
  pub buffer_kept : length buffer' ≡ length buffer
  pub out_kept : length out' ≡ length out
  pub rest_kept : drop written out' ≡ drop written out
  pub moves : Moves l s buffer fill (take consumed input) (take written out') l' s' buffer' fill'

module _ {l : Ledger} {s buffer input out : List ℕ} {fill : ℕ} where
  pub run_none : Running l s buffer fill input out l s buffer out fill 0 0
  run_none =
      record {
        within_input = omega arith;
        within_out = omega arith;
        slow = omega arith;
        store_kept = refl;
        buffer_kept = refl;
        out_kept = refl;
        rest_kept = refl;
        moves = moves-none;
      }

  module _ {l₁ : Ledger} {s₁ buffer₁ out₁ : List ℕ} {fill₁ consumed written : ℕ}
      (run : Running l s buffer fill input out l₁ s₁ buffer₁ out₁ fill₁ consumed written) where
    -- one more turn
    pub run-turn : {l₂ : Ledger} {s₂ buffer₂ out₂ t : List ℕ} {fill₂ k w : ℕ}
        → Moves l₁ s₁ buffer₁ fill₁ (take k (part_from input consumed)) t l₂ s₂ buffer₂ fill₂
        → Extends out₁ written t out₂ w
        → 0 < k → k ≤ length (part_from input consumed) → length t ≤ max_answer
        → length s₂ ≡ length s₁ → length buffer₂ ≡ length buffer₁
        → Running l s buffer fill input out l₂ s₂ buffer₂ out₂ fill₂ (consumed + k) w
    run-turn {l₂} {s₂} {buffer₂} {out₂} {t} {fill₂} {k} {w} m e some_taken inside short sk bk =
        let xs : take consumed input ++ take k (part_from input consumed) ≡ take (consumed + k) input =
        ap (λ (x : List ℕ). take consumed input ++ take k x) (part-is input consumed run.within_input) ∙ sym (take-add consumed k input) in
        let rest : drop w out₁ ≡ drop w out =
        ap (λ (n : ℕ). drop n out₁) e.past ∙ sym (drop-drop (length t) written out₁) ∙ ap (drop (length t)) run.rest_kept
        ∙ drop-drop (length t) written out ∙ ap (λ (n : ℕ). drop n out) (sym e.past) in
        record {
          within_input = omega (arith, run.within_input, part_length input consumed run.within_input);
          within_out = omega (arith, e.within, run.out_kept);
          slow = omega (arith, run.slow, e.past);
          store_kept = sk ∙ run.store_kept;
          buffer_kept = bk ∙ run.buffer_kept;
          out_kept = e.kept ∙ run.out_kept;
          rest_kept = e.rest ∙ rest;
          moves = subst₂ (λ (x y : List ℕ). Moves l s buffer fill x y l₂ s₂ buffer₂ fill₂) xs (sym e.text) (moves-then run.moves m);
        }

    module _ {a : Assembled} {buffer₂ : List ℕ} (t : TakesLine buffer₁ fill₁ (part_from input consumed) a buffer₂) (more : consumed < length input)
        (bk : length buffer₂ ≡ length buffer₁) where
      left : 0 < length (part_from input consumed)
      left = omega (arith, part_length input consumed run.within_input)

      -- the line goes on
      pub run-text : a.ended ≡ false → Running l s buffer fill input out l₁ s₁ buffer₂ out₁ a.fill (consumed + a.consumed) written
      run-text e =
          run-turn (turn-text t e) (extends-none out₁ written (omega (arith, run.within_out, run.out_kept))) (t.some_taken left) t.within (omega arith)
          refl bk

      -- the line ends, and its answer is printed
      pub run-line : a.ended ≡ true → {r : Answered} {s₂ o : List ℕ} {n : ℕ}
          → Answers l₁ s₁ (line_in buffer₂ a.fill) r s₂ → length s₂ ≡ length s₁
          → Prints (part_from out₁ written) 0 (reply_text r.reply) o n → n ≤ max_answer → written + max_answer ≤ length out₁
          → Running l s buffer fill input out r.ledger s₂ buffer₂ (with_part out₁ written o) 0 (consumed + a.consumed) (written + n)
      run-line e w sk p few room =
          run-turn (turn-line t e w.answers) (extends-printed out₁ written (omega arith) p (omega arith)) (t.some_taken left) t.within
          (omega (arith, p.past)) sk bk
