-- One turn of feeding: what a piece of a line does, and a line that ends and is answered.
use mathlib.Core.Path.{◌≡◌, sym, ap, subst, ◌∙◌}
use Prim.Native.Nat.{ℕ}
use mathlib.Core.List.{List, [], ◌∷◌, ◌++◌, append-nil}
use Rattle.std.specs.Prelude.{Option}
use mathlib.Core.Bool.{Bool, true, false}
use lib.ListN.{take}
use Rattle.ledger_state.specs.declared.Ledger.{Ledger}
use Rattle.command_syntax.specs.Line.{line_in}
use Rattle.command_lines.specs.declared.Assembled.{Assembled}
use Rattle.command_lines.specs.Lines.{Keeps, TakesLine, ending}
use Rattle.command_lines.specs.KeepLaws.{keeps-none, keeps-read}
use Rattle.command_feeding.specs.Answering.{AnswersLine, AnswersLines, done, lines_of, line_after}
use Rattle.command_feeding.specs.AnsweringLaws.{answers_one, lines-text, lines-ended}
use Rattle.command_feeding.specs.Feeding.{Moves}

module _ {buffer buffer' input : List ℕ} {fill : ℕ} {a : Assembled} (t : TakesLine buffer fill input a buffer') where
  taken : (b : Bool) → a.ended ≡ b → take a.consumed input ≡ t.text ++ ending b
  taken b e = t.consumes ∙ ap (λ (x : Bool). t.text ++ ending x) e

  -- the line goes on
  pub turn-text : {l : Ledger} {s : List ℕ} → a.ended ≡ false → Moves l s buffer fill (take a.consumed input) [] l s buffer' a.fill
  turn-text {l} {s} e =
      let x : take a.consumed input ≡ t.text = taken false e ∙ append-nil t.text in
      record {
        answers = λ line k.
            subst (λ (os : List (Option (List ℕ))). AnswersLines l s os l s []) (sym (ap (lines_of line) x ∙ (lines-text line t.text t.whole).0)) done;
        keeps = λ line k.
            subst (Keeps buffer' a.fill) (sym (ap (line_after line) x ∙ (lines-text line t.text t.whole).1)) (t.keeps line k);
      }

  -- the line ends, and is answered
  pub turn-line : {l l' : Ledger} {s s' u : List ℕ} → a.ended ≡ true → AnswersLine l s (line_in buffer' a.fill) l' s' u
      → Moves l s buffer fill (take a.consumed input) u l' s' buffer' 0
  turn-line {l} {l'} {s} {s'} {u} e w =
      let x = taken true e in
      record {
        answers = λ line k.
            let reads : lines_of line (take a.consumed input) ≡ line_in buffer' a.fill ∷ [] =
            ap (lines_of line) x ∙ (lines-ended line t.text t.whole).0
            ∙ ap (λ (o : Option (List ℕ)). o ∷ []) (sym (keeps-read (t.keeps line k))) in
            subst (λ (os : List (Option (List ℕ))). AnswersLines l s os l' s' u) (sym reads) (answers_one w);
        keeps = λ line k.
            subst (Keeps buffer' 0) (sym (ap (line_after line) x ∙ (lines-ended line t.text t.whole).1)) (keeps-none (t.keeps line k).sized);
      }
