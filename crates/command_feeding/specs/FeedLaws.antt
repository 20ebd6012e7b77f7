-- What a row of calls of `feed` does, and for every ledger: the ledger and the store that come back are those of calls of `offer`.
use Rattle.std.specs.Prelude.{◌≡◌, refl, ℕ, List, [], ◌++◌, length, Result, Ok}
use Rattle.std.proofs.Common.{sym, subst}
use Rattle.std.specs.Prelude.{Option}
use Rattle.ledger_state.specs.declared.Ledger.{Ledger}
use Rattle.ledger_offering.specs.Calls.{Offers}
use Rattle.command_syntax.specs.Syntax.{max_line}
use Rattle.command_lines.specs.Lines.{Keeps}
use Rattle.command_lines.specs.KeepLaws.{keeps-some}
use Rattle.command_feeding.specs.declared.Fed.{Fed}
use Rattle.command_feeding.specs.declared.UnfitLine.{UnfitLine}
use Rattle.command_feeding.specs.Answering.{AnswersLines, done, lines_of, line_after}
use Rattle.command_feeding.specs.AnsweringLaws.{answers-then, answers-calls, lines-append}
use Rattle.command_feeding.specs.Feeding.{Moves, Feeds, Feeding, refused, fed}

-- a line buffer of max_line bytes is not refused
pub feeding-feeds : {l : Ledger} {s buffer input out s' buffer' out' : List ℕ} {fill : ℕ} {a : Result Fed UnfitLine} → Feeding l s buffer fill input out a s' buffer' out'
    → length buffer ≡ max_line → (r : Fed) × (a ≡ Ok r) × Feeds l s buffer fill input out r s' buffer' out'
feeding-feeds (refused n) e = absurd (n e)
feeding-feeds (fed r s' buffer' out' e f) _ = (r, refl, f)

pub moves-none : {l : Ledger} {s buffer : List ℕ} {fill : ℕ} → Moves l s buffer fill [] [] l s buffer fill
unfolding lines_of line_after
moves-none = record { answers = λ line k. done; keeps = λ line k. k }

pub moves-then : {l l₁ l' : Ledger} {s s₁ s' buffer buffer₁ buffer' xs xs' ys ys' : List ℕ} {fill fill₁ fill' : ℕ}
    → Moves l s buffer fill xs ys l₁ s₁ buffer₁ fill₁ → Moves l₁ s₁ buffer₁ fill₁ xs' ys' l' s' buffer' fill'
    → Moves l s buffer fill (xs ++ xs') (ys ++ ys') l' s' buffer' fill'
moves-then {l} {l' = l'} {s} {s' = s'} {buffer' = buffer'} {xs = xs} {xs' = xs'} {ys = ys} {ys' = ys'} {fill' = fill'} a b =
    record {
      answers = λ line k.
          subst (λ (os : List (Option (List ℕ))). AnswersLines l s os l' s' (ys ++ ys')) (sym (lines-append line xs xs').0)
          (answers-then (a.answers line k) (b.answers (line_after line xs) (a.keeps line k)));
      keeps = λ line k. subst (Keeps buffer' fill') (sym (lines-append line xs xs').1) (b.keeps (line_after line xs) (a.keeps line k));
    }

-- For every ledger and store, and a line buffer of max_line bytes: the ledger and the store that come back are those of calls of `offer`.
pub moves-calls : {l l' : Ledger} {s s' buffer buffer' xs ys : List ℕ} {fill fill' : ℕ} → length buffer ≡ max_line
    → Moves l s buffer fill xs ys l' s' buffer' fill' → (bs : List (List ℕ)) × Offers l s bs l' s'
moves-calls {buffer = buffer} {fill = fill} e m = let k = keeps-some buffer fill e in (_, answers-calls (m.answers k.0 k.1))
