-- The end of the input: a last line that is begun is ended by a newline, and the report comes after its answer.
use mathlib.Core.Path.{◌≡◌, refl, sym, ap, ap₂, subst, subst₂, ◌∙◌}
use Prim.Native.Nat.{ℕ, ◌≤◌}
use native.Mathlib.Omega.{arith}
use mathlib.Core.List.{List, [], ◌∷◌, ◌++◌, append-nil, append_assoc}
use Rattle.std.specs.Prelude.{Option}
use lib.ListN.{length, take, drop, take-append-drop, drop_of_length-le}
use lib.Seq.{length-take-le, drop-append-le}
use Rattle.ledger_state.specs.declared.Ledger.{Ledger}
use Rattle.ledger_state.specs.View.{book_of}
use Rattle.command_syntax.specs.Syntax.{max_line}
use Rattle.command_lines.specs.KeepLaws.{keeps-unbegun, keeps-begun}
use Rattle.command_answers.specs.Answers.{max_answer}
use Rattle.command_feeding.specs.declared.Fed.{Fed}
use Rattle.command_feeding.specs.Answering.{AnswersLines, done, lines_of}
use Rattle.command_feeding.specs.Feeding.{Feeds}
use Rattle.command_session.specs.Finishing.{max_end, EndValues, last_of, ReportsAt, LastLine, FinishRow, ended}

abbrev newline : List ℕ
newline = 10 ∷ []

no_last : (line : List ℕ) → length line ≡ 0 → last_of line ≡ []
unfolding last_of
no_last [] e = refl
no_last (c ∷ cs) e = absurd (omega arith)

some-last : (line : List ℕ) → (length line ≡ 0 → ⊥) → lines_of line newline ≡ last_of line
unfolding last_of lines_of
some-last [] n = absurd (n refl)
some-last (c ∷ cs) n = refl

module _ {l : Ledger} {s buffer : List ℕ} {fill : ℕ} (out : List ℕ) (sized : length buffer ≡ max_line) (room : max_end ≤ length out) where
  -- no line is begun
  last_none : fill ≡ 0 → LastLine l s buffer fill l s []
  last_none e =
      record {
        short = omega arith;
        answers = λ line k. subst (λ (os : List (Option (List ℕ))). AnswersLines l s os l s []) (sym (no_last line (keeps-unbegun k e))) done;
      }

  pub end-unbegun : fill ≡ 0 → {v : EndValues} {out' : List ℕ} → ReportsAt (book_of l) s 0 out v out' → FinishRow l s buffer fill out v s out'
  end-unbegun e {v} {out'} p = ended v l s [] out' sized room (last_none e) p

  -- a newline is fed to a copy of it
  module _ {copy : List ℕ} (same : copy ≡ buffer) {r : Fed} {s' buffer' o : List ℕ} (feeds : Feeds l s copy fill newline (take max_answer out) r s' buffer' o)
      (kept : length o ≡ length (take max_answer out)) where
    f : Feeds l s buffer fill newline (take max_answer out) r s' buffer' o
    f = subst (λ (b : List ℕ). Feeds l s b fill newline (take max_answer out) r s' buffer' o) same feeds

    long : length o ≡ max_answer
    long = kept ∙ length-take-le max_answer out (omega arith)

    abbrev put : List ℕ
    put = take r.written o

    put-length : length put ≡ r.written
    put-length = length-take-le r.written o (omega (arith, f.within_out, kept))

    -- the newline is consumed
    one : take r.consumed newline ≡ newline
    one =
        let some_consumed : 1 ≤ r.consumed = f.some_consumed (omega (arith, kept, long)) (omega arith) in
        let e : r.consumed ≡ 1 = omega (arith, f.within_input) in
        ap (λ (k : ℕ). take k newline) e

    last_some : (fill ≡ 0 → ⊥) → LastLine l s buffer fill r.ledger s' put
    last_some begun =
        record {
          short = omega (arith, put-length, f.within_out, kept, long);
          answers = λ line k.
              subst (λ (os : List (Option (List ℕ))). AnswersLines l s os r.ledger s' put)
              (ap (lines_of line) one ∙ some-last line (keeps-begun k begun)) (f.moves.answers line k);
        }

    -- the output buffer then
    end-out : o ++ drop max_answer out ≡ put ++ drop (length put) out
    end-out =
        let w = r.written in
        let front = take max_answer out in
        let back = drop max_answer out in
        let rest : drop w o ++ back ≡ drop (length put) out =
        ap (λ (x : List ℕ). x ++ back) f.rest_kept
        ∙ sym (drop-append-le w front back f.within_out)
        ∙ ap₂ (λ (n : ℕ) (x : List ℕ). drop n x) (sym put-length) (take-append-drop max_answer out) in
        ap (λ (x : List ℕ). x ++ back) (sym (take-append-drop w o)) ∙ append_assoc put (drop w o) back ∙ ap (λ (x : List ℕ). put ++ x) rest

    pub end_line : (fill ≡ 0 → ⊥) → {v : EndValues} {out' : List ℕ} → ReportsAt (book_of r.ledger) s' r.written (o ++ drop max_answer out) v out'
        → FinishRow l s buffer fill out v s' out'
    end_line begun {v} {out'} p =
        ended v r.ledger s' put out' sized room (last_some begun)
        (subst₂ (λ (n : ℕ) (x : List ℕ). ReportsAt (book_of r.ledger) s' n x v out') (sym put-length) end-out p)
