-- However the input is cut, the outputs of the pieces and of the end, put together, are the output of the whole.
use Rattle.std.specs.Prelude.{◌≡◌, refl, ℕ, ◌≤◌, List, [], ◌++◌, length, take}
use Rattle.std.proofs.Common.{sym, ap, ◌∙◌}
use Rattle.rules.proofs.TermsLaws.{document-allowed}
use Rattle.ledger_state.specs.declared.Ledger.{Ledger}
use Rattle.ledger_state.specs.State.{document_terms, store_length_of}
use Rattle.ledger_state.specs.View.{book_of, fresh_ledger}
use Rattle.ledger_state.proofs.TakeLaws.{fresh-stands}
use Rattle.command_syntax.specs.Syntax.{max_line}
use Rattle.command_lines.specs.KeepLaws.{keeps-none}
use Rattle.command_feeding.specs.declared.Fed.{Fed}
use Rattle.command_feeding.specs.Feeding.{Moves, Feeds}
use Rattle.command_feeding.specs.FeedLaws.{moves-none, moves-then}
use Rattle.command_session.specs.Session.{begin, feed, max_input, output_of}
use Rattle.command_session.specs.Finishing.{max_end, EndValues, with_report, FinishRow}
use Rattle.command_session.specs.MachineLaws.{Follows, moves-follows, moves_out}
use Rattle.command_session.specs.FinishLaws.{finish-output, finishes-output}

-- Pieces fed one after the other, each with what the function `feed` ensures: each call is handed the ledger, store, line buffer and length that the one before
-- left. The bytes consumed, and the bytes put out, of all the calls together.
pub data Pieces : Ledger → List ℕ → List ℕ → ℕ → List ℕ → List ℕ → Ledger → List ℕ → List ℕ → ℕ → Type 0 where
  done : {l : Ledger} {s buffer : List ℕ} {fill : ℕ} → Pieces l s buffer fill [] [] l s buffer fill
  piece : {l l' : Ledger} {s s₁ s' buffer buffer₁ buffer' : List ℕ} {fill fill' : ℕ} {input out out' xs ys : List ℕ} {r : Fed}
      → Feeds l s buffer fill input out r s₁ buffer₁ out'
      → Pieces r.ledger s₁ buffer₁ r.fill xs ys l' s' buffer' fill'
      → Pieces l s buffer fill (take r.consumed input ++ xs) (take r.written out' ++ ys) l' s' buffer' fill'

-- what the pieces do, one after the other
pub pieces-move : {l l' : Ledger} {s s' buffer buffer' xs ys : List ℕ} {fill fill' : ℕ}
    → Pieces l s buffer fill xs ys l' s' buffer' fill' → Moves l s buffer fill xs ys l' s' buffer' fill'
pieces-move done = moves-none
pieces-move (piece r p) = moves-then r.moves (pieces-move p)

-- a fresh ledger, with any store and line buffer of their lengths, is where the machine begins
fresh-follows : (s buffer : List ℕ) → length s ≡ store_length_of document_terms → length buffer ≡ max_line → Follows fresh_ledger s buffer 0 begin
unfolding fresh_ledger
fresh-follows s buffer h k = record { stands = fresh-stands (book_of fresh_ledger) s refl h document-allowed; keeps = keeps-none k }

-- For every input, and a store and a line buffer of their lengths: if the pieces consumed are the input's bytes up to the limit, then what they and the end put out is
-- the output of the whole input.
pub in_pieces : (input : List ℕ) {l' : Ledger} {s s' s'' buffer buffer' ys out out' : List ℕ} {fill' n : ℕ}
    → length s ≡ store_length_of document_terms
    → length buffer ≡ max_line
    → Pieces fresh_ledger s buffer 0 (take max_input input) ys l' s' buffer' fill'
    → FinishRow l' s' buffer' fill' out (with_report n) s'' out'
    → ys ++ take n out' ≡ output_of input
unfolding output_of
in_pieces input {s = s} {buffer = buffer} {out' = out'} {n = n} h k c e =
    let f = fresh-follows s buffer h k in
    let m = pieces-move c in
    ap (λ (o : List ℕ). o ++ take n out') (sym (moves_out begin f m)) ∙ finish-output (feed begin (take max_input input)) (moves-follows begin f m) e

-- .. and with room for the longest end there is a report
pub pieces-reported : (input : List ℕ) {l' : Ledger} {s s' s'' buffer buffer' ys out out' : List ℕ} {fill' : ℕ} {v : EndValues}
    → length s ≡ store_length_of document_terms
    → length buffer ≡ max_line
    → Pieces fresh_ledger s buffer 0 input ys l' s' buffer' fill'
    → max_end ≤ length out
    → FinishRow l' s' buffer' fill' out v s'' out'
    → (n : ℕ) × (v ≡ with_report n)
pieces-reported input {s = s} {buffer = buffer} h k c room e =
    let o = finishes-output (feed begin input) (moves-follows begin (fresh-follows s buffer h k) (pieces-move c)) room e in
    (o.count, o.answer)
