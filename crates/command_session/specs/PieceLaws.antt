-- Rows of pieces: one row after another, and a row with one piece more.
use Rattle.std.specs.Prelude.{ℕ, List, [], ◌++◌, take}
use Rattle.std.proofs.Common.{append_assoc, append-nil}
use Rattle.ledger_state.specs.declared.Ledger.{Ledger}
use Rattle.command_feeding.specs.declared.Fed.{Fed}
use Rattle.command_feeding.specs.Feeding.{Feeds}
use Rattle.command_session.specs.InPieces.{Pieces, done, piece}

pub pieces_then : {l l₁ l' : Ledger} {s s₁ s' buffer buffer₁ buffer' xs xs' ys ys' : List ℕ} {fill fill₁ fill' : ℕ}
    → Pieces l s buffer fill xs ys l₁ s₁ buffer₁ fill₁ → Pieces l₁ s₁ buffer₁ fill₁ xs' ys' l' s' buffer' fill'
    → Pieces l s buffer fill (xs ++ xs') (ys ++ ys') l' s' buffer' fill'
pieces_then done q = q
pieces_then (piece r p) q = simp append_assoc (piece r (pieces_then p q))

pub pieces_more : {l l₁ : Ledger} {s s₁ s' buffer buffer₁ buffer' input out out' xs ys : List ℕ} {fill fill₁ : ℕ} {r : Fed}
    → Pieces l s buffer fill xs ys l₁ s₁ buffer₁ fill₁ → Feeds l₁ s₁ buffer₁ fill₁ input out r s' buffer' out'
    → Pieces l s buffer fill (xs ++ take r.consumed input) (ys ++ take r.written out') r.ledger s' buffer' r.fill
pieces_more p f = pieces_then p (simp append-nil at (piece f done))
