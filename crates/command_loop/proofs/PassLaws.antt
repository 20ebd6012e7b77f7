-- Pieces of a chunk, one after the other, and a whole chunk.
use mathlib.Core.Path.{◌≡◌, refl, sym, subst}
use Prim.Native.Nat.{ℕ, ◌+◌, ◌-◌, ◌≤◌, ◌<◌}
use native.Mathlib.Omega.{arith}
use mathlib.Core.List.{List, [], ◌++◌}
use lib.ListN.{length, take, drop, length-drop}
use lib.Seq.{take_all, take-add}
use Rattle.ledger_state.specs.declared.Ledger.{Ledger}
use Rattle.command_answers.specs.Answers.{max_answer}
use Rattle.std.specs.Prelude.{Option, None, IsSome, Result, Ok}
use Rattle.command_feeding.specs.declared.Fed.{Fed}
use Rattle.command_feeding.specs.declared.UnfitLine.{UnfitLine}
use Rattle.command_streams.specs.declared.errors.Errno.{Errno}
use Rattle.command_syntax.specs.Syntax.{max_line}
use Rattle.command_feeding.specs.Feeding.{Feeds, Feeding}
use Rattle.command_feeding.specs.FeedLaws.{feeding-feeds}
use Rattle.command_session.specs.InPieces.{done}
use Rattle.command_session.specs.PieceLaws.{pieces_more}
use Rattle.command_streams.specs.Streams.{Writes}
use Rattle.command_loop.specs.declared.Handed.{Handed}
use Rattle.command_loop.specs.Command.{HandsOn, Consumes, Passes}
use Rattle.command_loop.specs.CommandLaws.{none-no-error}

-- the chunk from `at` on, as the part that is lent
pub rest-is : (at : ℕ) (chunk : List ℕ) → take (length chunk - at) (drop at chunk) ≡ drop at chunk
rest-is at chunk = take_all (length chunk - at) (drop at chunk) (omega (arith, length-drop at chunk))

-- what was fed of it, with a line buffer of its length
pub feeds-rest : {l : Ledger} {s buffer out s' buffer' out' : List ℕ} {fill : ℕ} {a : Result Fed UnfitLine} {r : Fed} (chunk : List ℕ) (at : ℕ)
    → length buffer ≡ max_line
    → Feeding l s buffer fill (take (length chunk - at) (drop at chunk)) out a s' buffer' out'
    → a ≡ Ok r
    → Feeds l s buffer fill (drop at chunk) out r s' buffer' out'
feeds-rest {l} {s} {buffer} {out} {s'} {buffer'} {out'} {fill} {r = r} chunk at e f g =
    let h = feeding-feeds f e in
    let same : h.0 ≡ r = cc in
    rw (rest-is at chunk) at
    (subst (λ (x : Fed). Feeds l s buffer fill (take (length chunk - at) (drop at chunk)) out x s' buffer' out') same h.2)

-- as many bytes as were put out are to be written
pub writes-all : {n k taken : ℕ} {error : Option Errno} → n ≡ k → Writes k taken error → Writes n taken error
writes-all {taken = taken} {error = error} e w = subst (λ (m : ℕ). Writes m taken error) (sym e) w

pub consumes-none : {l : Ledger} {s buffer chunk : List ℕ} {fill : ℕ} → Consumes l s buffer fill chunk 0 l s buffer fill
consumes-none = record { within = omega arith; put = []; pieces = done }

module _ {l l₁ : Ledger} {s s₁ s' buffer buffer₁ buffer' chunk out out' : List ℕ} {fill fill₁ at : ℕ} {r : Handed}
    (c : Consumes l s buffer fill chunk at l₁ s₁ buffer₁ fill₁) (h : HandsOn l₁ s₁ buffer₁ fill₁ chunk at out r s' buffer' out') where
  pub consumes_more : Consumes l s buffer fill chunk (at + r.fed.consumed) r.fed.ledger s' buffer' r.fed.fill
  consumes_more =
      record {
        within = omega (arith, c.within, h.feeds.within_input, length-drop at chunk);
        put = c.put ++ take r.fed.written out';
        pieces = rw (take-add at r.fed.consumed chunk) (pieces_more c.pieces h.feeds);
      }

  -- with room for an answer, what is left of the chunk falls
  pub consumes-less : max_answer ≤ length out → at < length chunk → length chunk - (at + r.fed.consumed) < length chunk - at
  consumes-less room more =
      let some : 0 < r.fed.consumed = h.feeds.some_consumed room (omega (arith, length-drop at chunk)) in
      omega (arith, h.feeds.within_input, length-drop at chunk)

module _ {l l' : Ledger} {s s' buffer buffer' chunk : List ℕ} {fill fill' at : ℕ} (c : Consumes l s buffer fill chunk at l' s' buffer' fill') where
  pub passes-all : length chunk ≤ at → Passes l s buffer fill chunk (record { ledger = l'; fill = fill'; error = None }) s' buffer'
  passes-all h = record { consumed = at; consumes = c; all = λ _. omega (arith, c.within); lasts = tt }

  pub passes-part : {n taken : ℕ} {error : Option Errno} → Writes n taken error → IsSome error → Passes l s buffer fill chunk (record { ledger = l'; fill = fill'; error = error }) s' buffer'
  passes-part w h = record { consumed = at; consumes = c; all = λ e. absurd (none-no-error h e); lasts = w.lasts }
