-- The command's loop, in the terms of `in_pieces` (command_session/specs/InPieces): each step feeds the bytes of the chunk that the read before it counted, in order,
-- once, and `write` counts as many bytes as a piece put out, unless it fails. No contract can say that the bytes of a chunk are those of the input, which bytes `write`
-- took, nor that a call was made: this says what is made of the counts and errors that `command_streams` answers.
use Rattle.std.specs.Prelude.{◌≡◌, ℕ, ◌+◌, ◌≤◌, ◌<◌, List, [], ◌++◌, None, IsSome, length, take, drop}
use Rattle.ledger_state.specs.declared.Ledger.{Ledger}
use Rattle.ledger_state.specs.State.{document_terms, store_length_of}
use Rattle.ledger_state.specs.View.{fresh_ledger}
use Rattle.command_syntax.specs.Syntax.{max_line}
use Rattle.command_feeding.specs.Feeding.{Feeds}
use Rattle.command_session.specs.Session.{max_input}
use Rattle.command_session.specs.Finishing.{max_end, EndValues, put_out, FinishRow}
use Rattle.command_session.specs.InPieces.{Pieces}
use Rattle.command_streams.specs.declared.Input.{Input}
use Rattle.command_streams.specs.declared.Moved.{Moved}
use Rattle.command_streams.specs.Streams.{ErrorLasts, Reads, Writes}
use Rattle.command_loop.specs.declared.Handed.{Handed}
use Rattle.command_loop.specs.declared.Passed.{Passed}
use Rattle.command_loop.specs.declared.State.{State}
use Rattle.command_loop.specs.declared.Ended.{Ended}

-- the state after a chunk, of what it came to and of what was read next
abbrev pub next_state : Passed → Input → State
next_state p i = record { ledger = p.ledger; fill = p.fill; got = i.got; left = i.left; reading = i.error; writing = p.error }

-- what the command came to, of the last state and of what the last write came to
abbrev pub ended_by : State → Moved → Ended
ended_by t m = record { taken = m.count; left = t.left; reading = t.reading; writing = m.error }

-- A piece: the chunk from byte `at` on is fed, and `write` takes as many bytes as that puts out.
pub record HandsOn (l : Ledger) (s buffer : List ℕ) (fill : ℕ) (chunk : List ℕ) (at : ℕ) (out : List ℕ) (r : Handed) (s' buffer' out' : List ℕ) : Type 0 where
  pub feeds : Feeds l s buffer fill (drop at chunk) out r.fed s' buffer' out'
  pub writes : Writes r.fed.written r.taken r.error

-- The first n bytes of the chunk are fed, in pieces.
pub record Consumes (l : Ledger) (s buffer : List ℕ) (fill : ℕ) (chunk : List ℕ) (n : ℕ) (l' : Ledger) (s' buffer' : List ℕ) (fill' : ℕ) : Type 0 where
  pub within : n ≤ length chunk
  pub put : List ℕ
  pub pieces : Pieces l s buffer fill (take n chunk) put l' s' buffer' fill'

-- A chunk: all of it is fed, unless a write failed; and its error is none that passes.
pub record Passes (l : Ledger) (s buffer : List ℕ) (fill : ℕ) (chunk : List ℕ) (r : Passed) (s' buffer' : List ℕ) : Type 0 where
  pub consumed : ℕ
  pub consumes : Consumes l s buffer fill chunk consumed r.ledger s' buffer' r.fill
  pub all : r.error ≡ None → consumed ≡ length chunk
  pub lasts : ErrorLasts r.error

-- The beginning: a fresh ledger and no line, and what was read of the limit.
pub record BeginsRun (r : State) (chunk : List ℕ) : Type 0 where
  pub read : Input
  pub reads : Reads max_input (length chunk) read
  pub begins : r ≡ next_state (record { ledger = fresh_ledger; fill = 0; error = None }) read

-- A step: the bytes that were read are fed, and the next ones are read, of what is left of the limit; none, where a write failed.
pub record Steps (t : State) (s buffer chunk : List ℕ) (r : State) (s' buffer' chunk' : List ℕ) : Type 0 where
  pub passed : Passed
  pub passes : Passes t.ledger s buffer t.fill (take t.got chunk) passed s' buffer'
  pub read : Input
  pub reads : Reads t.left (length chunk') read
  pub stops : IsSome passed.error → read ≡ record { got = 0; left = t.left; error = None }
  pub steps : r ≡ next_state passed read

-- what the command is lent: a store and a line buffer of their lengths, and room for the longest end
pub record Lent (s buffer out : List ℕ) : Type 0 where
  pub store_long : length s ≡ store_length_of document_terms
  pub line_long : length buffer ≡ max_line
  pub room : max_end ≤ length out

-- Steps from the beginning, while there is something to feed: what they fed and what they put out; the last state; and the store, the line buffer and the chunk.
-- Each step feeds, of the chunk as the read before it left it, the bytes that this read counted.
pub data Ran (s buffer : List ℕ) : List ℕ → List ℕ → State → List ℕ → List ℕ → List ℕ → Type 0 where
  begun : {t : State} {chunk : List ℕ} → BeginsRun t chunk → Ran s buffer [] [] t s buffer chunk
  stepped : {fed put s₁ buffer₁ chunk₁ s' buffer' chunk' : List ℕ} {t r : State}
      → Ran s buffer fed put t s₁ buffer₁ chunk₁
      → 0 < t.got
      → (p : Steps t s₁ buffer₁ chunk₁ r s' buffer' chunk')
      → Ran s buffer (fed ++ take p.passes.consumed (take t.got chunk₁)) (put ++ p.passes.consumes.put) r s' buffer' chunk'

-- The end: `write` takes as many bytes as `finish` puts out.
pub record Ends (l : Ledger) (s buffer : List ℕ) (fill : ℕ) (out : List ℕ) (r : Moved) (s' out' : List ℕ) : Type 0 where
  pub values : EndValues
  pub finishes : FinishRow l s buffer fill out values s' out'
  pub writes : Writes (put_out values) r.count r.error

-- The loop: it stops where a write of answers fails, with that error, and no end is written; else all that was read is fed, and the end comes. The error of a read is
-- that of the last state.
pub data Runs (s buffer : List ℕ) (r : Ended) (s'' buffer'' out'' : List ℕ) : Type 0 where
  stopped : (fed put chunk : List ℕ) (t : State) → Ran s buffer fed put t s'' buffer'' chunk → IsSome t.writing
      → r ≡ ended_by t (record { count = 0; error = t.writing })
      → Runs s buffer r s'' buffer'' out''
  ended : (fed put chunk : List ℕ) (t : State) (s' out : List ℕ) (m : Moved) → Ran s buffer fed put t s' buffer'' chunk → t.got ≡ 0 → t.writing ≡ None → max_end ≤ length out
      → Ends t.ledger s' buffer'' t.fill out m s'' out''
      → r ≡ ended_by t m
      → Runs s buffer r s'' buffer'' out''

-- The command: the loop, with what it is lent.
pub record Commands (r : Ended) : Type 0 where
  pub store : List ℕ
  pub line : List ℕ
  pub out : List ℕ
  pub lent : Lent store line out
  pub last_store : List ℕ
  pub last_line : List ℕ
  pub last_out : List ℕ
  pub runs : Runs store line r last_store last_line last_out
