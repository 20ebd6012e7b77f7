-- What the command put out, where no write failed, is the output of what it fed. The errors that it tells are none that pass.
use Rattle.std.specs.Prelude.{◌≡◌, refl, ℕ, ◌+◌, ◌≤◌, ◌<◌, List, [], ◌++◌, ◌⊎◌, Option, None, Some, IsSome, length, take}
use Rattle.std.proofs.Common.{sym, ap, subst, ◌∙◌, arith, inl, inr, ⊎_elim, length-append, take_all, length-take-le}
use Rattle.ledger_state.specs.View.{fresh_ledger}
use Rattle.command_session.specs.Finishing.{EndValues, with_report, put_out, FinishRow}
use Rattle.command_session.specs.Session.{max_input, output_of}
use Rattle.command_session.specs.InPieces.{Pieces, done, in_pieces, pieces-reported}
use Rattle.command_session.specs.PieceLaws.{pieces_then}
use Rattle.command_streams.specs.declared.errors.Errno.{Errno}
use Rattle.command_streams.specs.declared.Input.{Input}
use Rattle.command_streams.specs.Streams.{ErrorLasts}
use Rattle.command_loop.specs.declared.State.{State}
use Rattle.command_loop.specs.declared.Ended.{Ended}
use Rattle.command_loop.specs.Command.{BeginsRun, Steps, Lent, Ran, begun, stepped, Runs, stopped, ended, Commands}

-- What was fed, what was read last and what is left make up the limit, and are within it where a write failed. What was read last is in the chunk, and nothing was
-- where a write failed.
pub record Counted (fed : List ℕ) (t : State) (chunk : List ℕ) : Type 0 where
  pub within : t.got ≤ length chunk
  pub unfailed : 0 < t.got → t.writing ≡ None
  pub limit : length fed + (t.got + t.left) ≤ max_input
  pub all : t.writing ≡ None → length fed + (t.got + t.left) ≡ max_input
  pub reading_lasts : ErrorLasts t.reading
  pub writing_lasts : ErrorLasts t.writing

-- there was no error, or there was one
pub no-error-or-one : (error : Option Errno) → (error ≡ None) ⊎ IsSome error
no-error-or-one None = inl refl
no-error-or-one (Some e) = inr refl

begun-counted : {t : State} {chunk : List ℕ} → BeginsRun t chunk → Counted [] t chunk
begun-counted b =
    rw b.begins
    record {
      within = b.reads.within;
      unfailed = λ _. refl;
      limit = omega (arith, b.reads.falls);
      all = λ _. omega (arith, b.reads.falls);
      reading_lasts = b.reads.lasts;
      writing_lasts = tt;
    }

module _ {fed s₁ buffer₁ chunk₁ s' buffer' chunk' : List ℕ} {t r : State} (u : Counted fed t chunk₁) (more : 0 < t.got)
    (p : Steps t s₁ buffer₁ chunk₁ r s' buffer' chunk') where
  stepped-counted : Counted (fed ++ take p.passes.consumed (take t.got chunk₁)) r chunk'
  stepped-counted =
      let q = p.passes in
      let read = take t.got chunk₁ in
      let length-read : length read ≡ t.got = length-take-le t.got chunk₁ u.within in
      let length-consumed : length (take q.consumed read) ≡ q.consumed = length-take-le q.consumed read q.consumes.within in
      let length-fed : length (fed ++ take q.consumed read) ≡ length fed + q.consumed =
      omega (arith, length-append fed (take q.consumed read)) in
      let before : length fed + (t.got + t.left) ≡ max_input = u.all (u.unfailed more) in
      rw p.steps
      record {
        within = p.reads.within;
        unfailed = λ h. ⊎_elim (λ z. z) (λ k. absurd (omega (arith, ap (λ (i : Input). i.got) (p.stops k)))) (no-error-or-one p.passed.error);
        limit = omega (arith, q.consumes.within, p.reads.falls);
        all = λ z. omega (arith, q.all z, p.reads.falls);
        reading_lasts = p.reads.lasts;
        writing_lasts = q.lasts;
      }

pub ran-counted : {s buffer fed put s' buffer' chunk : List ℕ} {t : State} → Ran s buffer fed put t s' buffer' chunk → Counted fed t chunk
ran-counted (begun b) = begun-counted b
ran-counted (stepped a more p) = stepped-counted (ran-counted a) more p

pub ran-pieces : {s buffer fed put s' buffer' chunk : List ℕ} {t : State} → Ran s buffer fed put t s' buffer' chunk
    → Pieces fresh_ledger s buffer 0 fed put t.ledger s' buffer' t.fill
ran-pieces (begun b) = rw b.begins done
ran-pieces (stepped a more p) = rw p.steps (pieces_then (ran-pieces a) p.passes.consumes.pieces)

-- For some bytes, as many as the limit lost: what was put out, by the pieces and at the end, is the output of these. (That they are those of the input is not said.)
pub record RunOutputs (r : Ended) (out : List ℕ) : Type 0 where
  pub fed : List ℕ
  pub put : List ℕ
  pub counted : length fed + r.left ≡ max_input
  pub output : put ++ take r.taken out ≡ output_of fed

-- no error is none that there is
pub none-no-error : {error : Option Errno} → IsSome error → error ≡ None → ⊥
none-no-error {error = None} h e = cc
none-no-error {error = Some e'} h e = cc

runs-output : {s buffer out s'' buffer'' out'' : List ℕ} {r : Ended} → Lent s buffer out → Runs s buffer r s'' buffer'' out'' → r.writing ≡ None → RunOutputs r out''
runs-output lent (stopped fed put chunk t ran failed same) good = absurd (none-no-error failed (ap (λ (e : Ended). e.writing) (sym same) ∙ good))
runs-output {s = s} {buffer = buffer} {s'' = s''} {buffer'' = buffer''} {out'' = out''} lent (ended fed put chunk t s' out m ran none good room ends same) written =
    let counted : length fed + (t.got + t.left) ≡ max_input = (ran-counted ran).all good in
    let whole : take max_input fed ≡ fed = take_all max_input fed (omega arith) in
    let pieces : Pieces fresh_ledger s buffer 0 (take max_input fed) put t.ledger s' buffer'' t.fill =
    subst (λ (xs : List ℕ). Pieces fresh_ledger s buffer 0 xs put t.ledger s' buffer'' t.fill) (sym whole) (ran-pieces ran) in
    let report = pieces-reported fed lent.store_long lent.line_long (ran-pieces ran) room ends.finishes in
    let finishes : FinishRow t.ledger s' buffer'' t.fill out (with_report report.0) s'' out'' =
    subst (λ (v : EndValues). FinishRow t.ledger s' buffer'' t.fill out v s'' out'') report.1 ends.finishes in
    let unfailed : m.error ≡ None = ap (λ (e : Ended). e.writing) (sym same) ∙ written in
    record {
      fed = fed;
      put = put;
      counted = omega (arith, ap (λ (e : Ended). e.left) same);
      output =
          ap (λ (n : ℕ). put ++ take n out'') (ap (λ (e : Ended). e.taken) same ∙ ends.writes.all unfailed ∙ ap put_out report.1)
          ∙ in_pieces fed lent.store_long lent.line_long pieces finishes;
    }

-- where no write failed
pub command-output : {r : Ended} (c : Commands r) → r.writing ≡ None → RunOutputs r c.last_out
command-output c good = runs-output c.lent c.runs good

-- The errors that are told are of calls that failed for good, never of one that was interrupted or would block.
pub record Lasts (r : Ended) : Type 0 where
  pub reading : ErrorLasts r.reading
  pub writing : ErrorLasts r.writing

runs-errors : {s buffer s'' buffer'' out'' : List ℕ} {r : Ended} → Runs s buffer r s'' buffer'' out'' → Lasts r
runs-errors (stopped fed put chunk t ran failed same) = rw same record { reading = (ran-counted ran).reading_lasts; writing = (ran-counted ran).writing_lasts }
runs-errors (ended fed put chunk t s' out m ran none good room ends same) = rw same record { reading = (ran-counted ran).reading_lasts; writing = ends.writes.lasts }

pub command-errors : {r : Ended} → Commands r → Lasts r
command-errors c = runs-errors c.runs
