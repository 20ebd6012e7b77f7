-- The worklist: the places settled so far, in order. One fact is kept of it (`WorklistAt`): a place that is due, which is one that waits and is not judged to go on waiting, is a
-- successor of a settled place whose successors were not judged yet. A place that is judged to wait is due no more; of one that is settled, the successors become due, and it
-- goes on the worklist. At the end of the worklist nothing is due.
use Rattle.std.specs.Prelude.{◌≡◌, ℕ, ◌+◌, ◌≤◌, ◌<◌, ◌⊎◌, List, [], ◌∷◌, ◌++◌, true, length, drop}
use Rattle.bytes_order.specs.Member.{◌∈◌}
use Rattle.update_format.specs.Update.{Id}
use Rattle.rules.specs.declared.Standing.TheVariants.{Held, Waiting, Void}
use Rattle.ledger_judging.specs.declared.Judgement.TheVariants.{Holds, Fails, Waits}
use Rattle.ledger_state.specs.State.{Book, place_at, with_standing}
use Rattle.ledger_state.specs.View.{book_of}
use Rattle.ledger_judging.specs.Judge.{judge_at}
use Rattle.ledger_settling.specs.declared.settling.Settling.{Settling}
use Rattle.ledger_settling.specs.Settle.{SettleSteps, OthersWait, SettledFrom, follows_at}

-- each place that is due is one of these: every other that waits is judged to go on waiting
abbrev pub Due : Book → List ℕ → (ℕ → Type 0) → Type 0
Due l s these = (k : ℕ) → k < l.used → (place_at l k).standing ≡ Waiting → (judge_at l s k ≡ Waits) ⊎ these k

-- the update at place k names the id of one of the places ps
pub record Successor (l : Book) (s ps : List ℕ) (k : ℕ) : Type 0 where
  pub predecessor : ℕ
  pub among : predecessor ∈ ps
  pub named : follows_at l s (place_at l predecessor).id k ≡ true

-- how far settling has come: the bookkeeping, the worklist, how many places became held and how many void
pub record Progress : Type 0 where
  pub book : Book
  pub worklist : List ℕ
  pub held : ℕ
  pub void : ℕ

-- the view of the declared struct
abbrev pub progress_of : Settling → Progress
progress_of x = record { book = book_of x.ledger; worklist = x.worklist.items; held = x.held; void = x.void }

-- nothing is settled yet
abbrev pub unsettled : Book → Progress
unsettled l = record { book = l; worklist = []; held = 0; void = 0 }

-- the place k settled, as a held one or a void one, and on the worklist
abbrev pub with_held : Progress → ℕ → ℕ → Progress
with_held p k w = record { book = with_standing p.book k Held w; worklist = p.worklist ++ (k ∷ []); held = p.held + 1; void = p.void }

abbrev pub with_void : Progress → ℕ → Progress
with_void p k = record { book = with_standing p.book k Void 0; worklist = p.worklist ++ (k ∷ []); held = p.held; void = p.void + 1 }

-- the place k judged: it goes on waiting, or is settled and goes on the worklist
pub data Judged (s : List ℕ) (k : ℕ) (p : Progress) : Progress → Type 0 where
  waits : judge_at p.book s k ≡ Waits → Judged s k p p
  holds : {w : ℕ} → judge_at p.book s k ≡ Holds w → Judged s k p (with_held p k w)
  fails : judge_at p.book s k ≡ Fails → Judged s k p (with_void p k)

-- settling, from l, with the successors of the first i places of the worklist judged
pub record WorklistAt (l : Book) (s : List ℕ) (i : ℕ) (p : Progress) : Type 0 where
  pub reached : SettleSteps s l p.held p.void p.book
  pub due : OthersWait l s → Due p.book s (Successor p.book s (drop i p.worklist))

-- .. and of the successors of the next one, whose id is x, those below place k
pub record SuccessorsAt (l : Book) (s : List ℕ) (i : ℕ) (x : Id) (k : ℕ) (p : Progress) : Type 0 where
  pub reached : SettleSteps s l p.held p.void p.book
  pub listed : i < length p.worklist
  pub due : OthersWait l s
      → Due p.book s (λ (j : ℕ). Successor p.book s (drop (i + 1) p.worklist) j ⊎ ((k ≤ j) × (follows_at p.book s x j ≡ true)))

-- WHAT THE FUNCTIONS ASK AND OWE. (That the worklist has room is said of every `Settling`: `Roomy`.)
-- k is a taken place that waits
pub record WaitsAt (x : Settling) (k : ℕ) : Type 0 where
  pub taken : k < x.ledger.used
  pub waiting : (place_at (book_of x.ledger) k).standing ≡ Waiting

-- k is the newest place, and waits
pub record NewestWaits (l : Book) (k : ℕ) : Type 0 where
  pub used_within : l.used ≤ l.terms.places
  pub newest : k + 1 ≡ l.used
  pub waiting : (place_at l k).standing ≡ Waiting

-- the successors of the place at index i of the worklist were judged
pub record JudgesSuccessors (s : List ℕ) (i : ℕ) (x r : Settling) : Type 0 where
  pub onward : (l : Book) → WorklistAt l s i (progress_of x) → WorklistAt l s (i + 1) (progress_of r)

-- the worklist is at its end
pub record Empties (s : List ℕ) (x r : Settling) : Type 0 where
  pub settles : (l : Book) → WorklistAt l s 0 (progress_of x) → SettledFrom l s r.held r.void (book_of r.ledger)
