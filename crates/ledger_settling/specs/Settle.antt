-- What settling comes to, whatever the order in which places are judged: from a ledger, waiting places are settled one after the other, each as it is judged then, until every
-- place that waits is judged to go on waiting. The laws in `SettleLaws` say that a ledger so settled stands as the rules say.
use Rattle.std.specs.Prelude.{◌≡◌, ℕ, ◌+◌, ◌<◌, List, Bool, true, false, ◌&&◌}
use Rattle.bytes_order.specs.Member.{member}
use Rattle.update_format.specs.Update.{Id}
use Rattle.update_format.specs.Decode.{Decoded, refused, update}
use Rattle.rules.specs.declared.Standing.{Standing}
use Rattle.rules.specs.declared.Standing.TheVariants.{Held, Waiting, Void}
use Rattle.ledger_judging.specs.declared.Judgement.{Judgement}
use Rattle.ledger_judging.specs.declared.Judgement.TheVariants.{Holds, Fails, Waits}
use Rattle.ledger_state.specs.State.{Book, place_at, decoded_at, with_standing, is_waiting}
use Rattle.ledger_judging.specs.Judge.{judge_at}

-- the place k is judged, and gets this standing and ancestor word
pub data Settles (l : Book) (s : List ℕ) (k : ℕ) : Standing → ℕ → Type 0 where
  to_held : {w : ℕ} → judge_at l s k ≡ Holds w → Settles l s k Held w
  to_void : judge_at l s k ≡ Fails → Settles l s k Void 0

-- from l, waiting places were settled one after the other, each as it was judged then: h became held and v void, and r is what this came to
pub data SettleSteps (s : List ℕ) (l : Book) : ℕ → ℕ → Book → Type 0 where
  start : SettleSteps s l 0 0 l
  held : {h v : ℕ} {m : Book} {k w : ℕ} → SettleSteps s l h v m → k < m.used → (place_at m k).standing ≡ Waiting → judge_at m s k ≡ Holds w
      → SettleSteps s l (h + 1) v (with_standing m k Held w)
  void : {h v : ℕ} {m : Book} {k : ℕ} → SettleSteps s l h v m → k < m.used → (place_at m k).standing ≡ Waiting → judge_at m s k ≡ Fails
      → SettleSteps s l h (v + 1) (with_standing m k Void 0)

-- every place that waits, but the newest, is judged to go on waiting: so it is where the ledger was settled before the newest place was taken
abbrev pub OthersWait : Book → List ℕ → Type 0
OthersWait l s = (k : ℕ) → k + 1 < l.used → (place_at l k).standing ≡ Waiting → judge_at l s k ≡ Waits

-- every place that waits is judged to go on waiting: nothing is left to settle
abbrev pub AllWait : Book → List ℕ → Type 0
AllWait l s = (k : ℕ) → k < l.used → (place_at l k).standing ≡ Waiting → judge_at l s k ≡ Waits

-- r is what settling l comes to, with h places that became held and v that became void; and where the others waited in l, nothing is left to settle
pub record SettledFrom (l : Book) (s : List ℕ) (h v : ℕ) (r : Book) : Type 0 where
  pub reached : SettleSteps s l h v r
  pub done : OthersWait l s → AllWait r s

-- the judgement is to go on waiting
unfoldable pub is_waits : Judgement → Bool
is_waits (Holds w) = false
is_waits Fails = false
is_waits Waits = true

-- what was decoded is an update that names the id i among its predecessors
unfoldable pub follows : Id → Decoded → Bool
follows i (refused n) = false
follows i (update u) = member i u.preds

abbrev pub follows_at : Book → List ℕ → Id → ℕ → Bool
follows_at l s i k = follows i (decoded_at l s k)

-- the place k waits, and its update names the id i
abbrev pub waits_for : Book → List ℕ → Id → ℕ → Bool
waits_for l s i k = is_waiting (place_at l k).standing && follows_at l s i k
