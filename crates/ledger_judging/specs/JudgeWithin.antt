-- The word of a place that is judged to hold names taken places only, whatever the ledger, if the words of the taken places do.
use Rattle.std.specs.Prelude.{◌≡◌, ℕ, ◌<◌, List, Bool, true, false, cond}
use Rattle.std.proofs.Common.{subst}
use Rattle.update_format.specs.Decode.{Decoded, refused, update}
use Rattle.bitset.specs.Bits.{join, within}
use Rattle.bitset.specs.BitsLaws.{within-join}
use Rattle.ledger_judging.specs.declared.Judgement.{Judgement}
use Rattle.ledger_judging.specs.declared.Judgement.TheVariants.{Holds as Judged-holds, Fails, Waits}
use Rattle.ledger_state.specs.State.{Book, place_at, decoded_at}
use Rattle.ledger_judging.specs.Antichain.{antichain_at}
use Rattle.ledger_judging.specs.Judge.{nothing_gathered, gather, valid, judge_ready, judge_gathered, judge_decoded, judge_at}
use Rattle.ledger_judging.specs.GatherLaws.{gather-inside}

module _ (l : Book) (taken : (j : ℕ) → j < l.used → within (place_at l j).ancestors l.used ≡ true) where
  data Within : Judgement → Type 0 where
    holds-within : {w : ℕ} → within w l.used ≡ true → Within (Judged-holds w)
    fails-within : Within Fails
    waits-within : Within Waits

  word-within : {w : ℕ} → Within (Judged-holds w) → within w l.used ≡ true
  word-within (holds-within e) = e

  either : (b : Bool) {x y : Judgement} → Within x → Within y → Within (cond b x y)
  either true p q = p
  either false p q = q

  decoded-within : (s : List ℕ) (d : Decoded) → Within (judge_decoded l s d)
  unfolding judge_decoded judge_gathered judge_ready
  decoded-within s (refused n) = waits-within
  decoded-within s (update u) =
      let g = gather l nothing_gathered u.preds in
      let i = gather-inside l taken u.preds in
      let inside = within-join g.direct g.above l.used i.0 i.1 in
      let ready =
      either (antichain_at l g.direct)
      (either (valid l s (join g.direct g.above) u.op) (holds-within inside) fails-within)
      fails-within in
      either g.void fails-within (either g.ready ready waits-within)

  pub judge-within : (s : List ℕ) (k w : ℕ) → judge_at l s k ≡ Judged-holds w → within w l.used ≡ true
  unfolding judge_at
  judge-within s k w e = word-within (subst Within e (decoded-within s (decoded_at l s k)))
