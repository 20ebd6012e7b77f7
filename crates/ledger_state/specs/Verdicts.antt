-- The standings of a ledger's places as verdicts on its updates: what each update of a ledger is said to be, waiting where it has no place.
use Rattle.std.specs.Prelude.{◌≡◌, ℕ, ◌<◌, List, length}
use Rattle.std.proofs.Common.{sym, ◌∙◌}
use Rattle.std.proofs.Math.Path.{ap}
use Rattle.std.specs.Prelude.{Option, None, Some}
use Rattle.bytes_order.specs.Member.{◌∈◌}
use Rattle.bytes_order.specs.MemberLaws.{∈-get_or}
use Rattle.update_format.specs.Update.{Update}
use Rattle.rules.specs.declared.Standing.{Standing}
use Rattle.rules.specs.declared.Standing.TheVariants.{Waiting}
use Rattle.ledger_state.specs.State.{Book, place_at, find_in}
use Rattle.ledger_state.specs.Stands.{ident, no_update, update_at, Holds}
use Rattle.ledger_state.specs.FindLaws.{find-all}

abbrev verdict_at : Book → Option ℕ → Standing
verdict_at l None = Waiting
verdict_at l (Some k) = (place_at l k).standing

pub verdict : Book → Update → Standing
verdict l u = verdict_at l (find_in l (ident u))

module _ (l : Book) (s : List ℕ) (us : List Update) (holds : Holds l s us) where
  pub verdict-at : (k : ℕ) → k < length us → verdict l (update_at us k) ≡ (place_at l k).standing
  unfolding verdict
  verdict-at k g = ap (verdict_at l) (find-all l s us holds k g)

  -- the place of a stored update, and what it says
  pub record Placed (u : Update) : Type 0 where
    pub place : ℕ
    pub inside : place < length us
    pub is : update_at us place ≡ u
    pub says : (place_at l place).standing ≡ verdict l u

  pub placed : {u : Update} → u ∈ us → Placed u
  placed m =
      let r = ∈-get_or no_update m in record { place = r.0; inside = r.1; is = r.2; says = sym (verdict-at r.0 r.1) ∙ ap (verdict l) r.2 }
