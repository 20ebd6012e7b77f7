-- How many places of a ledger that stands have a standing: as many as the rules' table has rows with that verdict.
use Rattle.std.specs.Prelude.{◌≡◌, refl, ℕ, ◌<◌, List, map, Bool, length}
use Rattle.std.proofs.Common.{sym, ◌∙◌, subst}
use Rattle.std.proofs.Math.Path.{ap}
use Rattle.std.proofs.lemmas.List.{length-map}
use Rattle.bytes_order.specs.Member.{◌∈◌, keep, SameMembers}
use Rattle.bytes_order.specs.MemberLaws.{∈-cast, ∈-map, map-∈, ∈-keep, keep-∈}
use Rattle.bytes_order.specs.Distinct.{Distinct}
use Rattle.bytes_order.specs.DistinctLaws.{distinct-keep, distinct-map, distinct-same-length}
use Rattle.update_format.specs.Update.{Update}
use Rattle.rules.specs.Standing.{Held, Void, Waiting}
use Rattle.rules.specs.Settle.{Row, Table, settled_table}
use Rattle.rules.proofs.Decides.{Decides}
use Rattle.rules.proofs.LeastSets.{held-not-void}
use Rattle.rules.proofs.Settling.{settled-decides}
use Rattle.bitset.specs.Below.{count_below}
use Rattle.bitset.specs.BelowLaws.{count_below-cong, count-keep}
use Rattle.rules.specs.declared.Standing.{Standing}
use Rattle.rules.specs.declared.Standing.TheVariants.{Held as IsHeld, Waiting as IsWaiting, Void as IsVoid}
use Rattle.ledger_state.specs.State.{Book, place_at, is_held, is_void, standing_count}
use Rattle.ledger_state.specs.Stands.{ident, rules, no_update, update_at, Stands}
use Rattle.ledger_state.specs.Verdicts.{verdict, verdict-at, placed}

-- what a verdict on an update of the set means
abbrev Means : List Update → Standing → Update → Type 0
Means us IsHeld u = Held rules us u
Means us IsWaiting u = Waiting rules us u
Means us IsVoid u = Void rules us u

means-one : (us : List Update) (u : Update) (x y : Standing) → Means us x u → Means us y u → x ≡ y
means-one us u IsHeld IsHeld a b = refl
means-one us u IsHeld IsWaiting a b = absurd (b.not-held a)
means-one us u IsHeld IsVoid a b = absurd (held-not-void rules us a b)
means-one us u IsWaiting IsHeld a b = absurd (a.not-held b)
means-one us u IsWaiting IsWaiting a b = refl
means-one us u IsWaiting IsVoid a b = absurd (a.not-void b)
means-one us u IsVoid IsHeld a b = absurd (held-not-void rules us b a)
means-one us u IsVoid IsWaiting a b = absurd (b.not-void a)
means-one us u IsVoid IsVoid a b = refl

module _ (l : Book) (s : List ℕ) (us : List Update) (stands : Stands l s us) where
  table : Table
  table = settled_table rules us

  decides : Decides rules us table
  unfolding table
  decides = settled-decides rules us stands.holds.distinct

  -- what a place and what a row says
  place-means : (k : ℕ) → k < length us → (v : Standing) → (place_at l k).standing ≡ v → Means us v (update_at us k)
  place-means k g IsHeld e = stands.truthful.held_right k g e
  place-means k g IsWaiting e = stands.settled.waiting_right k g e
  place-means k g IsVoid e = stands.truthful.void_right k g e

  row-means : (r : Row) → r ∈ table → (x : Standing) → r.verdict ≡ x → Means us x r.update
  row-means r m IsHeld e = decides.held_right r m e
  row-means r m IsWaiting e = decides.waiting_right r m e
  row-means r m IsVoid e = decides.void_right r m e

  -- they say the same
  row-verdict : (r : Row) → r ∈ table → verdict l r.update ≡ r.verdict
  row-verdict r m =
      let p = placed l s us stands.holds (decides.of_set r m) in
      sym p.says
      ∙ means-one us r.update (place_at l p.place).standing r.verdict
      (subst (Means us (place_at l p.place).standing) p.is
      (place-means p.place p.inside (place_at l p.place).standing refl))
      (row-means r m r.verdict refl)

  module _ (p : Standing → Bool) where
    abbrev passes : Row → Bool
    passes r = p r.verdict

    abbrev passing : Update → Bool
    passing u = p (verdict l u)

    abbrev updates : List Update
    updates = map (λ (r : Row). r.update) (keep passes table)

    updates-distinct : Distinct ident updates
    updates-distinct =
        distinct-map ident (λ (r : Row). r.update) (distinct-keep passes decides.once)
        (λ x y m n e. decides.has-id x (keep-∈ passes table m).0 ∙ e ∙ sym (decides.has-id y (keep-∈ passes table n).0))

    same-updates : SameMembers (keep passing us) updates
    same-updates =
        record {
          forth = λ u m.
              let a = keep-∈ passing us m in
              let r = decides.row_for u a.0 in
              let q = ap p (sym (row-verdict r.0 r.1) ∙ ap (verdict l) r.2) ∙ a.1 in
              ∈-cast (sym r.2) (∈-map (λ (x : Row). x.update) (∈-keep passes r.1 q));
          back = λ u m.
              let r = map-∈ (λ (x : Row). x.update) (keep passes table) m in
              let a = keep-∈ passes table r.1 in
              let q = ap p (ap (verdict l) (sym r.2) ∙ row-verdict r.0 a.0) ∙ a.1 in
              ∈-keep passing (subst (λ (v : Update). v ∈ us) r.2 (decides.of_set r.0 a.0)) q;
        }

    -- the places with a verdict, and the rows
    verdict-count : count_below (length us) (λ (k : ℕ). p (place_at l k).standing) ≡ length (keep passes table)
    verdict-count =
        count_below-cong (length us) (λ (k : ℕ). p (place_at l k).standing) (λ (k : ℕ). passing (update_at us k))
        (λ k g. ap p (sym (verdict-at l s us stands.holds k g)))
        ∙ count-keep passing us no_update
        ∙ distinct-same-length (distinct-keep passing stands.holds.distinct) updates-distinct same-updates
        ∙ length-map (keep passes table) (λ (r : Row). r.update)

    standing-count : standing_count p l ≡ length (keep (λ (r : Row). p r.verdict) (settled_table rules us))
    unfolding standing_count table
    standing-count = ap (λ (n : ℕ). count_below n (λ (k : ℕ). p (place_at l k).standing)) stands.holds.number ∙ verdict-count

  pub held-count : standing_count is_held l ≡ length (keep (λ (r : Row). is_held r.verdict) (settled_table rules us))
  held-count = standing-count is_held

  pub void-count : standing_count is_void l ≡ length (keep (λ (r : Row). is_void r.verdict) (settled_table rules us))
  void-count = standing-count is_void
