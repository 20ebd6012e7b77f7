-- Settling keeps what is so and ends with a ledger that stands as the rules say; and what it keeps of any ledger.
use Rattle.std.specs.Prelude.{◌≡◌, refl, ℕ, ◌≤◌, ◌<◌, List, true, length}
use Rattle.std.proofs.Common.{sym, ◌∙◌, ap, subst, subst₂, arith}
use Rattle.bytes_order.specs.Member.{◌∈◌}
use Rattle.bytes_order.specs.MemberLaws.{get_or-∈}
use Rattle.update_format.specs.Update.{Update}
use Rattle.update_format.specs.Decode.{slice}
use Rattle.rules.specs.Standing.{Ancestor, Known, Held, Void}
use Rattle.rules.proofs.LeastSets.{SoundVerdicts, Stable, settled-waiting}
use Rattle.bitset.specs.Bits.{has, within}
use Rattle.bitset.specs.BitsLaws.{within_none}
use Rattle.rules.specs.declared.Standing.{Standing}
use Rattle.rules.specs.declared.Standing.TheVariants.{Held as IsHeld, Waiting as IsWaiting, Void as IsVoid}
use Rattle.ledger_judging.specs.declared.Judgement.TheVariants.{Holds as Judged-holds, Fails, Waits}
use Rattle.ledger_state.specs.State.{Place, Book, place_at, with_standing, start_of}
use Rattle.ledger_state.proofs.StandingLaws.{held≢void}
use Rattle.ledger_state.specs.Row1.{sound}
use Rattle.ledger_state.proofs.Row1Laws.{SoundPlace, sound→, sound←, holds-sound}
use Rattle.ledger_state.specs.Verdicts.{verdict, verdict-at, Placed, placed}
use Rattle.ledger_judging.specs.Judge.{judge_at}
use Rattle.ledger_state.specs.Stands.{ident, rules, no_update, update_at, Holds, Truthful, Settled, Stands}
use Rattle.ledger_state.proofs.BookLaws.{replaced-cases}
use Rattle.ledger_judging.specs.JudgeWithin.{judge-within}
use Rattle.ledger_judging.specs.JudgeLaws.{judged-held, judged-above, judged-above-all, judged-void, judged-no-void, judged-not-ready}
use Rattle.ledger_settling.specs.Settle.{Settles, to_held, to_void, SettleSteps, start, held, void, OthersWait, SettledFrom}

module _ {l : Book} {s : List ℕ} {k : ℕ} where
  settles-held : {v : Standing} {w : ℕ} → Settles l s k v w → v ≡ IsHeld → judge_at l s k ≡ Judged-holds w
  settles-held (to_held e) q = e
  settles-held (to_void e) q = absurd (held≢void (sym q))

  settles-void : {v : Standing} {w : ℕ} → Settles l s k v w → v ≡ IsVoid → judge_at l s k ≡ Fails
  settles-void (to_held e) q = absurd (held≢void q)
  settles-void (to_void e) q = e

  -- a place that is settled and not held gets no ancestors
  settles-none-above : {v : Standing} {w : ℕ} → Settles l s k v w → (v ≡ IsHeld → ⊥) → w ≡ 0
  settles-none-above (to_held e) n = absurd (n refl)
  settles-none-above (to_void e) n = refl

-- what each step keeps, settling keeps
module _ (I : Book → Type 0) (s : List ℕ)
    (step : (m : Book) (k : ℕ) (v : Standing) (w : ℕ) → k < m.used → (place_at m k).standing ≡ IsWaiting → Settles m s k v w → I m
    → I (with_standing m k v w)) where
  steps-keep : {l r : Book} {h v : ℕ} → SettleSteps s l h v r → I l → I r
  steps-keep start i = i
  steps-keep (held {m = m} {k = k} {w = w} p g q e) i = step m k IsHeld w g q (to_held e) (steps-keep p i)
  steps-keep (void {m = m} {k = k} p g q e) i = step m k IsVoid 0 g q (to_void e) (steps-keep p i)

-- a place of a ledger in which the place k was settled: what it was, or the new one
module _ (l : Book) (k : ℕ) (v : Standing) (w : ℕ) where
  abbrev pub settled-place : Place
  settled-place = record { id = (place_at l k).id; length = (place_at l k).length; ancestors = w; standing = v }

  pub place-cases : (P : Place → Type 0) (j : ℕ) → P (place_at l j) → (j ≡ k → P settled-place) → P (place_at (with_standing l k v w) j)
  place-cases P = replaced-cases l.place k settled-place P

  pub same_id : (j : ℕ) → (place_at (with_standing l k v w) j).id ≡ (place_at l j).id
  same_id j = place-cases (λ p. p.id ≡ (place_at l j).id) j refl (λ e. ap (λ (i : ℕ). (place_at l i).id) (sym e))

  pub same_length : (j : ℕ) → (place_at (with_standing l k v w) j).length ≡ (place_at l j).length
  same_length j = place-cases (λ p. p.length ≡ (place_at l j).length) j refl (λ e. ap (λ (i : ℕ). (place_at l i).length) (sym e))

-- what settling keeps of any ledger: its terms; the places and their ids and lengths; and each place that did not wait
pub record Kept (l r : Book) : Type 0 where
  pub terms_kept : r.terms ≡ l.terms
  pub used_kept : r.used ≡ l.used
  pub id_kept : (k : ℕ) → (place_at r k).id ≡ (place_at l k).id
  pub length_kept : (k : ℕ) → (place_at r k).length ≡ (place_at l k).length
  pub settled_kept : (k : ℕ) → ((place_at l k).standing ≡ IsWaiting → ⊥) → place_at r k ≡ place_at l k
  pub untaken_kept : (k : ℕ) → l.used ≤ k → place_at r k ≡ place_at l k

kept_refl : (l : Book) → Kept l l
kept_refl l =
    record {
      terms_kept = refl;
      used_kept = refl;
      id_kept = λ k. refl;
      length_kept = λ k. refl;
      settled_kept = λ k n. refl;
      untaken_kept = λ k h. refl;
    }

kept_trans : {l m r : Book} → Kept l m → Kept m r → Kept l r
kept_trans {l} {m} {r} a b =
    record {
      terms_kept = b.terms_kept ∙ a.terms_kept;
      used_kept = b.used_kept ∙ a.used_kept;
      id_kept = λ k. b.id_kept k ∙ a.id_kept k;
      length_kept = λ k. b.length_kept k ∙ a.length_kept k;
      settled_kept = λ k n.
          let e = a.settled_kept k n in b.settled_kept k (λ q. n (ap (λ (p : Place). p.standing) (sym e) ∙ q)) ∙ e;
      untaken_kept = λ k h. b.untaken_kept k (subst (λ (u : ℕ). u ≤ k) (sym a.used_kept) h) ∙ a.untaken_kept k h;
    }

kept_step : (l : Book) (k : ℕ) (v : Standing) (w : ℕ) → k < l.used → (place_at l k).standing ≡ IsWaiting → Kept l (with_standing l k v w)
kept_step l k v w h q =
    record {
      terms_kept = refl;
      used_kept = refl;
      id_kept = same_id l k v w;
      length_kept = same_length l k v w;
      settled_kept = λ j n.
          place-cases l k v w (λ p. p ≡ place_at l j) j refl
          (λ e. absurd (n (subst (λ (i : ℕ). (place_at l i).standing ≡ IsWaiting) (sym e) q)));
      untaken_kept = λ j g. place-cases l k v w (λ p. p ≡ place_at l j) j refl (λ (e : j ≡ k). absurd (omega arith));
    }

-- the word of a place that is settled names taken places only, if those of the taken places do
settles-within : (l : Book) → ((j : ℕ) → j < l.used → within (place_at l j).ancestors l.used ≡ true)
    → {s : List ℕ} {k : ℕ} {v : Standing} {w : ℕ} → Settles l s k v w → within w l.used ≡ true
settles-within l taken {s} {k} {w = w} (to_held e) = judge-within l taken s k w e
settles-within l taken (to_void e) = within_none l.used

sound-step : (s : List ℕ) (l : Book) (k : ℕ) (v : Standing) (w : ℕ) → Settles l s k v w → sound l s ≡ true
    → sound (with_standing l k v w) s ≡ true
sound-step s l k v w j e =
    let h = sound→ l s e in
    let inside = settles-within l (λ i g. (h.each i g).inside) j in
    sound← (with_standing l k v w) s
    (record {
      terms_allowed = h.terms_allowed;
      store = h.store;
      few = h.few;
      each = λ i g.
          place-cases l k v w (SoundPlace l.terms l.used) i (h.each i g)
          (λ (q : i ≡ k).
          let p = h.each k (subst (λ (x : ℕ). x < l.used) q g) in record { long = p.long; short = p.short; inside = inside });
    })

-- settling a place keeps what is so
module _ (s : List ℕ) (us : List Update) where
  holds-step : (l : Book) (k : ℕ) (v : Standing) (w : ℕ) → within w l.used ≡ true → Holds l s us → Holds (with_standing l k v w) s us
  holds-step l k v w inside h =
      record {
        terms_allowed = h.terms_allowed;
        store_whole = h.store_whole;
        room = h.room;
        number = h.number;
        bounded = h.bounded;
        distinct = h.distinct;
        ids = λ j g. same_id l k v w j ∙ h.ids j g;
        lengths = λ j g. same_length l k v w j ∙ h.lengths j g;
        bytes = λ j g. ap (λ (n : ℕ). slice s (start_of l.terms j) n) (same_length l k v w j) ∙ h.bytes j g;
        inside = λ j g. place-cases l k v w (λ p. within p.ancestors (length us) ≡ true) j (h.inside j g)
            (λ _. subst (λ (n : ℕ). within w n ≡ true) h.number inside);
      }

  truthful-step : (l : Book) (k : ℕ) (v : Standing) (w : ℕ) → k < length us → Settles l s k v w → Holds l s us → Truthful l us
      → Truthful (with_standing l k v w) us
  truthful-step l k v w hk j h t =
      record {
        held_right = λ i g.
            place-cases l k v w (λ p. p.standing ≡ IsHeld → Held rules us (update_at us i)) i (t.held_right i g)
            (λ e q. subst (λ (x : ℕ). Held rules us (update_at us x)) (sym e) (judged-held l s us h t k w hk (settles-held j q)));
        void_right = λ i g.
            place-cases l k v w (λ p. p.standing ≡ IsVoid → Void rules us (update_at us i)) i (t.void_right i g)
            (λ e q. subst (λ (x : ℕ). Void rules us (update_at us x)) (sym e) (judged-void l s us h t k hk (settles-void j q)));
        above_right = λ i a g ga.
            place-cases l k v w
            (λ p. p.standing ≡ IsHeld → has p.ancestors a ≡ true → Ancestor rules us (update_at us a) (update_at us i))
            i
            (t.above_right i a g ga)
            (λ e q b.
            subst (λ (x : ℕ). Ancestor rules us (update_at us a) (update_at us x)) (sym e)
            (judged-above l s us h t k w a hk ga (settles-held j q) b));
        above_all = λ i a g ga.
            place-cases l k v w
            (λ p. p.standing ≡ IsHeld → Ancestor rules us (update_at us a) (update_at us i) → has p.ancestors a ≡ true)
            i
            (t.above_all i a g ga)
            (λ e q b.
            judged-above-all l s us h t k w a hk ga (settles-held j q)
            (subst (λ (x : ℕ). Ancestor rules us (update_at us a) (update_at us x)) e b));
        none_above = λ i g.
            place-cases l k v w (λ p. (p.standing ≡ IsHeld → ⊥) → p.ancestors ≡ 0) i (t.none_above i g) (λ e. settles-none-above j);
      }

-- a ledger that says what is so, and judges each waiting place to go on waiting, is settled
module _ (l : Book) (s : List ℕ) (us : List Update) (h : Holds l s us) (t : Truthful l us)
    (still : (k : ℕ) → k < length us → (place_at l k).standing ≡ IsWaiting → judge_at l s k ≡ Waits) where
  ledger-sound : SoundVerdicts rules us (verdict l)
  ledger-sound =
      record {
        held-sound = λ u m e.
            let p = placed l s us h m in
            subst (Held rules us) p.is (t.held_right p.place p.inside ((p.says ∙ e)));
        void-sound = λ u m e.
            let p = placed l s us h m in
            subst (Void rules us) p.is (t.void_right p.place p.inside ((p.says ∙ e)));
      }

  judged-waits : {u : Update} (p : Placed l s us h u) → verdict l u ≡ IsWaiting → judge_at l s p.place ≡ Waits
  judged-waits p e = still p.place p.inside ((p.says ∙ e))

  ledger-stable : Stable rules us (verdict l)
  ledger-stable =
      record {
        no-void = λ u v m n e i f.
            let p = placed l s us h m in
            let q = placed l s us h n in
            judged-no-void l s us h t p.place q.place p.inside q.inside (judged-waits p e)
            (subst₂ (λ (x y : Update). ident x ∈ y.preds) (sym q.is) (sym p.is) i)
            ((q.says ∙ f));
        not-ready = λ u m e k all.
            let p = placed l s us h m in
            judged-not-ready l s us h t p.place p.inside (judged-waits p e) (subst (Known rules us) (sym p.is) k)
            (λ j g i.
            (sym (verdict-at l s us h j g)
            ∙ all (update_at us j) (get_or-∈ us j no_update g) (subst (λ (y : Update). ident (update_at us j) ∈ y.preds) p.is i)));
      }

  ledger-settled : Settled l us
  ledger-settled =
      record {
        waiting_right = λ k g q.
            settled-waiting rules us (verdict l) ledger-sound ledger-stable (update_at us k) (get_or-∈ us k no_update g)
            (verdict-at l s us h k g ∙ q);
      }

-- of any ledger
pub settled_kept : (l : Book) (s : List ℕ) (r : Book) {h v : ℕ} → SettledFrom l s h v r → Kept l r
settled_kept l s r f = steps-keep (Kept l) s (λ m k v w g q _ i. kept_trans i (kept_step m k v w g q)) f.reached (kept_refl l)

-- row 1 does not come up by settling
pub settled-sound : (l : Book) (s : List ℕ) (r : Book) {h v : ℕ} → SettledFrom l s h v r → sound l s ≡ true → sound r s ≡ true
settled-sound l s r f = steps-keep (λ m. sound m s ≡ true) s (λ m k v w _ _ j. sound-step s m k v w j) f.reached

-- settling ends with a ledger that stands
pub settled-stands : (l : Book) (s : List ℕ) (us : List Update) (r : Book) {h v : ℕ} → Holds l s us → Truthful l us → OthersWait l s → SettledFrom l s h v r
    → Stands r s us
settled-stands l s us r h t others f =
    let i = steps-keep (λ m. Holds m s us × Truthful m us) s
    (λ m k v w g _ j i. (
      holds-step s us m k v w (settles-within m (λ x y. ((holds-sound m s us i.0).each x y).inside) j) i.0,
      truthful-step s us m k v w (subst (λ (n : ℕ). k < n) i.0.number g) j i.0 i.1,
    ))
    f.reached
    (h, t) in
    record {
      holds = i.0;
      truthful = i.1;
      settled = ledger-settled r s us i.0 i.1 (λ k g. f.done others k (subst (λ (n : ℕ). k < n) (sym i.0.number) g));
    }
